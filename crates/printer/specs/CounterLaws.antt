-- What is true of digits and of counting: what a counter prints as, how large it can be, and that counting keeps a counter valid.
use Rattle.std.specs.Prelude.{ℕ, zero, suc, ◌<◌, Bool, true, List, [], ◌∷◌, ◌++◌, ◌↔◌, ◌≡◌, length, get_or, take, drop}
use Rattle.content.specs.Byte.{all_characters}
use Rattle.printer.specs.Number.{digits, in_bytes, number_of, value}
use Rattle.printer.specs.Counter.{Counter, batch_size, counted, counter_bytes, counter_of, counter_size, counter_text, final, good_settings, initial, is_set, lot, set_to, step, valid_counter}

-- A counter prints as nine characters, whatever its value.
abbrev pub DigitsPrint : Type 0
DigitsPrint = (n : ℕ) → (all_characters (digits n) ≡ true) × (length (digits n) ≡ 9)

-- The nine digits come to the number they were made of exactly where it is below 1,000,000,000, and three bytes exactly where it is
-- below 2^24.
abbrev pub DigitsValue : Type 0
DigitsValue = (n : ℕ) → (value (digits n) ≡ n) ↔ (n < 1_000_000_000)

abbrev pub BytesValue : Type 0
BytesValue = (n : ℕ) → (number_of (in_bytes batch_size n) ≡ n) ↔ (n < 16_777_216)

-- Every entry of a list is a byte.
abbrev pub AllBytes : List ℕ → Type 0
AllBytes s = (i : ℕ) → get_or s i 0 < 256

-- Good settings are numbers of nine digits, of two, and of three bytes.
abbrev pub SettingsSmall : Type 0
SettingsSmall =
    (q : List ℕ) →
    AllBytes q →
    good_settings q ≡ true →
    (initial q < 1_000_000_000) × (final q < 1_000_000_000) × (step q < 100) × (lot q < 16_777_216)

-- So a valid counter that is set has no more than the nine digits that print, and its batch no more than the three bytes that 39h tells.
abbrev pub CounterSmall : Type 0
CounterSmall =
    (c : Counter) →
    AllBytes c.settings →
    valid_counter c ≡ true →
    is_set c ≡ true →
    (c.value < 1_000_000_000) × (c.batch < 16_777_216)

-- 01, On the wire: 39h answers "9 digits, 3 batch bytes": read back, they are the value and the batch.
abbrev pub CounterTold : Type 0
CounterTold =
    (c : Counter) →
    AllBytes c.settings →
    valid_counter c ≡ true →
    is_set c ≡ true →
    (value (take 9 (counter_text c)) ≡ c.value) × (number_of (drop 9 (counter_text c)) ≡ c.batch)

-- 01, Parameters, counter, clock: "Accepting them sets the counter to initial and the batch to 0": which is a valid counter.
abbrev pub SetValid : Type 0
SetValid = (q : List ℕ) → good_settings q ≡ true → valid_counter (set_to q) ≡ true

-- 01, Numbers: "the counter lies from initial to final with batch below lot". Counting keeps it so, keeps the settings, and leaves a
-- counter set that is set.
abbrev pub CountStays : Type 0
CountStays =
    (c : Counter) →
    valid_counter c ≡ true →
    (valid_counter (counted c) ≡ true) × ((counted c).settings ≡ c.settings) × ((counted c).set ≡ c.set)

-- A counter and its 34 bytes are one: what is written of a counter that fits is read back, and bytes are what their counter is written
-- in.
abbrev pub CounterWhole : Type 0
CounterWhole =
    ((c : Counter) → length c.settings ≡ 26 → c.value < 4_294_967_296 → c.batch < 16_777_216 → counter_of (counter_bytes c) ≡ c)
    × ((b : List ℕ) → length b ≡ counter_size → AllBytes b → counter_bytes (counter_of b) ≡ b)

-- The values that prints show, one after the other.
abbrev pub shown : ℕ → Counter → List ℕ
shown zero c = []
shown (suc prints) c = c.value ∷ shown prints (counted c)

-- 01, Samples: "Initial 98, final 100, step 2, lot 2".
abbrev pub by_twos : List ℕ
by_twos = 0x89 ∷ digits 98 ++ digits 100 ++ (0x30 ∷ 0x32 ∷ 0x00 ∷ 0x00 ∷ 0x02 ∷ 0x00 ∷ 0x00 ∷ [])

-- 01, Samples, of counting by twos: "prints show 98, 98, 100, 100, 98".
abbrev pub CountSamples : Type 0
CountSamples =
    ◌≡◌ {A = List ℕ × Bool}
    (shown 5 (set_to by_twos), good_settings by_twos)
    (98 ∷ 98 ∷ 100 ∷ 100 ∷ 98 ∷ [], true)
