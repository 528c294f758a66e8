-- The laws of digits and of counting that specs/CounterLaws states: nine digits are a number below 10 ^ 9, and counting stays within the settings.
use Prim.Native.Nat.{ℕ, ◌+◌, ◌*◌, ◌/◌, ◌%◌, ◌≤◌, ◌<◌}
use mathlib.Core.Bool.{true}
use mathlib.Core.List.{List, [], ◌∷◌}
use mathlib.Core.Path.{◌≡◌, refl, sym, ◌∙◌, ap}
use native.Mathlib.Nat.{div-add-mod', div-eq_of_lt, div-one, div-div-eq-div-mul, mod-lt}
use native.Mathlib.Omega.{arith}
use borrow.Author.Tests.{leb-true, ltb-true}
use lib.Dec.{leb, ltb}
use lib.ListN.{length, take, drop, length-take}
use lib.Seq.{drop_at, take_at}
use Rattle.content.specs.Byte.{all_characters, is_character}
use Rattle.frame.proofs.Ground.{both_true, true_both, true_within, pick_case}
use Rattle.printer.specs.Number.{all_digits, digit, digits, in_bytes, is_digit, number_of, value, value_from}
use Rattle.printer.specs.Counter.{Counter, counted, counter_text, final, good_settings, grown, initial, is_set, lot, moved, next_batch, next_value, set_to, step, valid_counter}
use Rattle.printer.specs.CounterLaws.{AllBytes, BytesValue, CountSamples, CountStays, CounterSmall, CounterTold, CounterWhole, DigitsPrint, DigitsValue, SetValid, SettingsSmall}
use Rattle.printer.proofs.Numbers.{Bytes, bytes_drop, bytes_take, digits_part, is_digit_true, number_in_bytes, three_fit, value_fits}
use Rattle.printer.proofs.Counters.{Counting, counter_again, counter_back, good_tells, set_one, tells_valid, valid_tells}

-- ---- Digits.
digit_is_digit : (n : ℕ) → is_digit (n % 10 + 0x30) ≡ true
unfolding is_digit
digit_is_digit n = let h = mod-lt n {m = 10} (omega arith) in true_within 0x30 0x39 (n % 10 + 0x30) (omega arith) (omega arith)

digits_are_digits : (n : ℕ) → all_digits (digits n) ≡ true
unfolding digits
digits_are_digits n =
    true_both _ _ (digit_is_digit _)
    (true_both _ _ (digit_is_digit _)
    (true_both _ _ (digit_is_digit _)
    (true_both _ _ (digit_is_digit _)
    (true_both _ _ (digit_is_digit _)
    (true_both _ _ (digit_is_digit _)
    (true_both _ _ (digit_is_digit _)
    (true_both _ _ (digit_is_digit _)
    (true_both _ _ (digit_is_digit _) refl))))))))

digits_are_characters : (s : List ℕ) → all_digits s ≡ true → all_characters s ≡ true
unfolding is_character
digits_are_characters [] e = refl
digits_are_characters (b ∷ s) e =
    let p = both_true (is_digit b) (all_digits s) e in
    let d = is_digit_true b p.0 in
    true_both (is_character b) (all_characters s) (true_within 0x20 0x7E b (omega arith) (omega arith)) (digits_are_characters s p.1)

pub digits_nine : (n : ℕ) → length (digits n) ≡ 9
unfolding digits
digits_nine n = refl

pub digits_print : DigitsPrint
digits_print n = (digits_are_characters (digits n) (digits_are_digits n), digits_nine n)

-- One more digit: what the digits before it come to, and it.
digit_on : (n p : ℕ) (s : List ℕ) → value_from (n / (p * 10)) (digit n p ∷ s) ≡ value_from (n / p) s
digit_on n p s = ap (λ (m : ℕ). value_from m s) (rw (← div-div-eq-div-mul n p 10) (omega (arith, div-add-mod' (n / p) 10)))

digits_come_to : (n : ℕ) → n < 1_000_000_000 → value (digits n) ≡ n
unfolding digits
digits_come_to n h =
    let none : 0 ≡ n / 1_000_000_000 = sym (div-eq_of_lt h) in
    ap (λ (m : ℕ). value_from m (digits n)) none
    ∙ digit_on n 100_000_000 (drop 1 (digits n))
    ∙ digit_on n 10_000_000 (drop 2 (digits n))
    ∙ digit_on n 1_000_000 (drop 3 (digits n))
    ∙ digit_on n 100_000 (drop 4 (digits n))
    ∙ digit_on n 10_000 (drop 5 (digits n))
    ∙ digit_on n 1_000 (drop 6 (digits n))
    ∙ digit_on n 100 (drop 7 (digits n))
    ∙ digit_on n 10 (drop 8 (digits n))
    ∙ digit_on n 1 []
    ∙ div-one n

pub digits_value : DigitsValue
digits_value n = (below, digits_come_to n)
  where
    below : value (digits n) ≡ n → n < 1_000_000_000
    below e = omega (arith, e, value_fits 9 (digits n) (omega (arith, digits_nine n)) (digits_are_digits n))

pub bytes_value : BytesValue
bytes_value n = (below, number_in_bytes 3 n)
  where
    below : number_of (in_bytes 3 n) ≡ n → n < 16_777_216
    below e =
        let a = mod-lt (n / 256 / 256) {m = 256} (omega arith) in
        let b = mod-lt (n / 256) {m = 256} (omega arith) in
        let c = mod-lt n {m = 256} (omega arith) in
        omega (arith, e)

-- ---- How large a counter can be.
pub as_bytes : (s : List ℕ) → AllBytes s → Bytes s
as_bytes s f i = record { fits = f i }

short : (k i : ℕ) (q : List ℕ) → length (take k (drop i q)) ≤ k
short k i q = omega (arith, length-take k (drop i q))

pub settings_small : SettingsSmall
settings_small q f e =
    let d = (good_tells q e).digits in (
      value_fits 9 (take 9 (drop 1 q)) (short 9 1 q) (digits_part q 1 20 0 9 (omega arith) d),
      value_fits 9 (take 9 (drop 10 q)) (short 9 10 q) (digits_part q 1 20 9 9 (omega arith) d),
      value_fits 2 (take 2 (drop 19 q)) (short 2 19 q) (digits_part q 1 20 18 2 (omega arith) d),
      three_fit (take 3 (drop 21 q)) (short 3 21 q) (bytes_take 3 (drop 21 q) (bytes_drop 21 q (as_bytes q f))),
    )

pub counter_small : CounterSmall
counter_small c f v s =
    let k = valid_tells c v s in
    let small = settings_small c.settings f k.good in
    (omega (arith, k.most), omega (arith, k.below))

pub counter_told : CounterTold
counter_told c f v s =
    let small = counter_small c f v s in
    let front : take 9 (counter_text c) ≡ digits c.value = take_at (digits c.value) (in_bytes 3 c.batch) 9 (digits_nine c.value) in
    let back : drop 9 (counter_text c) ≡ in_bytes 3 c.batch = drop_at (digits c.value) (in_bytes 3 c.batch) 9 (digits_nine c.value) in
    (ap value front ∙ (digits_value c.value).1 small.0, ap number_of back ∙ (bytes_value c.batch).1 small.1)

-- ---- Counting.
pub set_valid : SetValid
set_valid q e =
    let g = good_tells q e in
    tells_valid (set_to q) refl (record { good = e; least = omega arith; most = g.order; below = g.some })

-- A counter that is set counts within its settings.
moved_counts : (c : Counter) → Counting c → Counting (moved c)
unfolding next_value next_batch grown
moved_counts c k =
    let q = c.settings in
    let g = good_tells q k.good in
    let inside : ℕ → Type 0 = λ (n : ℕ). (initial q ≤ n) × (n ≤ final q) in
    let stays : inside (next_value q c.value c.batch) =
    pick_case inside (ltb (c.batch + 1) (lot q)) c.value (grown q c.value)
    (λ _. (k.least, k.most))
    (λ _. pick_case inside (leb (c.value + step q) (final q)) (c.value + step q) (initial q)
    (λ h. (omega (arith, k.least), leb-true (c.value + step q) (final q) h))
    (λ _. (omega arith, g.order))) in
    record {
      good = k.good;
      least = stays.0;
      most = stays.1;
      below = pick_case (λ (n : ℕ). n < lot q) (ltb (c.batch + 1) (lot q)) (c.batch + 1) 0 (λ h. ltb-true (c.batch + 1) (lot q) h) (λ _. g.some);
    }

pub count_stays : CountStays
unfolding counted
count_stays c v =
    pick_case (λ (n : Counter). (valid_counter n ≡ true) × (n.settings ≡ c.settings) × (n.set ≡ c.set)) (is_set c) (moved c) c
    (λ e. (tells_valid (moved c) (set_one c e) (moved_counts c (valid_tells c v e)), refl, refl))
    (λ _. (v, refl, refl))

-- ---- What is written of a counter is read back.
pub counter_whole : CounterWhole
counter_whole = (counter_again, (λ b full f. counter_back b full (as_bytes b f)))

-- ---- The samples, computed.
pub count_samples : CountSamples
unfolding counted next_value next_batch grown good_settings is_digit digits
count_samples = refl
