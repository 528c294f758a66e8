-- The words that a program on a line is started with.
use Rattle.std.specs.Prelude.{ℕ, ◌+◌, ◌-◌, ◌*◌, Bool, Option, None, Some, List, eqb, length, get_or}
use Rattle.frame.specs.Ground.{pick, both, within}
use Rattle.calendar.specs.Clock.{is_real, date, moment}
use Rattle.calendar.specs.declared.clock.Clock.{Clock}

-- What comes of a value, where there is one, and a value, where it passes a test.
abbrev pub if_some : {A B : Type 0} → Option A → (A → Option B) → Option B
if_some (Some x) f = f x
if_some None f = None

abbrev pub if_passing : {A : Type 0} → (A → Bool) → Option A → Option A
if_passing passes (Some x) = pick (passes x) (Some x) None
if_passing passes None = None

-- A digit's number.
unfoldable pub digit : ℕ → Option ℕ
digit b = pick (within 0x30 0x39 b) (Some (b - 0x30)) None

-- What two bytes write, where both are digits.
unfoldable pub pair : ℕ → ℕ → Option ℕ
pair tens ones = if_some (digit tens) (λ t. if_some (digit ones) (λ o. Some (t * 10 + o)))

abbrev pub pair_at : List ℕ → ℕ → Option ℕ
pair_at s i = pair (get_or s i 0) (get_or s (i + 1) 0)

-- 01, On the wire: "Jets by printer type": 1 to 4; none for another word.
unfoldable pub model_of : List ℕ → Option ℕ
model_of s = pick (eqb (length s) 1) (if_passing (within 1 4) (digit (get_or s 0 0))) None

-- Document 000: the watchdog is 1 to 99 s, one or two digits; none for another word.
unfoldable pub watchdog_of : List ℕ → Option ℕ
watchdog_of s =
    if_passing (within 1 99)
    (pick (eqb (length s) 1) (digit (get_or s 0 0)) (pick (eqb (length s) 2) (pair_at s 0) None))

-- The marks of YYYY-MM-DDTHH:MM:SS.
unfoldable pub is_marked : List ℕ → Bool
is_marked s =
    both (eqb (get_or s 4 0) 0x2D)
    (both (eqb (get_or s 7 0) 0x2D) (both (eqb (get_or s 10 0) 0x54) (both (eqb (get_or s 13 0) 0x3A) (eqb (get_or s 16 0) 0x3A))))

-- Its digits, where each pair is written.
abbrev pub moment_of : List ℕ → Option Clock
moment_of s =
    if_some (pair_at s 2) (λ year.
    if_some (pair_at s 5) (λ month.
    if_some (pair_at s 8) (λ day.
    if_some (pair_at s 11) (λ hour.
    if_some (pair_at s 14) (λ minute.
    if_some (pair_at s 17) (λ second. Some (moment second minute hour (date day month year))))))))

-- 01, Parameters, counter, clock: "00 to 99 for 2000 to 2099": the word is written so, and is a real moment.
unfoldable pub start_of : List ℕ → Option Clock
start_of s =
    pick (eqb (length s) 19)
    (pick (is_marked s)
    (if_some (pair_at s 0) (λ century. pick (eqb century 20) (if_passing is_real (moment_of s)) None))
    None)
    None
