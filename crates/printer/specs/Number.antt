-- Numbers in digits and in bytes: a counter's nine, what a row of digits comes to, and the same for bytes.
use Rattle.std.specs.Prelude.{ℕ, zero, suc, ◌+◌, ◌-◌, ◌*◌, ◌/◌, ◌%◌, Bool, true, List, [], ◌∷◌, ◌++◌}
use Rattle.frame.specs.Ground.{both, within}

-- The digit of a number that a power of ten counts.
abbrev pub digit : ℕ → ℕ → ℕ
digit n power = n / power % 10 + 0x30

-- 01, What an accepted frame does: a counter's "9 digits".
unfoldable pub digits : ℕ → List ℕ
digits n =
    digit n 100_000_000 ∷ digit n 10_000_000 ∷ digit n 1_000_000 ∷ digit n 100_000 ∷ digit n 10_000
    ∷ digit n 1_000 ∷ digit n 100 ∷ digit n 10 ∷ digit n 1 ∷ []

-- 01, Parameters, counter, clock: "the digits are 30h to 39h".
unfoldable pub is_digit : ℕ → Bool
is_digit b = within 0x30 0x39 b

abbrev pub all_digits : List ℕ → Bool
all_digits [] = true
all_digits (b ∷ s) = both (is_digit b) (all_digits s)

-- What digits come to, behind a number that was read before them.
abbrev pub value_from : ℕ → List ℕ → ℕ
value_from n [] = n
value_from n (b ∷ s) = value_from (n * 10 + (b - 0x30)) s

abbrev pub value : List ℕ → ℕ
value s = value_from 0 s

-- 01, On the wire: "Numbers of several bytes have the high byte first." What bytes come to, behind a number that was read before them.
abbrev pub number_from : ℕ → List ℕ → ℕ
number_from n [] = n
number_from n (b ∷ s) = number_from (n * 256 + b) s

abbrev pub number_of : List ℕ → ℕ
number_of s = number_from 0 s

-- A number in so many bytes.
abbrev pub in_bytes : ℕ → ℕ → List ℕ
in_bytes zero n = []
in_bytes (suc count) n = in_bytes count (n / 256) ++ (n % 256 ∷ [])
