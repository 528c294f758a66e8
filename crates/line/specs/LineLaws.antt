-- What it is to write a number in decimal: the console's writing reads back as the number, and there is no other.
use Rattle.std.specs.Prelude.{ℕ, ◌+◌, ◌*◌, ◌-◌, ◌<◌, Bool, true, List, [], ◌∷◌, ◌≡◌, length, get_or}
use Rattle.frame.specs.Ground.{every, within}
use Rattle.line.specs.Line.{decimal}

-- The value of digits that are read from the first to the last.
abbrev pub value_from : ℕ → List ℕ → ℕ
value_from n [] = n
value_from n (b ∷ s) = value_from (n * 10 + (b - 0x30)) s

abbrev pub value : List ℕ → ℕ
value = value_from 0

-- A byte that is a digit, wherever it stands.
abbrev pub digit : ℕ → ℕ → Bool
digit i b = within 0x30 0x39 b

-- One digit or more, 0 to 9, that read as n; and a 0 in front only where it stands alone.
pub record Decimal (n : ℕ) (s : List ℕ) : Type 0 where
  pub some : 0 < length s
  pub digits : every digit 0 s ≡ true
  pub front : get_or s 0 0 ≡ 0x30 → s ≡ 0x30 ∷ []
  pub reads : value s ≡ n

abbrev pub DecimalReads : Type 0
DecimalReads = (n : ℕ) → Decimal n (decimal n)

abbrev pub DecimalUnique : Type 0
DecimalUnique = (n : ℕ) (s : List ℕ) → Decimal n s → s ≡ decimal n
