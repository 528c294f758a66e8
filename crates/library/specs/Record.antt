-- A record of the message library: its bytes, and how records are read from bytes.
use Rattle.std.specs.Prelude.{ℕ, zero, suc, ◌+◌, Bool, Option, None, Some, List, [], ◌∷◌, ◌++◌, eqb, leb, length, get_or, take, drop}
use Rattle.frame.specs.Ground.{pick, both}
use Rattle.frame.specs.Wire.{word, high, low}
use Rattle.library.specs.declared.record.Found.{Found}

pub record Record : Type 0 where
  pub number : ℕ
  pub body : List ℕ

-- 02, Wish 1: "each as a two-byte mark 4Ch 52h, number, length (2), body". Five bytes stand before the body.
abbrev pub head_size : ℕ
head_size = 5

abbrev pub head : ℕ → ℕ → List ℕ
head number size = 0x4C ∷ 0x52 ∷ number ∷ high size ∷ low size ∷ []

abbrev pub record_bytes : Record → List ℕ
record_bytes r = head r.number (length r.body) ++ r.body

-- Records one behind the other.
abbrev pub written : List Record → List ℕ
written [] = []
written (r ∷ rs) = record_bytes r ++ written rs

-- How many bytes the record at the front of some bytes says that it has.
abbrev pub body_size : List ℕ → ℕ
body_size s = word (get_or s 3 0) (get_or s 4 0)

abbrev pub record_size : List ℕ → ℕ
record_size s = head_size + body_size s

-- A record stands at the front: its mark, and as many bytes as it says.
unfoldable pub begins : List ℕ → Bool
begins s = both (eqb (get_or s 0 0) 0x4C) (both (eqb (get_or s 1 0) 0x52) (leb (record_size s) (length s)))

abbrev pub front : List ℕ → Record
front s = record { number = get_or s 2 0; body = take (body_size s) (drop head_size s) }

-- The records from the front on, one behind the other, and what stands behind the last. A record takes bytes, so that there are no more
-- of them than bytes.
abbrev pub records_in : ℕ → List ℕ → List Record
records_in zero s = []
records_in (suc most) s = let more = front s ∷ records_in most (drop (record_size s) s) in pick (begins s) more []

abbrev pub rest_in : ℕ → List ℕ → List ℕ
rest_in zero s = s
rest_in (suc most) s = let more = rest_in most (drop (record_size s) s) in pick (begins s) more s

unfoldable pub records : List ℕ → List Record
records s = records_in (length s) s

unfoldable pub rest : List ℕ → List ℕ
rest s = rest_in (length s) s

-- The contract of `record_at`: what stands at a place, a record with its number and its end, or none.
abbrev pub step_at : List ℕ → ℕ → Option Found
step_at s at =
    pick (begins (drop at s)) (Some (record { number = get_or (drop at s) 2 0; end = at + record_size (drop at s) })) None
