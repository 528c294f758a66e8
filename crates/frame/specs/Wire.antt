-- What document 01 says of the wire: the bytes with a meaning, numbers of two bytes, the check byte, the table of identifiers.
use Rattle.std.specs.Prelude.{ℕ, ◌+◌, ◌*◌, ◌/◌, ◌%◌, ◌<◌, Bool, true, false, Option, None, Some, List, [], ◌∷◌, ◌≡◌, eqb, leb}
use Rattle.std.specs.Int.Bits.{bit_xor}
use Rattle.frame.specs.Ground.{pick}
use Rattle.frame.specs.declared.wire.Size.{Size}
use Rattle.frame.specs.declared.wire.Size.TheVariants.{Exactly, AtLeast}

-- 01, On the wire: "A 05h where an identifier is expected is complete".
abbrev pub enquiry : ℕ
enquiry = 0x05

-- 01, On the wire: "An 02h there opens a field update: up to 1,022 characters, then 03h".
abbrev pub update_opens : ℕ
update_opens = 0x02

abbrev pub update_closes : ℕ
update_closes = 0x03

abbrev pub longest_update : ℕ
longest_update = 1022

-- The 02h and the 03h: with them the longest update has 01's 1,024 bytes.
abbrev pub update_marks : ℕ
update_marks = 2

-- 01, On the wire: "Numbers of several bytes have the high byte first."
abbrev pub word : ℕ → ℕ → ℕ
word high low = high * 256 + low

abbrev pub high : ℕ → ℕ
high n = n / 256

abbrev pub low : ℕ → ℕ
low n = n % 256

-- 01, On the wire: "The check byte is the exclusive OR of identifier, length and data".
abbrev pub check_from : ℕ → List ℕ → ℕ
check_from c [] = c
check_from c (b ∷ s) = check_from (bit_xor c b) s

abbrev pub check : List ℕ → ℕ
check s = check_from 0 s

-- 01, On the wire: "A frame is identifier (1 byte), length (2), data, check byte." Three bytes stand before the data, four around it.
abbrev pub head_size : ℕ
head_size = 3

abbrev pub around : ℕ
around = 4

-- 01, Numbers: 4 "length over 550".
abbrev pub longest_data : ℕ
longest_data = 550

-- 01, On the wire, the table: an identifier and its data length, "exactly so many" or "so many or more". 02, Wish 1: 1Ch "39 or more in
-- all", 40h "two bytes".
pub record Row : Type 0 where
  pub identifier : ℕ
  pub size : Size

abbrev pub row : ℕ → Size → Row
row identifier size = record { identifier = identifier; size = size }

abbrev pub table : List Row
table =
    row 0x0A (AtLeast 2)
    ∷ row 0x0B (Exactly 38)
    ∷ row 0x0C (AtLeast 39)
    ∷ row 0x1C (AtLeast 39)
    ∷ row 0x39 (Exactly 1)
    ∷ row 0x40 (Exactly 2)
    ∷ row 0x42 (AtLeast 4)
    ∷ row 0x43 (Exactly 1)
    ∷ row 0x52 (Exactly 0)
    ∷ row 0x94 (Exactly 0)
    ∷ row 0xD6 (Exactly 0)
    ∷ []

-- What the table says of an identifier's data length; none where it has no row.
abbrev pub lookup : List Row → ℕ → Option Size
lookup [] identifier = None
lookup (r ∷ rows) identifier = pick (eqb identifier r.identifier) (Some r.size) (lookup rows identifier)

unfoldable pub size_of : ℕ → Option Size
size_of identifier = lookup table identifier

-- 01, Numbers: 6 "identifier not in the table".
abbrev pub listed : Option Size → Bool
listed (Some size) = true
listed None = false

-- 01, Numbers: 7 "data length not as in the table".
abbrev pub fits_size : Size → ℕ → Bool
fits_size (Exactly k) n = eqb n k
fits_size (AtLeast k) n = leb k n

abbrev pub fits : Option Size → ℕ → Bool
fits (Some size) n = fits_size size n
fits None n = false

-- The contract of `word`: the rule's number, which two bytes can hold.
pub record Words (high low r : ℕ) : Type 0 where
  pub value : r ≡ word high low
  pub small : r < 65536
