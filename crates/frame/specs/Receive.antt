-- What was received: document 01's numbers 3 to 7 in its order, an enquiry, an update, or a whole sound frame.
use Rattle.std.specs.Prelude.{ℕ, ◌+◌, List, [], ◌∷◌, ◌≡◌, eqb, ltb, length, get_or, take, drop}
use Rattle.frame.specs.Ground.{pick, unless}
use Rattle.frame.specs.Given.{given_of}
use Rattle.frame.specs.Wire.{enquiry, update_opens, update_closes, longest_update, update_marks, word, check, head_size, around, longest_data, size_of, listed, fits}
use Rattle.frame.specs.declared.given.Refusal.TheVariants.{TooLong, WrongCheck, UnknownIdentifier, WrongLength}
use Rattle.frame.specs.declared.receive.Received.{Received}
use Rattle.frame.specs.declared.receive.Received.TheVariants.{Partial, Refused, Misfit, Enquiry, Update, Frame}

-- How many bytes stand before the first b; all of them where there is none.
abbrev pub run : ℕ → List ℕ → ℕ
run b [] = 0
run b (x ∷ s) = pick (eqb x b) 0 (run b s + 1)

-- 01, On the wire: "An 02h there opens a field update: up to 1,022 characters, then 03h".
-- 01, Numbers: "an update is not whole with fewer than 1,024 bytes and no 03h. A 03h counts only within those 1,024 bytes."
abbrev pub text_space : List ℕ → List ℕ
text_space s = take (longest_update + 1) (drop 1 s)

unfoldable pub updated : List ℕ → ℕ → Received
updated s n =
    pick (ltb n (length (text_space s))) (Update n (n + update_marks))
    (pick (ltb (length s) (longest_update + update_marks)) Partial (Refused TooLong (length s)))

-- 01, Numbers: 6 "identifier not in the table", 7 "data length not as in the table": the frame is consumed.
unfoldable pub judged : ℕ → ℕ → Received
judged identifier n =
    unless (listed (size_of identifier)) (Misfit UnknownIdentifier identifier n (n + around))
    (unless (fits (size_of identifier) n) (Misfit WrongLength identifier n (n + around)) (Frame identifier n (n + around)))

-- 01, On the wire: "A frame is identifier (1 byte), length (2), data, check byte. The length counts the data only."
-- 01, Numbers: "a frame is not whole with fewer than three bytes, or with a length up to 550 and fewer than length + 4";
-- 4 "length over 550": "all handed in"; 5 "check byte wrong": "the frame".
unfoldable pub framed : List ℕ → ℕ → Received
framed s n =
    pick (ltb (length s) head_size) Partial
    (pick (ltb longest_data n) (Refused TooLong (length s))
    (pick (ltb (length s) (n + around)) Partial
    (unless (eqb (check (take (n + head_size) s)) (get_or s (n + head_size) 0)) (Refused WrongCheck (n + around)) (judged (get_or s 0 0) n))))

-- The length that a frame's second and third byte give.
abbrev pub data_length : List ℕ → ℕ
data_length s = word (get_or s 1 0) (get_or s 2 0)

-- 01, On the wire: "Two things aren't framed", the 05h and the update; everything else is a frame.
unfoldable pub received : List ℕ → Received
received s =
    pick (eqb (length s) 0) Partial
    (pick (eqb (get_or s 0 0) enquiry) Enquiry
    (pick (eqb (get_or s 0 0) update_opens) (updated s (run update_closes (text_space s)))
    (framed s (data_length s))))

-- 01, Numbers: the number of each case, and the bytes it consumes.
abbrev pub number : Received → ℕ
number Partial = 3
number (Refused why c) = (given_of why).number
number (Misfit why i n c) = (given_of why).number
number Enquiry = 0
number (Update n c) = 0
number (Frame i n c) = 0

abbrev pub consumed : Received → ℕ
consumed Partial = 0
consumed (Refused k c) = c
consumed (Misfit k i n c) = c
consumed Enquiry = 1
consumed (Update n c) = c
consumed (Frame i n c) = c

-- The contract of `receive`: the answer is the rule's.
pub record Receives (s : List ℕ) (r : Received) : Type 0 where
  pub answer : r ≡ received s
