-- How a frame is built, and the builder's numbers 2, 4 and 6.
use Rattle.std.specs.Prelude.{ℕ, ◌+◌, Bool, Result, Ok, Err, List, [], ◌∷◌, ◌++◌, ◌≡◌, leb, length, take, drop}
use Rattle.frame.specs.Ground.{pick, plain, Test, test, checked, given, over}
use Rattle.frame.specs.Wire.{high, low, check, head_size, around, longest_data, size_of, listed}
use Rattle.frame.specs.declared.given.Given.{Given}

-- 01, On the wire: "A frame is identifier (1 byte), length (2), data, check byte."
abbrev pub head : ℕ → ℕ → List ℕ
head identifier n = identifier ∷ high n ∷ low n ∷ []

abbrev pub body : ℕ → List ℕ → List ℕ
body identifier d = head identifier (length d) ++ d

unfoldable pub frame : ℕ → List ℕ → List ℕ
frame identifier d = body identifier d ++ (check (body identifier d) ∷ [])

-- 01, Other calls: "2 if the buffer is under data + 4, 4 if data is over 550, 6 if the identifier is not in the table".
-- An answer's identifier need not stand in the table; of a frame that is built, those of the table are known.
abbrev pub answer_tests : ℕ → ℕ → List Test
answer_tests room n =
    test (leb (n + around) room) 2
    ∷ test (leb n longest_data) 4
    ∷ []

abbrev pub send_tests : ℕ → Bool → ℕ → List Test
send_tests room known n = answer_tests room n ++ (test known 6 ∷ [])

abbrev pub build_tests : ℕ → ℕ → ℕ → List Test
build_tests room identifier n = send_tests room (listed (size_of identifier)) n

-- What comes of writing a frame, or a strip: its length, or what is given.
abbrev pub Built : Type 0
Built = Result ℕ Given

-- 01, Other calls: "nothing written; else its length".
abbrev pub decided : List Test → ℕ → Built
decided tests n = checked tests (λ refusal. Err refusal) (Ok (n + around))

unfoldable pub answered : ℕ → ℕ → Built
answered room n = decided (answer_tests room n) n

unfoldable pub built : ℕ → ℕ → ℕ → Built
built room identifier n = decided (build_tests room identifier n) n

-- The bytes that an answer of the builder says are written.
abbrev pub bytes_of : Built → ℕ → List ℕ → List ℕ
bytes_of (Err g) identifier d = []
bytes_of (Ok n) identifier d = frame identifier d

-- What is given of an answer, 0 where it is done; and the length given back.
abbrev pub given_by : {A : Type 0} → Result A Given → Given
given_by (Err g) = g
given_by (Ok n) = plain 0

abbrev pub length_given : Built → ℕ
length_given (Err g) = 0
length_given (Ok n) = n

-- 01, Numbers: "the first that applies is given"; 01, Other calls: "else its length", of just the bytes that are written.
pub record Reports (tests : List Test) (bytes : List ℕ) (r : Built) : Type 0 where
  pub first : given_by r ≡ given tests
  pub size : length_given r ≡ length bytes

-- The contract of `lay`: bytes that fit are laid over the front, others leave the buffer alone.
pub record Lays (before bytes : List ℕ) (r : Bool) (after : List ℕ) : Type 0 where
  pub answer : r ≡ leb (length bytes) (length before)
  pub buffer : after ≡ over (pick (leb (length bytes) (length before)) bytes []) before

-- The contract of `wrap`: the data that stands in the buffer from place 3 on becomes a frame.
pub record Wraps (before : List ℕ) (identifier n : ℕ) (r : Built) (after : List ℕ) : Type 0 where
  pub answer : r ≡ answered (length before) n
  pub reports : Reports (answer_tests (length before) n) (bytes_of r identifier (take n (drop head_size before))) r
  pub buffer : after ≡ over (bytes_of r identifier (take n (drop head_size before))) before

-- The contract of `send`: the rule's answer to a frame whose identifier is known or not, and the bytes it tells of.
pub record Sends (before : List ℕ) (identifier : ℕ) (d : List ℕ) (known : Bool) (r : Built) (after : List ℕ) : Type 0 where
  pub answer : r ≡ decided (send_tests (length before) known (length d)) (length d)
  pub buffer : after ≡ over (bytes_of r identifier d) before

-- The contract of `answer`: the rule's answer, and over the buffer's front just the bytes it tells of.
pub record Answers (before : List ℕ) (identifier : ℕ) (d : List ℕ) (r : Built) (after : List ℕ) : Type 0 where
  pub answer : r ≡ answered (length before) (length d)
  pub reports : Reports (answer_tests (length before) (length d)) (bytes_of r identifier d) r
  pub buffer : after ≡ over (bytes_of r identifier d) before

-- The contract of `build`: the same, with the table.
pub record Builds (before : List ℕ) (identifier : ℕ) (d : List ℕ) (r : Built) (after : List ℕ) : Type 0 where
  pub answer : r ≡ built (length before) identifier (length d)
  pub reports : Reports (build_tests (length before) identifier (length d)) (bytes_of r identifier d) r
  pub buffer : after ≡ over (bytes_of r identifier d) before
