-- What a content is: the machine's verdict on its bytes, and the 512.
use Rattle.std.specs.Prelude.{ℕ, ◌+◌, Bool, true, false, Result, Ok, Err, List, [], ◌∷◌, ◌≡◌, leb, length}
use Rattle.frame.specs.Ground.{Test, both, given, pick, test_at}
use Rattle.frame.specs.declared.given.Given.{Given}
use Rattle.content.specs.Machine.{Mode, Reading, Done, Bad, start, step}

-- What reading comes to: good, or the place of the first byte that can't stand there.
abbrev pub Verdict : Type 0
Verdict = Result Unit ℕ

abbrev pub good : Verdict
good = Ok tt

-- The verdict where the bytes end at place i: they merely stop early unless the 0Dh was read.
abbrev pub ended : ℕ → Mode → Verdict
ended i (Reading spot seen) = Err i
ended i Done = good
ended i Bad = Err i

-- The verdict where the byte at place i led to a mode, and v is what the bytes behind it come to.
abbrev pub onward : ℕ → Mode → Verdict → Verdict
onward i (Reading spot seen) v = v
onward i Done v = v
onward i Bad v = Err i

-- 01, What a content is: "Reading stops at the first byte that can't stand there." From place i and a mode on: good, or the
-- place of that byte, or the count of the bytes where they merely stop early.
abbrev pub read : ℕ → Mode → List ℕ → Verdict
read i m [] = ended i m
read i m (b ∷ s) = onward i (step m b) (read (i + 1) (step m b) s)

unfoldable pub verdict : List ℕ → Verdict
verdict s = read 0 start s

abbrev pub is_good : Verdict → Bool
is_good (Ok u) = true
is_good (Err i) = false

-- 01, What a content is: "512 bytes at most."
abbrev pub longest_message : ℕ
longest_message = 512

-- 01, What a content is: "One to four lines, then 0Dh, and no byte after it; 512 bytes at most."
unfoldable pub is_content : List ℕ → Bool
is_content s = both (leb (length s) longest_message) (is_good (verdict s))

-- The place in a verdict; what is good has none, and none is told of it.
abbrev pub unfit_place : Verdict → ℕ
unfit_place (Ok u) = 0
unfit_place (Err i) = i

-- 02, Wish 4: 10 carries "a place in the content: 512 if there are more than 512 bytes; else the first byte with which no good content can
-- begin, leaving the 512 aside; else, if the bytes merely stop early, their count".
unfoldable pub wrong_place : List ℕ → ℕ
wrong_place s = pick (leb (length s) longest_message) (unfit_place (verdict s)) longest_message

-- 01, Other calls: "test a content (0 or 10), for our approval screen".
abbrev pub content_test : List ℕ → Test
content_test s = test_at (is_content s) 10 (wrong_place s)

abbrev pub content_tests : List ℕ → List Test
content_tests s = content_test s ∷ []

unfoldable pub tested : List ℕ → Given
tested s = given (content_tests s)

-- The contract of `read`.
pub record Reads (s : List ℕ) (r : Verdict) : Type 0 where
  pub answer : r ≡ verdict s

-- The contract of `test`.
pub record Tests (s : List ℕ) (r : Given) : Type 0 where
  pub answer : r ≡ tested s
