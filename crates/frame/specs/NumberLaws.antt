-- The numbers of the receiver and of the builder: 3 and 4 exclude each other, and of those that apply the first is given.
use Rattle.std.specs.Prelude.{ℕ, ◌+◌, Bool, true, false, not, ◌&&◌, ◌||◌, List, [], ◌∷◌, ◌↔◌, ◌≡◌, eqb, leb, ltb, length, get_or, take}
use Rattle.frame.specs.Ground.{pick, has, plain, Test, test}
use Rattle.frame.specs.Numbers.{in_order, FirstGiven}
use Rattle.frame.specs.Wire.{enquiry, update_opens, update_closes, longest_update, update_marks, check, head_size, around, longest_data, size_of, listed, fits}
use Rattle.frame.specs.Receive.{received, data_length, number, Receives}
use Rattle.frame.specs.Build.{Built, answer_tests, build_tests, Wraps, Answers, Builds}
use Rattle.frame.specs.Build as build
use Rattle.frame.specs.declared.receive.Received.{Received}

-- 01, Numbers: "a frame is not whole with fewer than three bytes, or with a length up to 550 and fewer than length + 4;
-- an update is not whole with fewer than 1,024 bytes and no 03h." No bytes are not whole, a 05h always is.
unfoldable pub not_whole : List ℕ → Bool
not_whole s =
    pick (eqb (length s) 0) true
    (pick (eqb (get_or s 0 0) enquiry) false
    (pick (eqb (get_or s 0 0) update_opens) (ltb (length s) (longest_update + update_marks) && not (has update_closes s))
    (ltb (length s) head_size || (leb (data_length s) longest_data && ltb (length s) (data_length s + around)))))

-- 01, Numbers: 4 "length over 550; or 1,024 bytes from 02h on without 03h". "A 03h counts only within those 1,024 bytes."
unfoldable pub too_long : List ℕ → Bool
too_long s =
    pick (eqb (length s) 0) false
    (pick (eqb (get_or s 0 0) enquiry) false
    (pick (eqb (get_or s 0 0) update_opens) (leb (longest_update + update_marks) (length s) && not (has update_closes (take (longest_update + update_marks) s)))
    (leb head_size (length s) && ltb longest_data (data_length s))))

-- 01, Numbers: "3 and 4 exclude each other".
pub record Apart (s : List ℕ) : Type 0 where
  pub three : (number (received s) ≡ 3) ↔ (not_whole s ≡ true)
  pub four : (number (received s) ≡ 4) ↔ (too_long s ≡ true)
  pub never_both : (not_whole s && too_long s) ≡ false

abbrev pub ThreeFourApart : Type 0
ThreeFourApart = (s : List ℕ) → Apart s

-- 01, Numbers: the receiver gives no other number than these.
abbrev pub NumbersGiven : Type 0
NumbersGiven = (s : List ℕ) → has (number (received s)) (0 ∷ 3 ∷ 4 ∷ 5 ∷ 6 ∷ 7 ∷ []) ≡ true

-- 01, Numbers: 5 "check byte wrong", 6 "identifier not in the table", 7 "data length not as in the table".
abbrev pub frame_tests : List ℕ → List Test
frame_tests s =
    test (eqb (check (take (data_length s + head_size) s)) (get_or s (data_length s + head_size) 0)) 5
    ∷ test (listed (size_of (get_or s 0 0))) 6
    ∷ test (fits (size_of (get_or s 0 0)) (data_length s)) 7
    ∷ []

-- 01, On the wire: "Two things aren't framed", what a 05h or an 02h begins; everything else is a frame.
abbrev pub is_frame : List ℕ → Bool
is_frame s = not (eqb (get_or s 0 0) enquiry) && not (eqb (get_or s 0 0) update_opens)

-- 01, Numbers: 3 "not whole yet", 4 "length over 550; or 1,024 bytes from 02h on without 03h", and 5 to 7 of a frame.
abbrev pub receive_tests : List ℕ → List Test
receive_tests s =
    test (not (not_whole s)) 3
    ∷ test (not (too_long s)) 4
    ∷ pick (is_frame s) (frame_tests s) []

-- 01, Numbers: "Checked in this order". Of what is received, of an answer, of a frame that is built.
pub record InOrder : Type 0 where
  pub receives : (s : List ℕ) → in_order (receive_tests s) ≡ true
  pub answers : (room n : ℕ) → in_order (answer_tests room n) ≡ true
  pub builds : (room identifier n : ℕ) → in_order (build_tests room identifier n) ≡ true

-- 01, Numbers: "the first that applies is given, and none otherwise". Of each call that gives a number.
pub record CallsGiveFirst : Type 0 where
  pub receive : (s : List ℕ) (r : Received) → Receives s r → FirstGiven (receive_tests s) (plain (number r))
  pub wrap :
      (before : List ℕ) (identifier n : ℕ) (r : Built) (after : List ℕ)
      → Wraps before identifier n r after → FirstGiven (answer_tests (length before) n) (build.given_by r)
  pub answer :
      (before : List ℕ) (identifier : ℕ) (d : List ℕ) (r : Built) (after : List ℕ)
      → Answers before identifier d r after → FirstGiven (answer_tests (length before) (length d)) (build.given_by r)
  pub build :
      (before : List ℕ) (identifier : ℕ) (d : List ℕ) (r : Built) (after : List ℕ)
      → Builds before identifier d r after → FirstGiven (build_tests (length before) identifier (length d)) (build.given_by r)
