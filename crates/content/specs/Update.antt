-- A field update, as far as one content goes: its characters laid over the content's field positions.
use Rattle.std.specs.Prelude.{ℕ, Ok, Err, List, [], ◌∷◌, ◌≡◌, eqb, length}
use Rattle.frame.specs.Ground.{Test, checked, given, pick, test, test_at}
use Rattle.frame.specs.Build.{given_by}
use Rattle.content.specs.Edit.{Edited, done}
use Rattle.content.specs.Byte.{all_characters, characters_in_front}
use Rattle.content.specs.Machine.{Mode, start, step}
use Rattle.content.specs.Position.{mark_of, is_field_position, field_positions}

-- 01, What an accepted frame does: "An update lays its characters over the character positions of external fields [..], fields in
-- order; commas are characters." Behind the last character every byte stays.
abbrev pub laid : List ℕ → Mode → List ℕ → List ℕ
laid [] m s = s
laid (c ∷ text) m [] = []
laid (c ∷ text) m (b ∷ s) =
    pick (is_field_position (mark_of m b)) (c ∷ laid text (step m b) s) (b ∷ laid (c ∷ text) (step m b) s)

-- 02, Wish 3: "An update's characters must be exactly as many as the field positions", 18 "wrong number of characters"; all its bytes
-- count, characters or not. 01, Numbers: 13 "an update byte is no character"; 02, Wish 4: it carries "the first offending [..] symbol
-- index, from 0".
abbrev pub update_tests : ℕ → List ℕ → List Test
update_tests positions text =
    test (eqb (length text) positions) 18 ∷ test_at (all_characters text) 13 (characters_in_front text) ∷ []

unfoldable pub updated : List ℕ → List ℕ → Edited
updated s text = checked (update_tests (field_positions s) text) (λ g. Err g) done

abbrev pub bytes_after : Edited → List ℕ → List ℕ → List ℕ
bytes_after (Ok u) s text = laid text start s
bytes_after (Err g) s text = s

-- The contract of `update`: the rule's answer, what its first test that fails gives, and the bytes it tells of.
pub record Updates (before text : List ℕ) (r : Edited) (after : List ℕ) : Type 0 where
  pub answer : r ≡ updated before text
  pub first : given_by r ≡ given (update_tests (field_positions before) text)
  pub bytes : after ≡ bytes_after r before text
