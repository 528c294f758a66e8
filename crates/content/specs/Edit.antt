-- The edit of 42h: which number it gets, and the bytes after it.
use Rattle.std.specs.Prelude.{ℕ, ◌+◌, Bool, true, false, Option, None, Some, Result, Ok, Err, List, [], ◌∷◌, ◌++◌, ◌≡◌, length, take, drop}
use Rattle.frame.specs.Ground.{Test, both, checked, given, pick, test_at}
use Rattle.frame.specs.Build.{given_by}
use Rattle.frame.specs.declared.given.Given.{Given}
use Rattle.content.specs.Byte.{all_characters, characters_in_front}
use Rattle.content.specs.Machine.{start}
use Rattle.content.specs.Position.{marks, is_position}
use Rattle.content.specs.declared.position.Mark.{Mark}

-- Each symbol lands on a character position, the first on the first mark.
abbrev pub addressed : List ℕ → List Mark → Bool
addressed [] ms = true
addressed (x ∷ xs) [] = false
addressed (x ∷ xs) (m ∷ ms) = both (is_position m) (addressed xs ms)

-- 02, Wish 4: "the first offending address": that of the first symbol which lands on none, where the first is addressed so.
abbrev pub astray : ℕ → List ℕ → List Mark → ℕ
astray address [] ms = address
astray address (x ∷ xs) [] = address
astray address (x ∷ xs) (m ∷ ms) = pick (is_position m) (astray (address + 1) xs ms) address

-- That address, if there is one.
abbrev pub strayed : ℕ → List ℕ → List Mark → Option ℕ
strayed address xs ms = pick (addressed xs ms) None (Some (astray address xs ms))

-- 01, Numbers: 12 "42h: an addressed byte is no character position", 13 "a new symbol [..] is no character", all addresses before
-- all symbols. 02, Wish 4: "12 and 13 carry the first offending address or symbol index, from 0".
abbrev pub edit_tests : List ℕ → ℕ → List ℕ → List Test
edit_tests s address symbols =
    let there = drop address (marks start s) in
    test_at (addressed symbols there) 12 (astray address symbols there)
    ∷ test_at (all_characters symbols) 13 (characters_in_front symbols)
    ∷ []

-- What comes of an edit, and of an update: nothing but that it is done, or what is given.
abbrev pub Edited : Type 0
Edited = Result Unit Given

abbrev pub done : Edited
done = Ok tt

unfoldable pub edited : List ℕ → ℕ → List ℕ → Edited
edited s address symbols = checked (edit_tests s address symbols) (λ g. Err g) done

-- 01, What an accepted frame does: "42h replaces bytes from the address on; address 0 is the first 0Ah."
abbrev pub replaced : List ℕ → ℕ → List ℕ → List ℕ
replaced s address symbols = take address s ++ symbols ++ drop (address + length symbols) s

abbrev pub bytes_after : Edited → List ℕ → ℕ → List ℕ → List ℕ
bytes_after (Ok u) s address symbols = replaced s address symbols
bytes_after (Err g) s address symbols = s

-- The contract of `edit`: the rule's answer, what its first test that fails gives, and the bytes it tells of.
pub record Edits (before : List ℕ) (address : ℕ) (symbols : List ℕ) (r : Edited) (after : List ℕ) : Type 0 where
  pub answer : r ≡ edited before address symbols
  pub first : given_by r ≡ given (edit_tests before address symbols)
  pub bytes : after ≡ bytes_after r before address symbols
