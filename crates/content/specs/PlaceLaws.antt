-- 02, Wish 4: the place that each refusal carries, both ways: the number stands with just that place exactly where the grammar says so.
use Rattle.std.specs.Prelude.{ℕ, Err, ◌+◌, ◌≤◌, ◌<◌, true, false, List, ◌↔◌, ◌⊎◌, ◌≡◌, length, get_or}
use Rattle.frame.specs.Ground.{placed, plain}
use Rattle.content.specs.Byte.{is_character}
use Rattle.content.specs.Content.{good, tested, verdict}
use Rattle.content.specs.Edit.{edited}
use Rattle.content.specs.Grammar.{Tree, encode, good_tree}
use Rattle.content.specs.Hopeless.{GoesWrong}
use Rattle.content.specs.Marks.{tree_letters, tree_marks}
use Rattle.content.specs.Position.{is_position}
use Rattle.content.specs.Tree.{tree_of}
use Rattle.content.specs.Update.{updated}
use Rattle.content.specs.declared.position.Mark.TheVariants.{Structure}

-- 10: "512 if there are more than 512 bytes; else the first byte with which no good content can begin, leaving the 512 aside; else, if the
-- bytes merely stop early, their count".
abbrev pub TenAt : List ℕ → ℕ → Type 0
TenAt s i = ((512 < length s) × (i ≡ 512)) ⊎ ((length s ≤ 512) × GoesWrong s i)

abbrev pub TestedThere : Type 0
TestedThere = (s : List ℕ) (i : ℕ) → (tested s ≡ placed 10 i) ↔ TenAt s i

-- 0 is left for the good contents of 512 bytes at most.
abbrev pub TestedGood : Type 0
TestedGood =
    (s : List ℕ) → (tested s ≡ plain 0) ↔ ((length s ≤ 512) × ((t : Tree) × (good_tree t ≡ true) × (encode t ≡ s)))

-- 12: "the first offending address": from the address on, the first that is no character position of the tree; behind the last byte there
-- is none.
pub record FirstAstray (s : List ℕ) (address n i : ℕ) : Type 0 where
  pub behind : address ≤ i
  pub before : i < address + n
  pub astray : is_position (get_or (tree_marks (tree_of s)) i Structure) ≡ false
  pub least : (k : ℕ) → address ≤ k → k < i → is_position (get_or (tree_marks (tree_of s)) k Structure) ≡ true

abbrev pub EditAstray : Type 0
EditAstray =
    (s : List ℕ) (address : ℕ) (symbols : List ℕ) (i : ℕ) →
    verdict s ≡ good →
    (edited s address symbols ≡ Err (placed 12 i)) ↔ FirstAstray s address (length symbols) i

-- 13: the first "symbol index, from 0" whose byte is no character.
pub record FirstOther (symbols : List ℕ) (i : ℕ) : Type 0 where
  pub inside : i < length symbols
  pub other : is_character (get_or symbols i 0) ≡ false
  pub least : (k : ℕ) → k < i → is_character (get_or symbols k 0) ≡ true

-- Every addressed byte is a character position.
abbrev pub OnCharacters : List ℕ → ℕ → ℕ → Type 0
OnCharacters s address n =
    (k : ℕ) → address ≤ k → k < address + n → is_position (get_or (tree_marks (tree_of s)) k Structure) ≡ true

abbrev pub EditOther : Type 0
EditOther =
    (s : List ℕ) (address : ℕ) (symbols : List ℕ) (i : ℕ) →
    verdict s ≡ good →
    (edited s address symbols ≡ Err (placed 13 i)) ↔ (OnCharacters s address (length symbols) × FirstOther symbols i)

abbrev pub UpdateOther : Type 0
UpdateOther =
    (s text : List ℕ) (i : ℕ) →
    verdict s ≡ good →
    (updated s text ≡ Err (placed 13 i)) ↔ ((length text ≡ length (tree_letters (tree_of s))) × FirstOther text i)
