-- What is true of the contents as a language: they are the writings of the good trees, each of just one, and characters are never read
-- as structure.
use Rattle.std.specs.Prelude.{ℕ, true, List, ◌≡◌, length}
use Rattle.content.specs.Byte.{is_character}
use Rattle.content.specs.Machine.{Mode, start, step}
use Rattle.content.specs.Content.{good, verdict}
use Rattle.content.specs.Marks.{tree_letters, tree_marks}
use Rattle.content.specs.Position.{at_fields, field_positions, is_position, mark_of, marks}
use Rattle.content.specs.Grammar.{Tree, encode, good_tree}
use Rattle.content.specs.Tree.{tree_of}

-- Correct: what is read as good is a good tree, written out.
abbrev pub Correct : Type 0
Correct = (s : List ℕ) → verdict s ≡ good → (good_tree (tree_of s) ≡ true) × (encode (tree_of s) ≡ s)

-- Complete: every good tree, written out, is read as good.
abbrev pub Complete : Type 0
Complete = (t : Tree) → good_tree t ≡ true → verdict (encode t) ≡ good

-- Unambiguous: no two good trees are written alike.
abbrev pub Unambiguous : Type 0
Unambiguous = (t u : Tree) → good_tree t ≡ true → good_tree u ≡ true → encode t ≡ encode u → t ≡ u

-- So what is read as good is the writing of one good tree, and of no other.
abbrev pub ExactlyOneTree : Type 0
ExactlyOneTree =
    (s : List ℕ) →
    verdict s ≡ good →
    (t : Tree)
    × (good_tree t ≡ true)
    × (encode t ≡ s)
    × ((u : Tree) → good_tree u ≡ true → encode u ≡ s → u ≡ t)

-- Reading undoes writing.
abbrev pub ReadBack : Type 0
ReadBack = (t : Tree) → good_tree t ≡ true → tree_of (encode t) ≡ t

-- 01, What a content is: "The bytes of a character position are those of character items and of characters inside fields, and no
-- others": the marks that edits and updates go by are those of the tree.
abbrev pub MarksFromTree : Type 0
MarksFromTree = (t : Tree) → good_tree t ≡ true → marks start (encode t) ≡ tree_marks t

-- So are the bytes at the field positions, in order, and their count.
abbrev pub LettersFromTree : Type 0
LettersFromTree = (t : Tree) → good_tree t ≡ true → at_fields start (encode t) ≡ tree_letters t

abbrev pub FieldPositionsFromTree : Type 0
FieldPositionsFromTree = (t : Tree) → good_tree t ≡ true → field_positions (encode t) ≡ length (tree_letters t)

-- No byte that is a character can be read as structure at a character position, whatever stands around it: each leads the machine where
-- the one that stands there leads it, and bears the same mark.
abbrev pub CharactersAreNoStructure : Type 0
CharactersAreNoStructure =
    (m : Mode) (b c : ℕ) →
    is_position (mark_of m b) ≡ true →
    is_character c ≡ true →
    (step m c ≡ step m b) × (mark_of m c ≡ mark_of m b)
