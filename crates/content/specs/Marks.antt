-- The character positions of a tree, from the grammar alone: what each byte of its writing is, and the characters of its fields.
use Rattle.std.specs.Prelude.{ℕ, List, [], ◌∷◌, ◌++◌, length, replicate}
use Rattle.content.specs.Grammar.{Item, Block, Line, Tree, character, tabulation, counter, field, date}
use Rattle.content.specs.declared.position.Mark.{Mark}
use Rattle.content.specs.declared.position.Mark.TheVariants.{Structure, Character, FieldCharacter}

-- Bytes between two marks: "12h, zero or more characters, 12h"; "1Bh, zero or more codes, 1Bh".
abbrev pub between : Mark → List ℕ → List Mark
between k cs = Structure ∷ replicate (length cs) k ++ (Structure ∷ [])

-- 01, What a content is: "The bytes of a character position are those of character items and of characters inside fields, and no
-- others."
abbrev pub item_marks : Item → List Mark
item_marks (character c) = Character ∷ []
item_marks (tabulation n) = Structure ∷ Structure ∷ Structure ∷ []
item_marks (counter n) = Structure ∷ Structure ∷ Structure ∷ []
item_marks (field cs) = between FieldCharacter cs
item_marks (date cs) = between Structure cs

abbrev pub items_marks : List Item → List Mark
items_marks [] = []
items_marks (i ∷ is) = item_marks i ++ items_marks is

-- The expansion and the font are none, whatever letters they look like; nor are the 0Ah of a line and the 0Dh at the end.
abbrev pub block_marks : Block → List Mark
block_marks b = Structure ∷ Structure ∷ items_marks b.items

abbrev pub blocks_marks : List Block → List Mark
blocks_marks [] = []
blocks_marks (b ∷ bs) = block_marks b ++ blocks_marks bs

abbrev pub line_marks : Line → List Mark
line_marks l = Structure ∷ blocks_marks l

abbrev pub tree_marks : Tree → List Mark
tree_marks [] = Structure ∷ []
tree_marks (l ∷ ls) = line_marks l ++ tree_marks ls

-- 01, What an accepted frame does: "the character positions of external fields [..], fields in order": the characters that stand there.
abbrev pub item_letters : Item → List ℕ
item_letters (character c) = []
item_letters (tabulation n) = []
item_letters (counter n) = []
item_letters (field cs) = cs
item_letters (date cs) = []

abbrev pub items_letters : List Item → List ℕ
items_letters [] = []
items_letters (i ∷ is) = item_letters i ++ items_letters is

abbrev pub blocks_letters : List Block → List ℕ
blocks_letters [] = []
blocks_letters (b ∷ bs) = items_letters b.items ++ blocks_letters bs

abbrev pub tree_letters : Tree → List ℕ
tree_letters [] = []
tree_letters (l ∷ ls) = blocks_letters l ++ tree_letters ls
