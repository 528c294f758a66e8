-- The grammar: the tree of a content in document 01's words, the bytes that a tree is written as, and what makes a tree good.
use Rattle.std.specs.Prelude.{ℕ, Option, None, Some, ◌+◌, Bool, true, false, List, [], ◌∷◌, ◌++◌, map, eqb, leb, length}
use Rattle.frame.specs.Ground.{both, within}
use Rattle.content.specs.Byte.{is_character, is_expansion, is_count, all_characters, code_of, is_code}
use Rattle.content.specs.Machine.{most_lines, most_fields}
use Rattle.content.specs.Strip.{character_of, printed}
use Rattle.content.specs.declared.byte.Code.{Code}
use Rattle.content.specs.declared.strip.Values.{Values}

-- 01, What a content is: "An item is one of: a character; a tabulation; a counter; an external field; a date item".
pub data Item : Type 0 where
  character : ℕ → Item
  tabulation : ℕ → Item
  counter : ℕ → Item
  field : List ℕ → Item
  date : List ℕ → Item

-- 01, What a content is: "A block is an expansion (01h to 09h), a font byte (01h to FFh) and zero or more items."
pub record Block : Type 0 where
  pub expansion : ℕ
  pub font : ℕ
  pub items : List Item

-- 01, What a content is: "A line is 0Ah and one or more blocks"; a content is "one to four lines, then 0Dh".
abbrev pub Line : Type 0
Line = List Block

abbrev pub Tree : Type 0
Tree = List Line

-- 01, What a content is: "1Eh, n, 1Eh"; "1Ch, 01h, 1Ch"; "12h, zero or more characters, 12h"; "1Bh, zero or more codes, 1Bh".
abbrev pub item_bytes : Item → List ℕ
item_bytes (character c) = c ∷ []
item_bytes (tabulation n) = 0x1E ∷ n ∷ 0x1E ∷ []
item_bytes (counter n) = 0x1C ∷ n ∷ 0x1C ∷ []
item_bytes (field cs) = 0x12 ∷ cs ++ (0x12 ∷ [])
item_bytes (date cs) = 0x1B ∷ cs ++ (0x1B ∷ [])

abbrev pub items_bytes : List Item → List ℕ
items_bytes [] = []
items_bytes (i ∷ is) = item_bytes i ++ items_bytes is

abbrev pub block_bytes : Block → List ℕ
block_bytes b = b.expansion ∷ b.font ∷ items_bytes b.items

abbrev pub blocks_bytes : List Block → List ℕ
blocks_bytes [] = []
blocks_bytes (b ∷ bs) = block_bytes b ++ blocks_bytes bs

abbrev pub line_bytes : Line → List ℕ
line_bytes l = 0x0A ∷ blocks_bytes l

abbrev pub lines_bytes : Tree → List ℕ
lines_bytes [] = []
lines_bytes (l ∷ ls) = line_bytes l ++ lines_bytes ls

-- 01, What a content is: "One to four lines, then 0Dh, and no byte after it".
abbrev pub encode : Tree → List ℕ
encode t = lines_bytes t ++ (0x0D ∷ [])

-- 01, What a content is: what each item may hold. Document 01 has the one counter 01h.
abbrev pub all_codes : List ℕ → Bool
all_codes [] = true
all_codes (c ∷ cs) = both (is_code (code_of c)) (all_codes cs)

abbrev pub good_item : Item → Bool
good_item (character c) = is_character c
good_item (tabulation n) = is_count n
good_item (counter n) = eqb n 0x01
good_item (field cs) = all_characters cs
good_item (date cs) = all_codes cs

abbrev pub good_items : List Item → Bool
good_items [] = true
good_items (i ∷ is) = both (good_item i) (good_items is)

abbrev pub good_block : Block → Bool
good_block b = both (is_expansion b.expansion) (both (is_count b.font) (good_items b.items))

abbrev pub good_blocks : List Block → Bool
good_blocks [] = true
good_blocks (b ∷ bs) = both (good_block b) (good_blocks bs)

-- "one or more blocks"
abbrev pub good_line : Line → Bool
good_line [] = false
good_line (b ∷ bs) = good_blocks (b ∷ bs)

abbrev pub good_lines : Tree → Bool
good_lines [] = true
good_lines (l ∷ ls) = both (good_line l) (good_lines ls)

-- "an external field: [..] at most 10 in a content"
abbrev pub item_fields : Item → ℕ
item_fields (character c) = 0
item_fields (tabulation n) = 0
item_fields (counter n) = 0
item_fields (field cs) = 1
item_fields (date cs) = 0

abbrev pub items_fields : List Item → ℕ
items_fields [] = 0
items_fields (i ∷ is) = item_fields i + items_fields is

abbrev pub blocks_fields : List Block → ℕ
blocks_fields [] = 0
blocks_fields (b ∷ bs) = items_fields b.items + blocks_fields bs

abbrev pub lines_fields : Tree → ℕ
lines_fields [] = 0
lines_fields (l ∷ ls) = blocks_fields l + lines_fields ls

-- "One to four lines"
unfoldable pub good_tree : Tree → Bool
good_tree t = both (within 1 most_lines (length t)) (both (good_lines t) (leb (lines_fields t) most_fields))

-- What each item stands for: "each counter replaced by its 9 digits, each field by its characters, each date item by its text.
-- Tabulations stay." "00h prints nothing."
abbrev pub characters : List ℕ → List Item
characters [] = []
characters (c ∷ cs) = character c ∷ characters cs

abbrev pub code_text : Values → Option Code → List ℕ
code_text v (Some c) = printed (character_of v c)
code_text v None = []

abbrev pub date_text : Values → List ℕ → List ℕ
date_text v [] = []
date_text v (c ∷ cs) = code_text v (code_of c) ++ date_text v cs

abbrev pub stands_for : Values → Item → List Item
stands_for v (character c) = character c ∷ []
stands_for v (tabulation n) = tabulation n ∷ []
stands_for v (counter n) = characters v.digits
stands_for v (field cs) = characters cs
stands_for v (date cs) = characters (date_text v cs)

abbrev pub resolved_items : Values → List Item → List Item
resolved_items v [] = []
resolved_items v (i ∷ is) = stands_for v i ++ resolved_items v is

abbrev pub resolved_block : Values → Block → Block
resolved_block v b = record { expansion = b.expansion; font = b.font; items = resolved_items v b.items }

abbrev pub resolved : Values → Tree → Tree
resolved v t = map (map (resolved_block v)) t

-- The outline of a tree: its lines, blocks, expansions, fonts and item kinds, with every character a space.
abbrev pub blank : List ℕ → List ℕ
blank [] = []
blank (c ∷ cs) = 0x20 ∷ blank cs

abbrev pub item_outline : Item → Item
item_outline (character c) = character 0x20
item_outline (tabulation n) = tabulation n
item_outline (counter n) = counter n
item_outline (field cs) = field (blank cs)
item_outline (date cs) = date cs

abbrev pub block_outline : Block → Block
block_outline b = record { expansion = b.expansion; font = b.font; items = map item_outline b.items }

abbrev pub outline : Tree → Tree
outline t = map (map block_outline) t

-- The shape of a tree: its lines, blocks, expansions and fonts, without the items.
abbrev pub block_shape : Block → Block
block_shape b = record { expansion = b.expansion; font = b.font; items = [] }

abbrev pub shape : Tree → Tree
shape t = map (map block_shape) t
