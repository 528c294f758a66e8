-- What the item reader finds at a place: an item and where it ends, a byte that ends the block, or a byte that can't stand there.
use Rattle.std.specs.Prelude.{ℕ, Option, None, Some, ◌+◌, Bool, List, eqb, ltb, get_or, drop}
use Rattle.frame.specs.Ground.{pick}
use Rattle.content.specs.Byte.{kind_of, code_of, is_character, is_count, is_expansion, characters_in_front, codes_in_front}
use Rattle.content.specs.Machine.{most_lines, most_fields}
use Rattle.content.specs.declared.byte.Code.{Code}
use Rattle.content.specs.declared.byte.Kind.{Kind}
use Rattle.content.specs.declared.byte.Kind.TheVariants as kind
use Rattle.content.specs.declared.item.Place.{Place}
use Rattle.content.specs.declared.item.Place.TheVariants as place
use Rattle.content.specs.declared.item.Reader.{Reader}
use Rattle.content.specs.declared.item.Seen.{Seen}
use Rattle.content.specs.declared.item.Item.{Item}
use Rattle.content.specs.declared.item.Item.TheVariants.{LineOpens, BlockOpens, Characters, FieldCharacters, Tabulation, Counter, FieldOpens, FieldCloses, DateOpens, Date, DateCloses}
use Rattle.content.specs.declared.item.Token.{Token}
use Rattle.content.specs.declared.item.Token.TheVariants.{Read, Ends, Unfit}

-- In what we are behind an item.
abbrev pub behind : Item → Place
behind LineOpens = place.Line
behind BlockOpens = place.Block
behind Characters = place.Block
behind FieldCharacters = place.Field
behind (Tabulation n) = place.Block
behind (Counter n) = place.Block
behind FieldOpens = place.Field
behind FieldCloses = place.Block
behind DateOpens = place.Date
behind (Date c) = place.Date
behind DateCloses = place.Block

-- One more, but not more than the most.
unfoldable pub one_more : ℕ → ℕ → ℕ
one_more most n = pick (ltb n most) (n + 1) n

-- What has begun with an item.
abbrev pub counted : Item → Seen → Seen
counted LineOpens seen = record { lines = one_more most_lines seen.lines; fields = seen.fields }
counted BlockOpens seen = seen
counted Characters seen = seen
counted FieldCharacters seen = seen
counted (Tabulation n) seen = seen
counted (Counter n) seen = seen
counted FieldOpens seen = record { lines = seen.lines; fields = one_more most_fields seen.fields }
counted FieldCloses seen = seen
counted DateOpens seen = seen
counted (Date c) seen = seen
counted DateCloses seen = seen

-- Before the first byte, and behind an item.
abbrev pub begin : Reader
begin = record { at = 0; place = place.Content; seen = record { lines = 0; fields = 0 } }

abbrev pub past : Reader → Item → ℕ → Reader
past reader item next = record { at = next; place = behind item; seen = counted item reader.seen }

-- The place behind the characters, and behind the codes, that stand in a row from a place on.
unfoldable pub characters_end : List ℕ → ℕ → ℕ
characters_end s at = at + characters_in_front (drop at s)

unfoldable pub codes_end : List ℕ → ℕ → ℕ
codes_end s at = at + codes_in_front (drop at s)

-- 01, What a content is: "a tabulation: 1Eh, n (1 to 255), 1Eh"; "a counter: 1Ch, 01h, 1Ch": a mark, a number that must fit, and
-- the mark again.
unfoldable pub enclosed : List ℕ → ℕ → Bool → ℕ → Item → Token
enclosed s at fits mark item =
    pick fits (pick (eqb (get_or s (at + 2) 0) mark) (Read item (at + 3)) (Unfit (at + 2))) (Unfit (at + 1))

-- What is opened by one byte, where not as many have begun as there may be.
abbrev pub one_byte : ℕ → Item → Token
one_byte at item = Read item (at + 1)

unfoldable pub opens : ℕ → ℕ → ℕ → Item → Token
opens at begun most item = pick (ltb begun most) (one_byte at item) (Unfit at)

-- 01, What a content is: "One to four lines"; "A line is 0Ah and one or more blocks."
abbrev pub open_line : ℕ → Seen → Token
open_line at seen = opens at seen.lines most_lines LineOpens

-- 01, What a content is: "A block is an expansion (01h to 09h), a font byte (01h to FFh)".
unfoldable pub open_block : List ℕ → ℕ → Token
open_block s at = pick (is_count (get_or s (at + 1) 0)) (Read BlockOpens (at + 2)) (Unfit (at + 1))

-- 01, What a content is: "an external field: [..] at most 10 in a content".
abbrev pub open_field : ℕ → Seen → Token
open_field at seen = opens at seen.fields most_fields FieldOpens

unfoldable pub content_token : List ℕ → ℕ → Seen → Token
content_token s at seen = pick (eqb (get_or s at 0) 0x0A) (open_line at seen) (Unfit at)

unfoldable pub line_token : List ℕ → ℕ → Token
line_token s at = pick (is_expansion (get_or s at 0)) (open_block s at) (Unfit at)

-- 01, What a content is: "An item is one of". In a block an expansion, a 0Ah and a 0Dh end it.
abbrev pub block_token : List ℕ → ℕ → Kind → Seen → Token
block_token s at kind.Line seen = Ends
block_token s at kind.End seen = Ends
block_token s at kind.Field seen = open_field at seen
block_token s at kind.Date seen = Read DateOpens (at + 1)
block_token s at kind.Counter seen =
    enclosed s at (eqb (get_or s (at + 1) 0) 0x01) 0x1C (Counter (get_or s (at + 1) 0))
block_token s at kind.Tabulation seen =
    enclosed s at (is_count (get_or s (at + 1) 0)) 0x1E (Tabulation (get_or s (at + 1) 0))
block_token s at kind.Expansion seen = Ends
block_token s at kind.Character seen = Read Characters (characters_end s at)
block_token s at kind.Other seen = Unfit at

-- 01, What a content is: "an external field: 12h, zero or more characters, 12h".
unfoldable pub field_token : List ℕ → ℕ → Token
field_token s at =
    pick (eqb (get_or s at 0) 0x12) (Read FieldCloses (at + 1))
    (pick (is_character (get_or s at 0)) (Read FieldCharacters (characters_end s at)) (Unfit at))

-- 01, What a content is: "a date item: 1Bh, zero or more codes, 1Bh".
abbrev pub code_token : ℕ → Option Code → Token
code_token at (Some c) = Read (Date c) (at + 1)
code_token at None = Unfit at

unfoldable pub date_token : List ℕ → ℕ → Token
date_token s at = pick (eqb (get_or s at 0) 0x1B) (Read DateCloses (at + 1)) (code_token at (code_of (get_or s at 0)))

-- What a byte that ends a block opens, and the same where a token is found already.
abbrev pub opening : List ℕ → ℕ → Kind → Seen → Token
opening s at kind.Line seen = open_line at seen
opening s at kind.End seen = Ends
opening s at kind.Field seen = Ends
opening s at kind.Date seen = Ends
opening s at kind.Counter seen = Ends
opening s at kind.Tabulation seen = Ends
opening s at kind.Expansion seen = open_block s at
opening s at kind.Character seen = Ends
opening s at kind.Other seen = Ends

abbrev pub opened : List ℕ → ℕ → Token → Seen → Token
opened s at (Read item next) seen = Read item next
opened s at Ends seen = opening s at (kind_of (get_or s at 0)) seen
opened s at (Unfit i) seen = Unfit i

-- The mark that closes an item, behind what stands in it.
unfoldable pub closing : List ℕ → ℕ → ℕ → Item → Token
closing s at mark item = pick (eqb (get_or s at 0) mark) (Read item (at + 1)) (Unfit at)

-- 01, What a content is: "an external field: 12h, zero or more characters, 12h"; "at most 10 in a content".
unfoldable pub whole_field : List ℕ → ℕ → Seen → Token
whole_field s at seen =
    pick (ltb seen.fields most_fields) (closing s (characters_end s (at + 1)) 0x12 FieldCloses) (Unfit at)

-- What stands in a block for the test, by its first byte: an external field and a date item as a whole, and the test looks itself at
-- what ends a block.
abbrev pub item_at : List ℕ → ℕ → Kind → Seen → Token
item_at s at kind.Line seen = Ends
item_at s at kind.End seen = Ends
item_at s at kind.Field seen = whole_field s at seen
item_at s at kind.Date seen = closing s (codes_end s (at + 1)) 0x1B DateCloses
item_at s at kind.Counter seen = block_token s at kind.Counter seen
item_at s at kind.Tabulation seen = block_token s at kind.Tabulation seen
item_at s at kind.Expansion seen = Ends
item_at s at kind.Character seen = block_token s at kind.Character seen
item_at s at kind.Other seen = Unfit at

-- What has begun behind an item that was passed as a whole.
abbrev pub passed : Item → Seen → Seen
passed LineOpens seen = seen
passed BlockOpens seen = seen
passed Characters seen = seen
passed FieldCharacters seen = seen
passed (Tabulation n) seen = seen
passed (Counter n) seen = seen
passed FieldOpens seen = seen
passed FieldCloses seen = record { lines = seen.lines; fields = seen.fields + 1 }
passed DateOpens seen = seen
passed (Date c) seen = seen
passed DateCloses seen = seen

-- What stands at a place: for the positions; and for the strip, which asks for each code by itself.
abbrev pub piece_at : List ℕ → ℕ → Place → Seen → Token
piece_at s at place.Date seen = date_token s (codes_end s at)
piece_at s at place.Content seen = content_token s at seen
piece_at s at place.Line seen = line_token s at
piece_at s at place.Block seen = opened s at (block_token s at (kind_of (get_or s at 0)) seen) seen
piece_at s at place.Field seen = field_token s at

abbrev pub token_at : List ℕ → ℕ → Place → Seen → Token
token_at s at place.Content seen = content_token s at seen
token_at s at place.Line seen = line_token s at
token_at s at place.Block seen = opened s at (block_token s at (kind_of (get_or s at 0)) seen) seen
token_at s at place.Field seen = field_token s at
token_at s at place.Date seen = date_token s at
