-- What a single byte may be in a content, as document 01's list of items says it.
use Rattle.std.specs.List.{prefix_len}
use Rattle.std.specs.Prelude.{ℕ, ◌-◌, Bool, true, false, Option, None, Some, List, [], ◌∷◌, eqb}
use Rattle.frame.specs.Ground.{pick, both, within}
use Rattle.content.specs.declared.byte.Kind.{Kind}
use Rattle.content.specs.declared.byte.Kind.TheVariants.{Line, End, Field, Date, Counter, Tabulation, Expansion, Character, Other}
use Rattle.content.specs.declared.byte.Code.TheVariants.{Entry, Colon, Slash, Dot, Space}
use Rattle.content.specs.declared.byte.Code.{Code}

-- 01, What a content is: "a character, 20h to 7Eh".
unfoldable pub is_character : ℕ → Bool
is_character b = within 0x20 0x7E b

-- 01, What a content is: "an expansion (01h to 09h)".
unfoldable pub is_expansion : ℕ → Bool
is_expansion b = within 0x01 0x09 b

-- 01, What a content is: "a font byte (01h to FFh)"; "a tabulation: 1Eh, n (1 to 255), 1Eh".
unfoldable pub is_count : ℕ → Bool
is_count b = within 1 255 b

-- Whether all bytes are characters.
abbrev pub all_characters : List ℕ → Bool
all_characters [] = true
all_characters (b ∷ s) = both (is_character b) (all_characters s)

-- How many characters stand in front: so the index of the first byte that is none.
abbrev pub characters_in_front : List ℕ → ℕ
characters_in_front s = prefix_len is_character s

-- 01, What a content is: the bytes that begin a line, end a content, enclose an item, begin a block, or are an item by themselves.
unfoldable pub kind_of : ℕ → Kind
kind_of b =
    pick (eqb b 0x0A) Line
    (pick (eqb b 0x0D) End
    (pick (eqb b 0x12) Field
    (pick (eqb b 0x1B) Date
    (pick (eqb b 0x1C) Counter
    (pick (eqb b 0x1E) Tabulation
    (pick (is_expansion b) Expansion
    (pick (is_character b) Character Other)))))))

-- 01, What a content is: "Codes 55h 56h 57h are the three characters of the hour's entry, 58h to 5Ah the minute's, 5Bh to 5Dh
-- the month's, 61h to 63h the day of month's; 70h is ":", 71h "/", 72h ".", 73h a space." What the entries are is handed in, a byte for
-- each code from 55h on.
unfoldable pub code_of : ℕ → Option Code
code_of b =
    pick (within 0x55 0x5D b) (Some (Entry (b - 0x55)))
    (pick (within 0x61 0x63 b) (Some (Entry (b - 0x55)))
    (pick (eqb b 0x70) (Some Colon)
    (pick (eqb b 0x71) (Some Slash)
    (pick (eqb b 0x72) (Some Dot)
    (pick (eqb b 0x73) (Some Space) None)))))

abbrev pub is_code : Option Code → Bool
is_code (Some c) = true
is_code None = false

-- How many codes stand in front.
abbrev pub codes_in_front : List ℕ → ℕ
codes_in_front s = prefix_len (λ b. is_code (code_of b)) s
