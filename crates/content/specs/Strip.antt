-- The strip: the content with each counter, field and date item replaced by what it stands for.
use Rattle.std.specs.Prelude.{ℕ, Option, None, Some, Ok, Err, ◌+◌, ◌*◌, List, [], ◌∷◌, ◌++◌, ◌≡◌, eqb, leb, length, get_or, take, drop}
use Rattle.frame.specs.Ground.{Test, checked, over, pick, test}
use Rattle.frame.specs.Build.{Built, Reports}
use Rattle.content.specs.Byte.{kind_of, code_of}
use Rattle.content.specs.Machine.{Spot, Inside, Font, TabulationCount, TabulationEnd, CounterNumber, CounterEnd, Mode, Reading, Done, Bad, start, step}
use Rattle.content.specs.Content.{content_test}
use Rattle.content.specs.declared.byte.Code.{Code}
use Rattle.content.specs.declared.byte.Code.TheVariants.{Entry, Colon, Slash, Dot, Space}
use Rattle.content.specs.declared.byte.Kind.{Kind}
use Rattle.content.specs.declared.byte.Kind.TheVariants as kind
use Rattle.content.specs.declared.item.Item.{Item}
use Rattle.content.specs.declared.item.Item.TheVariants as item
use Rattle.content.specs.declared.item.Place.{Place}
use Rattle.content.specs.declared.item.Place.TheVariants as place
use Rattle.content.specs.declared.strip.Values.{Values}

-- 01, What a content is: what each code of a date item stands for, with the bytes of the moment as they are handed in.
abbrev pub character_in : List ℕ → Code → ℕ
character_in entries (Entry k) = get_or entries k 0
character_in entries Colon = 0x3A
character_in entries Slash = 0x2F
character_in entries Dot = 0x2E
character_in entries Space = 0x20

abbrev pub character_of : Values → Code → ℕ
character_of v c = character_in v.entries c

-- 01, What a content is: "00h prints nothing".
unfoldable pub printed : ℕ → List ℕ
printed b = pick (eqb b 0x00) [] (b ∷ [])

abbrev pub shown_code : Values → Option Code → List ℕ
shown_code v (Some c) = printed (character_of v c)
shown_code v None = []

-- 01, What an accepted frame does: "A strip is the content with each counter replaced by its 9 digits [..], each field by its
-- characters, each date item by its text. Tabulations stay." What a byte shows goes by where it stands: the marks around fields and
-- date items show nothing, and what takes several bytes shows at the last of them.
abbrev pub shown_in_block : Kind → ℕ → List ℕ
shown_in_block kind.Line b = b ∷ []
shown_in_block kind.End b = b ∷ []
shown_in_block kind.Field b = []
shown_in_block kind.Date b = []
shown_in_block kind.Counter b = []
shown_in_block kind.Tabulation b = []
shown_in_block kind.Expansion b = []
shown_in_block kind.Character b = b ∷ []
shown_in_block kind.Other b = []

abbrev pub shown_inside : Values → Place → ℕ → List ℕ
shown_inside v place.Content b = b ∷ []
shown_inside v place.Line b = []
shown_inside v place.Block b = shown_in_block (kind_of b) b
shown_inside v place.Field b = pick (eqb b 0x12) [] (b ∷ [])
shown_inside v place.Date b = pick (eqb b 0x1B) [] (shown_code v (code_of b))

abbrev pub shown_at : Values → Spot → ℕ → List ℕ
shown_at v (Inside p) b = shown_inside v p b
shown_at v (Font e) b = e ∷ b ∷ []
shown_at v TabulationCount b = []
shown_at v (TabulationEnd n) b = 0x1E ∷ n ∷ b ∷ []
shown_at v CounterNumber b = []
shown_at v CounterEnd b = v.digits

abbrev pub shown_by : Values → Mode → ℕ → List ℕ
shown_by v (Reading spot seen) b = shown_at v spot b
shown_by v Done b = []
shown_by v Bad b = []

-- A byte that can't stand there shows nothing.
abbrev pub where_good : Mode → List ℕ → List ℕ
where_good (Reading spot seen) x = x
where_good Done x = x
where_good Bad x = []

abbrev pub strip_from : Values → Mode → List ℕ → List ℕ
strip_from v m [] = []
strip_from v m (b ∷ s) = where_good (step m b) (shown_by v m b) ++ strip_from v (step m b) s

unfoldable pub strip : Values → List ℕ → List ℕ
strip v s = strip_from v start s

-- What an item shows whose own bytes are given.
abbrev pub item_shows : List ℕ → List ℕ → Item → List ℕ → List ℕ
item_shows digits entries item.LineOpens bytes = bytes
item_shows digits entries item.BlockOpens bytes = bytes
item_shows digits entries item.Characters bytes = bytes
item_shows digits entries item.FieldCharacters bytes = bytes
item_shows digits entries (item.Tabulation n) bytes = bytes
item_shows digits entries (item.Counter n) bytes = digits
item_shows digits entries item.FieldOpens bytes = []
item_shows digits entries item.FieldCloses bytes = []
item_shows digits entries item.DateOpens bytes = []
item_shows digits entries (item.Date c) bytes = printed (character_in entries c)
item_shows digits entries item.DateCloses bytes = []

-- Bytes put at a place of a buffer; all others stay.
abbrev pub put_at : ℕ → List ℕ → List ℕ → List ℕ
put_at to bytes before = take to before ++ (bytes ++ drop (to + length bytes) before)

-- The strip writer's tests for a buffer with so much room: 10 for what is no content and so has no strip, then 2 where the strip doesn't
-- fit.
abbrev pub strip_tests : Values → List ℕ → ℕ → List Test
strip_tests v s room = content_test s ∷ test (leb (length (strip v s)) room) 2 ∷ []

-- Its test where it doesn't ask whether the bytes are a content, but for room for the longest strip that they could have.
abbrev pub put_tests : List ℕ → ℕ → List Test
put_tests s room = test (leb (3 * length s) room) 2 ∷ []

-- The answer: the first test that fails, or the length of the strip.
unfoldable pub stripped : List Test → Values → List ℕ → Built
stripped tests v s = checked tests (λ g. Err g) (Ok (length (strip v s)))

abbrev pub strip_bytes : Built → Values → List ℕ → List ℕ
strip_bytes (Err g) v s = []
strip_bytes (Ok n) v s = strip v s

-- What is given back, and over the buffer's front just the strip that it tells of.
pub record Gives (tests : List Test) (v : Values) (s before : List ℕ) (r : Built) (after : List ℕ) : Type 0 where
  pub answer : r ≡ stripped tests v s
  pub reports : Reports tests (strip_bytes r v s) r
  pub buffer : after ≡ over (strip_bytes r v s) before

-- The contract of `write_strip`.
abbrev pub Strips : Values → List ℕ → List ℕ → Built → List ℕ → Type 0
Strips v s before r after = Gives (strip_tests v s (length before)) v s before r after

-- The contract of `put_strip`, the same with its own test.
abbrev pub Puts : Values → List ℕ → List ℕ → Built → List ℕ → Type 0
Puts v s before r after = Gives (put_tests s (length before)) v s before r after
