-- The mark of every byte of a content: structure, or a character position and in what it stands.
use Rattle.std.specs.Prelude.{ℕ, ◌+◌, ◌-◌, ◌≤◌, ◌<◌, Bool, true, false, Option, None, Some, List, [], ◌∷◌, ◌++◌, ◌≡◌, length, drop, replicate}
use Rattle.frame.specs.Ground.{pick}
use Rattle.content.specs.Byte.{is_character}
use Rattle.content.specs.Machine.{Spot, Inside, Font, TabulationCount, TabulationEnd, CounterNumber, CounterEnd, Mode, Reading, Done, Bad, start, step}
use Rattle.content.specs.declared.item.Place.{Place}
use Rattle.content.specs.declared.item.Place.TheVariants.{Content, Line, Block, Field, Date}
use Rattle.content.specs.declared.item.Reader.{Reader}
use Rattle.content.specs.declared.item.Seen.{Seen}
use Rattle.content.specs.declared.item.Item.{Item}
use Rattle.content.specs.declared.item.Item.TheVariants as item
use Rattle.content.specs.declared.position.Mark.{Mark}
use Rattle.content.specs.declared.position.Mark.TheVariants.{Structure, Character, FieldCharacter}
use Rattle.content.specs.declared.position.Run.{Run}

-- What a character is where it stands: an item, a part of an external field, or a code of a date item.
abbrev pub mark_inside : Place → Mark
mark_inside Content = Structure
mark_inside Line = Structure
mark_inside Block = Character
mark_inside Field = FieldCharacter
mark_inside Date = Structure

abbrev pub mark_at : Spot → Mark
mark_at (Inside place) = mark_inside place
mark_at (Font e) = Structure
mark_at TabulationCount = Structure
mark_at (TabulationEnd n) = Structure
mark_at CounterNumber = Structure
mark_at CounterEnd = Structure

abbrev pub mark_in : Mode → Mark
mark_in (Reading spot seen) = mark_at spot
mark_in Done = Structure
mark_in Bad = Structure

-- 01, What a content is: "The bytes of a character position are those of character items and of characters inside fields, and no
-- others."
unfoldable pub mark_of : Mode → ℕ → Mark
mark_of m b = pick (is_character b) (mark_in m) Structure

abbrev pub marks : Mode → List ℕ → List Mark
marks m [] = []
marks m (b ∷ s) = mark_of m b ∷ marks (step m b) s

abbrev pub is_position : Mark → Bool
is_position Structure = false
is_position Character = true
is_position FieldCharacter = true

abbrev pub is_field_position : Mark → Bool
is_field_position Structure = false
is_field_position Character = false
is_field_position FieldCharacter = true

-- 01, What an accepted frame does: "the character positions of external fields": how many there are from a mode on.
abbrev pub field_positions_from : Mode → List ℕ → ℕ
field_positions_from m [] = 0
field_positions_from m (b ∷ s) = pick (is_field_position (mark_of m b)) 1 0 + field_positions_from (step m b) s

abbrev pub field_positions : List ℕ → ℕ
field_positions s = field_positions_from start s

-- The bytes at those positions, in order.
abbrev pub at_fields : Mode → List ℕ → List ℕ
at_fields m [] = []
at_fields m (b ∷ s) = pick (is_field_position (mark_of m b)) (b ∷ at_fields (step m b) s) (at_fields (step m b) s)

-- What the bytes of an item are.
abbrev pub item_mark : Item → Mark
item_mark item.LineOpens = Structure
item_mark item.BlockOpens = Structure
item_mark item.Characters = Character
item_mark item.FieldCharacters = FieldCharacter
item_mark (item.Tabulation n) = Structure
item_mark (item.Counter n) = Structure
item_mark item.FieldOpens = Structure
item_mark item.FieldCloses = Structure
item_mark item.DateOpens = Structure
item_mark (item.Date c) = Structure
item_mark item.DateCloses = Structure

-- The contract of `run_at`: structure up to the positions that are found, and behind them the marks of what is left; or all is structure.
pub record Stretch (s : List ℕ) (at : ℕ) (p : Place) (seen : Seen) (k : Mark) (from to : ℕ) (p' : Place) (seen' : Seen) : Type 0 where
  pub ahead : at ≤ from
  pub some : from < to
  pub inside : to ≤ length s
  pub position : is_position k ≡ true
  pub same : marks (Reading (Inside p) seen) (drop at s) ≡ replicate (from - at) Structure ++ (replicate (to - from) k ++ marks (Reading (Inside p') seen') (drop to s))

abbrev pub Runs : List ℕ → Reader → Option Run → Type 0
Runs s r (Some run) =
    Stretch s r.at r.place r.seen run.mark run.from run.next.at run.next.place run.next.seen
Runs s r None = marks (Reading (Inside r.place) r.seen) (drop r.at s) ≡ replicate (length s - r.at) Structure
