-- The tree that a content is: the machine's reading of it, put together from behind.
use Rattle.std.specs.Prelude.{ℕ, List, [], ◌∷◌, eqb}
use Rattle.frame.specs.Ground.{pick}
use Rattle.content.specs.Byte.{kind_of}
use Rattle.content.specs.Machine.{Spot, Inside, Font, TabulationCount, TabulationEnd, CounterNumber, CounterEnd, Mode, Reading, Done, Bad, start, step}
use Rattle.content.specs.Grammar.{Item, Block, Line, Tree, character, tabulation, counter, field, date}
use Rattle.content.specs.declared.byte.Kind.{Kind}
use Rattle.content.specs.declared.byte.Kind.TheVariants as kind
use Rattle.content.specs.declared.item.Place.{Place}
use Rattle.content.specs.declared.item.Place.TheVariants as place

-- What the bytes from a place on hold: the rest of the field or date item they stand in, of the block (with its font, where that is
-- still to come), of the line, and of the content.
pub record Rest : Type 0 where
  pub letters : List ℕ
  pub items : List Item
  pub font : ℕ
  pub blocks : List Block
  pub lines : List Line

abbrev pub nothing : Rest
nothing = record { letters = []; items = []; font = 0; blocks = []; lines = [] }

abbrev pub with_item : Item → Rest → Rest
with_item i r =
    record { letters = []; items = i ∷ r.items; font = r.font; blocks = r.blocks; lines = r.lines }

abbrev pub with_letter : ℕ → Rest → Rest
with_letter c r =
    record { letters = c ∷ r.letters; items = r.items; font = r.font; blocks = r.blocks; lines = r.lines }

abbrev pub with_font : ℕ → Rest → Rest
with_font f r =
    record { letters = r.letters; items = r.items; font = f; blocks = r.blocks; lines = r.lines }

abbrev pub with_block : ℕ → Rest → Rest
with_block e r =
    record {
      letters = [];
      items = [];
      font = 0;
      blocks = record { expansion = e; font = r.font; items = r.items } ∷ r.blocks;
      lines = r.lines;
    }

abbrev pub with_line : Rest → Rest
with_line r = record { letters = []; items = []; font = 0; blocks = []; lines = r.blocks ∷ r.lines }

-- A byte before the rest, by where it stands.
abbrev pub before_in_block : Kind → ℕ → Rest → Rest
before_in_block kind.Line b r = with_line r
before_in_block kind.End b r = r
before_in_block kind.Field b r = with_item (field r.letters) r
before_in_block kind.Date b r = with_item (date r.letters) r
before_in_block kind.Counter b r = r
before_in_block kind.Tabulation b r = r
before_in_block kind.Expansion b r = with_block b r
before_in_block kind.Character b r = with_item (character b) r
before_in_block kind.Other b r = r

abbrev pub before_inside : Place → ℕ → Rest → Rest
before_inside place.Content b r = with_line r
before_inside place.Line b r = with_block b r
before_inside place.Block b r = before_in_block (kind_of b) b r
before_inside place.Field b r = pick (eqb b 0x12) r (with_letter b r)
before_inside place.Date b r = pick (eqb b 0x1B) r (with_letter b r)

abbrev pub before_at : Spot → ℕ → Rest → Rest
before_at (Inside p) b r = before_inside p b r
before_at (Font e) b r = with_font b r
before_at TabulationCount b r = with_item (tabulation b) r
before_at (TabulationEnd n) b r = r
before_at CounterNumber b r = with_item (counter b) r
before_at CounterEnd b r = r

abbrev pub before : Mode → ℕ → Rest → Rest
before (Reading spot seen) b r = before_at spot b r
before Done b r = r
before Bad b r = r

abbrev pub rest : Mode → List ℕ → Rest
rest m [] = nothing
rest m (b ∷ s) = before m b (rest (step m b) s)

unfoldable pub tree_of : List ℕ → Tree
tree_of s = (rest start s).lines
