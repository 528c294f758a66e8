-- The machine that reads a content a byte at a time. Everything the box does with a content comes from its step.
use Rattle.std.specs.Prelude.{ℕ, Option, None, Some, ◌+◌, eqb, ltb}
use Rattle.frame.specs.Ground.{pick}
use Rattle.content.specs.Byte.{kind_of, code_of, is_character, is_expansion, is_count}
use Rattle.content.specs.declared.byte.Code.{Code}
use Rattle.content.specs.declared.byte.Kind.{Kind}
use Rattle.content.specs.declared.byte.Kind.TheVariants as kind
use Rattle.content.specs.declared.item.Place.{Place}
use Rattle.content.specs.declared.item.Place.TheVariants.{Content, Line, Block, Field, Date}
use Rattle.content.specs.declared.item.Seen.{Seen}

-- What may stand next, and what was read of what is not whole yet: an expansion, a tabulation's n.
pub data Spot : Type 0 where
  Inside : Place → Spot
  Font : ℕ → Spot
  TabulationCount : Spot
  TabulationEnd : ℕ → Spot
  CounterNumber : Spot
  CounterEnd : Spot

pub data Mode : Type 0 where
  Reading : Spot → Seen → Mode
  Done : Mode
  Bad : Mode

-- 01, What a content is: "One to four lines"; "at most 10 [fields] in a content".
abbrev pub most_lines : ℕ
most_lines = 4

abbrev pub most_fields : ℕ
most_fields = 10

-- Nothing is seen yet, and a line must begin.
abbrev pub start : Mode
start = Reading (Inside Content) (record { lines = 0; fields = 0 })

-- 01, What a content is: "One to four lines"; "A line is 0Ah and one or more blocks."
unfoldable pub with_line : Seen → Mode
with_line seen = pick (ltb seen.lines most_lines) (Reading (Inside Line) (record { lines = seen.lines + 1; fields = seen.fields })) Bad

-- 01, What a content is: "an external field: [..] at most 10 in a content".
unfoldable pub with_field : Seen → Mode
with_field seen = pick (ltb seen.fields most_fields) (Reading (Inside Field) (record { lines = seen.lines; fields = seen.fields + 1 })) Bad

-- 01, What a content is: "A block is an expansion (01h to 09h), a font byte (01h to FFh) and zero or more items." Behind an item
-- stands another item, the next block, the next line, or the 0Dh.
abbrev pub in_block : Kind → ℕ → Seen → Mode
in_block kind.Line b seen = with_line seen
in_block kind.End b seen = Done
in_block kind.Field b seen = with_field seen
in_block kind.Date b seen = Reading (Inside Date) seen
in_block kind.Counter b seen = Reading CounterNumber seen
in_block kind.Tabulation b seen = Reading TabulationCount seen
in_block kind.Expansion b seen = Reading (Font b) seen
in_block kind.Character b seen = Reading (Inside Block) seen
in_block kind.Other b seen = Bad

-- 01, What a content is: "an external field: 12h, zero or more characters, 12h".
abbrev pub in_field : ℕ → Seen → Mode
in_field b seen = pick (eqb b 0x12) (Reading (Inside Block) seen) (pick (is_character b) (Reading (Inside Field) seen) Bad)

-- 01, What a content is: "a date item: 1Bh, zero or more codes, 1Bh".
abbrev pub in_code : Option Code → Seen → Mode
in_code (Some c) seen = Reading (Inside Date) seen
in_code None seen = Bad

abbrev pub in_date : ℕ → Seen → Mode
in_date b seen = pick (eqb b 0x1B) (Reading (Inside Block) seen) (in_code (code_of b) seen)

abbrev pub inside : Place → ℕ → Seen → Mode
inside Content b seen = pick (eqb b 0x0A) (with_line seen) Bad
inside Line b seen = pick (is_expansion b) (Reading (Font b) seen) Bad
inside Block b seen = in_block (kind_of b) b seen
inside Field b seen = in_field b seen
inside Date b seen = in_date b seen

-- 01, What a content is: "a tabulation: 1Eh, n (1 to 255), 1Eh"; "a counter: 1Ch, 01h, 1Ch".
abbrev pub stepped : Spot → ℕ → Seen → Mode
stepped (Inside place) b seen = inside place b seen
stepped (Font e) b seen = pick (is_count b) (Reading (Inside Block) seen) Bad
stepped TabulationCount b seen = pick (is_count b) (Reading (TabulationEnd b) seen) Bad
stepped (TabulationEnd n) b seen = pick (eqb b 0x1E) (Reading (Inside Block) seen) Bad
stepped CounterNumber b seen = pick (eqb b 0x01) (Reading CounterEnd seen) Bad
stepped CounterEnd b seen = pick (eqb b 0x1C) (Reading (Inside Block) seen) Bad

-- 01, What a content is: "then 0Dh, and no byte after it".
abbrev pub step : Mode → ℕ → Mode
step (Reading spot seen) b = stepped spot b seen
step Done b = Bad
step Bad b = Bad
