-- A change of characters at character positions keeps verdict, marks and outline: each new byte leads the machine where the old one
-- led it.
use Prim.Native.Nat.{ℕ, suc, ◌+◌}
use mathlib.Core.Bool.{Bool, true, false}
use mathlib.Core.List.{List, ◌∷◌, map}
use mathlib.Core.Path.{◌≡◌, refl, ap, ◌∙◌}
use Rattle.std.specs.Prelude.{None, Option, Some}
use native.Mathlib.Omega.{arith}
use lib.Dec.{eqb}
use lib.ListN.{length}
use Rattle.frame.specs.Ground.{pick}
use Rattle.content.specs.Byte.{is_character, is_count, kind_of, code_of}
use Rattle.content.specs.Machine as machine
use Rattle.content.specs.Machine.{Mode, Reading, Done, Bad, step, in_code}
use Rattle.content.specs.Content.{read, onward}
use Rattle.content.specs.Position.{marks, mark_of, mark_in, is_position, is_field_position, field_positions_from}
use Rattle.content.specs.Grammar.{Item, character, tabulation, counter, field, date, blank, item_outline, block_outline}
use Rattle.content.specs.Tree.{Rest, rest, before, with_item, with_letter, with_block, with_line, before_in_block}
use Rattle.content.specs.Laws.{CharactersAreNoStructure}
use Rattle.content.specs.ChangeLaws.{Changed, none, kept, changed}
use Rattle.content.specs.declared.byte.Kind.{Kind}
use Rattle.content.specs.declared.byte.Kind.TheVariants as kind
use Rattle.content.specs.declared.byte.Code.{Code}
use Rattle.content.specs.declared.item.Place.TheVariants as place
use Rattle.content.specs.declared.item.Seen.{Seen}
use Rattle.content.specs.declared.position.Mark.TheVariants.{Structure}
use Rattle.frame.proofs.Ground.{never}
use Rattle.content.proofs.Bytes.{kind_of_character, character_is_no_mark}

-- The modes in which a character is a character position.
data Holds : Mode → Type 0 where
  in_block : {seen : Seen} → Holds (Reading (machine.Inside place.Block) seen)
  in_field : {seen : Seen} → Holds (Reading (machine.Inside place.Field) seen)

mode_holds : (m : Mode) → is_position (mark_in m) ≡ true → Holds m
mode_holds (Reading (machine.Inside place.Content) seen) e = never e
mode_holds (Reading (machine.Inside place.Line) seen) e = never e
mode_holds (Reading (machine.Inside place.Block) seen) e = in_block
mode_holds (Reading (machine.Inside place.Field) seen) e = in_field
mode_holds (Reading (machine.Inside place.Date) seen) e = never e
mode_holds (Reading (machine.Font x) seen) e = never e
mode_holds (Reading machine.TabulationCount seen) e = never e
mode_holds (Reading (machine.TabulationEnd n) seen) e = never e
mode_holds (Reading machine.CounterNumber seen) e = never e
mode_holds (Reading machine.CounterEnd seen) e = never e
mode_holds Done e = never e
mode_holds Bad e = never e

-- A character position holds a character, and stands in a block or in a field.
record Position (m : Mode) (b : ℕ) : Type 0 where
  fits : is_character b ≡ true
  holds : Holds m

position : (m : Mode) (b : ℕ) → is_position (mark_of m b) ≡ true → Position m b
unfolding mark_of
position m b e = go (is_character b) refl e
  where
    go : (x : Bool) → is_character b ≡ x → is_position (pick x (mark_in m) Structure) ≡ true → Position m b
    go true c e = record { fits = c; holds = mode_holds m e }
    go false c e = never e

-- All characters lead on alike from such a mode.
step_same : {m : Mode} (b c : ℕ) → Holds m → is_character b ≡ true → is_character c ≡ true → step m c ≡ step m b
step_same b c in_block p q = rw (kind_of_character b p, kind_of_character c q)
step_same b c in_field p q = rw (character_is_no_mark b 0x12 p (omega arith), character_is_no_mark c 0x12 q (omega arith), p, q)

pub no_structure : CharactersAreNoStructure
unfolding mark_of
no_structure m b c p q =
    let at = position m b p in
    (step_same b c at.holds at.fits q, rw (at.fits, q))

pub length_same : {m : Mode} {s t : List ℕ} → Changed m s t → length t ≡ length s
length_same none = refl
length_same (kept h) = ap suc (length_same h)
length_same (changed p q h) = ap suc (length_same h)

pub read_same : {m : Mode} {s t : List ℕ} (i : ℕ) → Changed m s t → read i m t ≡ read i m s
read_same i none = refl
read_same i (kept {m = m} {b = b} h) = ap (onward i (step m b)) (read_same (i + 1) h)
read_same i (changed {m = m} {b = b} {c = c} p q h) =
    let same = no_structure m b c p q in
    rw (same.0, read_same (i + 1) h)

pub marks_same : {m : Mode} {s t : List ℕ} → Changed m s t → marks m t ≡ marks m s
marks_same none = refl
marks_same (kept {m = m} {b = b} h) = ap (◌∷◌ (mark_of m b)) (marks_same h)
marks_same (changed {m = m} {b = b} {c = c} p q h) =
    let same = no_structure m b c p q in
    rw (same.0, same.1, marks_same h)

pub positions_same : {m : Mode} {s t : List ℕ} → Changed m s t → field_positions_from m t ≡ field_positions_from m s
positions_same none = refl
positions_same (kept {m = m} {b = b} h) = rw (positions_same h)
positions_same (changed {m = m} {b = b} {c = c} p q h) =
    let same = no_structure m b c p q in
    rw (same.0, same.1, positions_same h)

-- Inside a field the letters may differ, elsewhere they may not.
abbrev pub in_a_field : Mode → Bool
in_a_field m = is_field_position (mark_in m)

abbrev pub letters_outline : Bool → List ℕ → List ℕ
letters_outline true cs = blank cs
letters_outline false cs = cs

-- What two lists of bytes hold from a mode on has the same outline.
pub record Alike (m : Mode) (q r : Rest) : Type 0 where
  pub letters : letters_outline (in_a_field m) q.letters ≡ letters_outline (in_a_field m) r.letters
  pub items : map item_outline q.items ≡ map item_outline r.items
  pub font : q.font ≡ r.font
  pub blocks : map block_outline q.blocks ≡ map block_outline r.blocks
  pub lines : map (map block_outline) q.lines ≡ map (map block_outline) r.lines

blank_of_outline : (x : Bool) (cs ds : List ℕ) → letters_outline x cs ≡ letters_outline x ds → blank cs ≡ blank ds
blank_of_outline true cs ds e = e
blank_of_outline false cs ds e = ap blank e

-- Where the machine goes on outside a field, or stops, the letters are the same.
exact_of_outline : (x : Bool) (m : Mode) (cs ds : List ℕ) → in_a_field m ≡ false
    → letters_outline (in_a_field (pick x m Bad)) cs ≡ letters_outline (in_a_field (pick x m Bad)) ds → cs ≡ ds
exact_of_outline true m cs ds n e = rw n at e
exact_of_outline false m cs ds n e = e

-- What stands before what is alike is alike, if its outline is the same.
module _ {m n : Mode} {q r : Rest} (h : Alike m q r) where
  with_letters : letters_outline (in_a_field n) q.letters ≡ letters_outline (in_a_field n) r.letters → Alike n q r
  with_letters e = record { letters = e; items = h.items; font = h.font; blocks = h.blocks; lines = h.lines }

  letter_alike : (b c : ℕ)
      → letters_outline (in_a_field n) (b ∷ q.letters) ≡ letters_outline (in_a_field n) (c ∷ r.letters)
      → Alike n (with_letter b q) (with_letter c r)
  letter_alike b c e = record { letters = e; items = h.items; font = h.font; blocks = h.blocks; lines = h.lines }

  item_alike : (i j : Item) → item_outline i ≡ item_outline j → Alike n (with_item i q) (with_item j r)
  item_alike i j e = record { letters = refl; items = cc; font = h.font; blocks = h.blocks; lines = h.lines }

  block_alike : (e : ℕ) → Alike n (with_block e q) (with_block e r)
  block_alike e = record { letters = refl; items = refl; font = refl; blocks = cc; lines = h.lines }

  line_alike : Alike n (with_line q) (with_line r)
  line_alike = record { letters = refl; items = refl; font = refl; blocks = refl; lines = cc }

-- The same byte before what is alike, in a block by its kind, and then in any mode.
kind_alike : (k : Kind) (b : ℕ) (seen : Seen) {q r : Rest} → Alike (machine.in_block k b seen) q r
    → Alike (Reading (machine.Inside place.Block) seen) (before_in_block k b q) (before_in_block k b r)
kind_alike kind.Line b seen h = line_alike h
kind_alike kind.End b seen h = with_letters h h.letters
kind_alike kind.Field b seen {q} {r} h =
    item_alike h (field q.letters) (field r.letters)
    (ap field (blank_of_outline (in_a_field (machine.with_field seen)) q.letters r.letters h.letters))
kind_alike kind.Date b seen {q} {r} h = item_alike h (date q.letters) (date r.letters) (ap date h.letters)
kind_alike kind.Counter b seen h = with_letters h h.letters
kind_alike kind.Tabulation b seen h = with_letters h h.letters
kind_alike kind.Expansion b seen h = block_alike h b
kind_alike kind.Character b seen h = item_alike h (character b) (character b) refl
kind_alike kind.Other b seen h = with_letters h h.letters

code_alike : (c : Option Code) (seen : Seen) {q r : Rest} → Alike (in_code c seen) q r → q.letters ≡ r.letters
code_alike (Some c) seen h = h.letters
code_alike None seen h = h.letters

before_alike : (m : Mode) (b : ℕ) {q r : Rest} → Alike (step m b) q r → Alike m (before m b q) (before m b r)
before_alike (Reading (machine.Inside place.Content) seen) b h = line_alike h
before_alike (Reading (machine.Inside place.Line) seen) b h = block_alike h b
before_alike (Reading (machine.Font x) seen) b {q} {r} h =
    let e = exact_of_outline (is_count b) (Reading (machine.Inside place.Block) seen) q.letters r.letters refl h.letters in
    record { letters = e; items = h.items; font = refl; blocks = h.blocks; lines = h.lines }
before_alike (Reading (machine.Inside place.Block) seen) b h = kind_alike (kind_of b) b seen h
before_alike (Reading (machine.Inside place.Field) seen) b {q} {r} h = go (eqb b 0x12)
  where
    e : blank q.letters ≡ blank r.letters
    e = blank_of_outline (in_a_field (machine.in_field b seen)) q.letters r.letters h.letters

    go : (x : Bool) → Alike (Reading (machine.Inside place.Field) seen) (pick x q (with_letter b q)) (pick x r (with_letter b r))
    go true = with_letters h e
    go false = letter_alike h b b (ap (◌∷◌ 0x20) e)
before_alike (Reading (machine.Inside place.Date) seen) b {q} {r} h = go (eqb b 0x1B) h
  where
    go : (x : Bool) → Alike (pick x (Reading (machine.Inside place.Block) seen) (in_code (code_of b) seen)) q r
        → Alike (Reading (machine.Inside place.Date) seen) (pick x q (with_letter b q)) (pick x r (with_letter b r))
    go true h = with_letters h h.letters
    go false h = letter_alike h b b (ap (◌∷◌ b) (code_alike (code_of b) seen h))
before_alike (Reading machine.TabulationCount seen) b h = item_alike h (tabulation b) (tabulation b) refl
before_alike (Reading (machine.TabulationEnd n) seen) b {q} {r} h =
    with_letters h (exact_of_outline (eqb b 0x1E) (Reading (machine.Inside place.Block) seen) q.letters r.letters refl h.letters)
before_alike (Reading machine.CounterNumber seen) b h = item_alike h (counter b) (counter b) refl
before_alike (Reading machine.CounterEnd seen) b {q} {r} h =
    with_letters h (exact_of_outline (eqb b 0x1C) (Reading (machine.Inside place.Block) seen) q.letters r.letters refl h.letters)
before_alike Done b h = with_letters h h.letters
before_alike Bad b h = with_letters h h.letters

alike_refl : {m : Mode} {r : Rest} → Alike m r r
alike_refl = record { letters = refl; items = refl; font = refl; blocks = refl; lines = refl }

-- Another character before the same.
character_alike : {m : Mode} (b c : ℕ) (r : Rest) → Holds m → is_character b ≡ true → is_character c ≡ true
    → Alike m (before m c r) (before m b r)
character_alike b c r (in_block {seen = seen}) p q =
    rw (kind_of_character b p, kind_of_character c q)
    (item_alike (alike_refl {m = Reading (machine.Inside place.Block) seen} {r = r}) (character c) (character b) refl)
character_alike b c r (in_field {seen = seen}) p q =
    rw (character_is_no_mark b 0x12 p (omega arith), character_is_no_mark c 0x12 q (omega arith))
    (letter_alike (alike_refl {m = Reading (machine.Inside place.Field) seen} {r = r}) c b refl)

alike_trans : {m : Mode} {p q r : Rest} → Alike m p q → Alike m q r → Alike m p r
alike_trans g h =
    record {
      letters = g.letters ∙ h.letters;
      items = g.items ∙ h.items;
      font = g.font ∙ h.font;
      blocks = g.blocks ∙ h.blocks;
      lines = g.lines ∙ h.lines;
    }

pub rest_alike : {m : Mode} {s t : List ℕ} → Changed m s t → Alike m (rest m t) (rest m s)
rest_alike none = alike_refl
rest_alike (kept {m = m} {b = b} h) = before_alike m b (rest_alike h)
rest_alike (changed {m = m} {b = b} {c = c} {t = t} p q h) =
    let at = position m b p in
    rw (no_structure m b c p q).0
    (alike_trans (character_alike b c (rest (step m b) t) at.holds at.fits q) (before_alike m b (rest_alike h)))
