-- What is read as good is a good tree, written out. By induction on the bytes, from every spot on: the rest that is read there is good,
-- and written out it is the bytes that are left.
use Prim.Native.Nat.{ℕ, ◌+◌, ◌≤◌}
use mathlib.Core.Bool.{Bool, true, false}
use mathlib.Core.List.{List, [], ◌∷◌, ◌++◌, append_assoc}
use mathlib.Core.Path.{◌≡◌, refl, ap, ◌∙◌, sym}
use Rattle.std.specs.Prelude.{None, Option, Some}
use native.Mathlib.Omega.{arith}
use borrow.Author.Tests.{eqb-true, ltb-true}
use lib.Dec.{eqb, ltb}
use lib.ListN.{length}
use Rattle.frame.specs.Ground.{pick}
use Rattle.content.specs.Byte.{is_character, is_expansion, is_count, all_characters, kind_of, code_of, is_code}
use Rattle.content.specs.Machine as machine
use Rattle.content.specs.Machine.{Spot, Mode, Reading, Done, Bad, stepped, with_line, with_field, in_block, in_code, inside}
use Rattle.content.specs.Grammar.{Item, Block, Line, character, tabulation, counter, field, date, item_bytes, items_bytes, blocks_bytes, lines_bytes, all_codes, good_item, good_items, good_blocks, good_line, good_lines, item_fields, items_fields, blocks_fields, lines_fields}
use Rattle.content.specs.Tree.{Rest, before_at, before_inside, before_in_block, with_line as line_Before, with_letter, nothing, rest, tree_of}
use Rattle.content.specs.Laws.{Correct}
use Rattle.content.specs.declared.byte.Kind.{Kind}
use Rattle.content.specs.declared.byte.Kind.TheVariants as kind
use Rattle.content.specs.declared.byte.Code.{Code}
use Rattle.content.specs.declared.item.Place.{Place}
use Rattle.content.specs.declared.item.Place.TheVariants as place
use Rattle.content.specs.declared.item.Seen.{Seen}
use Rattle.frame.proofs.Ground.{true_both}
use Rattle.content.proofs.Bytes.{Means, kind_means}
use Rattle.content.proofs.Run.{run, bad_is_not_done, reading_is_not_done, passed, verdict_runs}
use Rattle.content.proofs.Good.{tree_is_good}

-- Not too many lines and fields have begun.
record Fits (seen : Seen) : Type 0 where
  lines : seen.lines ≤ 4
  fields : seen.fields ≤ 10

-- The rest of a block, a line and a content, good and written out.
record Right (seen : Seen) (s : List ℕ) (is : List Item) (bs : List Block) (ls : List Line) : Type 0 where
  bytes : s ≡ items_bytes is ++ (blocks_bytes bs ++ (lines_bytes ls ++ (0x0D ∷ [])))
  items : good_items is ≡ true
  blocks : good_blocks bs ≡ true
  lines : good_lines ls ≡ true
  few_lines : seen.lines + length ls ≤ 4
  few_fields : seen.fields + (items_fields is + (blocks_fields bs + lines_fields ls)) ≤ 10

right_end : (seen : Seen) → Fits seen → Right seen (0x0D ∷ []) [] [] []
right_end seen fits =
    record { bytes = refl; items = refl; blocks = refl; lines = refl; few_lines = omega arith; few_fields = omega arith }

right_item : (i : Item) (seen : Seen) (f : ℕ) (u s : List ℕ) (is : List Item) (bs : List Block) (ls : List Line) →
    good_item i ≡ true → u ≡ item_bytes i ++ s → f ≡ seen.fields + item_fields i →
    Right (record { lines = seen.lines; fields = f }) s is bs ls → Right seen u (i ∷ is) bs ls
right_item i seen f u s is bs ls g e n r =
    record {
      bytes = e ∙ rw r.bytes (sym (append_assoc (item_bytes i) (items_bytes is) _));
      items = true_both (good_item i) (good_items is) g r.items;
      blocks = r.blocks;
      lines = r.lines;
      few_lines = r.few_lines;
      few_fields = omega (arith, r.few_fields);
    }

right_block : (e f : ℕ) (seen : Seen) (u s : List ℕ) (is : List Item) (bs : List Block) (ls : List Line) →
    is_expansion e ≡ true → is_count f ≡ true → u ≡ e ∷ f ∷ s → Right seen s is bs ls →
    Right seen u [] (record { expansion = e; font = f; items = is } ∷ bs) ls
right_block e f seen u s is bs ls g h q r =
    record {
      bytes = q ∙ rw r.bytes (ap (λ (t : List ℕ). e ∷ f ∷ t) (sym (append_assoc (items_bytes is) (blocks_bytes bs) _)));
      items = refl;
      blocks = true_both _ (good_blocks bs) (true_both (is_expansion e) _ g (true_both (is_count f) _ h r.items)) r.blocks;
      lines = r.lines;
      few_lines = r.few_lines;
      few_fields = omega (arith, r.few_fields);
    }

right_line : (seen : Seen) (s : List ℕ) (bs : List Block) (ls : List Line) →
    good_line bs ≡ true → Right (record { lines = seen.lines + 1; fields = seen.fields }) s [] bs ls →
    Right seen (0x0A ∷ s) [] [] (bs ∷ ls)
right_line seen s bs ls g r =
    record {
      bytes = rw r.bytes (ap (λ (t : List ℕ). 0x0A ∷ t) (sym (append_assoc (blocks_bytes bs) (lines_bytes ls) _)));
      items = refl;
      blocks = refl;
      lines = true_both (good_line bs) (good_lines ls) g r.lines;
      few_lines = omega (arith, r.few_lines);
      few_fields = omega (arith, r.few_fields);
    }

-- The bytes p, and behind them the rest.
abbrev Behind : List ℕ → Seen → List ℕ → Rest → Type 0
Behind p seen s r = (t : List ℕ) × (s ≡ p ++ t) × Right seen t r.items r.blocks r.lines

-- What is right to be read inside a place, and at a machine. At a tabulation's count and a counter's number the item that is read has begun
-- a byte before.
abbrev RightIn : Place → Seen → List ℕ → Rest → Type 0
RightIn place.Content seen s r = Right seen s [] [] r.lines × (1 ≤ length r.lines)
RightIn place.Line seen s r = Right seen s [] r.blocks r.lines × (good_line r.blocks ≡ true)
RightIn place.Block seen s r = Right seen s r.items r.blocks r.lines
RightIn place.Field seen s r = (all_characters r.letters ≡ true) × Behind (r.letters ++ (0x12 ∷ [])) seen s r
RightIn place.Date seen s r = (all_codes r.letters ≡ true) × Behind (r.letters ++ (0x1B ∷ [])) seen s r

abbrev RightAt : Spot → Seen → List ℕ → Rest → Type 0
RightAt (machine.Font e) seen s r = (is_count r.font ≡ true) × Behind (r.font ∷ []) seen s r
RightAt (machine.Inside p) seen s r = RightIn p seen s r
RightAt machine.TabulationCount seen s r = Right seen (0x1E ∷ s) r.items r.blocks r.lines
RightAt (machine.TabulationEnd n) seen s r = Behind (0x1E ∷ []) seen s r
RightAt machine.CounterNumber seen s r = Right seen (0x1C ∷ s) r.items r.blocks r.lines
RightAt machine.CounterEnd seen s r = Behind (0x1C ∷ []) seen s r

abbrev RightFrom : List ℕ → Type 0
RightFrom s = (p : Spot) (seen : Seen) → Fits seen → run (Reading p seen) s ≡ Done → RightAt p seen s (rest (Reading p seen) s)

-- Nothing may follow the end mark.
done_ends : (s : List ℕ) → run Done s ≡ Done → s ≡ []
done_ends [] e = refl
done_ends (b ∷ s) e = absurd (bad_is_not_done s e)

rest_of_bad : (s : List ℕ) → rest Bad s ≡ nothing
rest_of_bad [] = refl
rest_of_bad (b ∷ s) = rest_of_bad s

rest_of_done : (s : List ℕ) → rest Done s ≡ nothing
rest_of_done [] = refl
rest_of_done (b ∷ s) = rest_of_bad s

-- Letters are only read inside fields and date items, so that the mark that closes one starts with none.
tabulation_has_no_letters : (seen : Seen) (s : List ℕ) → (rest (Reading machine.TabulationCount seen) s).letters ≡ []
tabulation_has_no_letters seen [] = refl
tabulation_has_no_letters seen (b ∷ s) = refl

counter_has_no_letters : (seen : Seen) (s : List ℕ) → (rest (Reading machine.CounterNumber seen) s).letters ≡ []
counter_has_no_letters seen [] = refl
counter_has_no_letters seen (b ∷ s) = refl

block_has_no_letters : (seen : Seen) (s : List ℕ) → (rest (Reading (machine.Inside place.Block) seen) s).letters ≡ []
block_has_no_letters seen [] = refl
block_has_no_letters seen (b ∷ s) = by_kind (kind_of b)
  where
    by_kind : (k : Kind) → (before_in_block k b (rest (in_block k b seen) s)).letters ≡ []
    by_kind kind.Line = refl
    by_kind kind.End = ap (λ (r : Rest). r.letters) (rest_of_done s)
    by_kind kind.Field = refl
    by_kind kind.Date = refl
    by_kind kind.Counter = counter_has_no_letters seen s
    by_kind kind.Tabulation = tabulation_has_no_letters seen s
    by_kind kind.Expansion = refl
    by_kind kind.Character = refl
    by_kind kind.Other = ap (λ (r : Rest). r.letters) (rest_of_bad s)

-- The steps inside a field and a date item, by what their two tests say of the byte.
abbrev in_field_by : Bool → Bool → Seen → Mode
in_field_by x y seen = pick x (Reading (machine.Inside place.Block) seen) (pick y (Reading (machine.Inside place.Field) seen) Bad)

abbrev in_date_by : Bool → Option Code → Seen → Mode
in_date_by x k seen = pick x (Reading (machine.Inside place.Block) seen) (in_code k seen)

-- A byte before bytes from which on all is right.
module _ (s : List ℕ) (right : RightFrom s) (seen : Seen) (fits : Fits seen) where
  line_read : run (with_line seen) s ≡ Done → RightIn place.Block seen (0x0A ∷ s) (line_Before (rest (with_line seen) s))
  unfolding with_line
  line_read e =
      let t = passed (ltb seen.lines 4) _ s e in
      let h = ltb-true seen.lines 4 t in
      let n = right (machine.Inside place.Line) _ (record { lines = omega arith; fields = fits.fields }) (rw t at e) in
      rw t (right_line seen s _ _ n.1 n.0)

  field_read :
      run (with_field seen) s ≡ Done →
      RightIn place.Block seen (0x12 ∷ s) (before_in_block kind.Field 0x12 (rest (with_field seen) s))
  unfolding with_field
  field_read e =
      let t = passed (ltb seen.fields 10) _ s e in
      let h = ltb-true seen.fields 10 t in
      let n = right (machine.Inside place.Field) _ (record { lines = fits.lines; fields = omega arith }) (rw t at e) in
      rw t (right_item (field _) seen _ (0x12 ∷ s) n.1.0 _ _ _ n.0 (ap (λ (r : List ℕ). 0x12 ∷ r) n.1.1) refl n.1.2)

  in_block_read :
      (k : Kind) (b : ℕ) → Means k b → run (in_block k b seen) s ≡ Done →
      RightIn place.Block seen (b ∷ s) (before_in_block k b (rest (in_block k b seen) s))
  in_block_read kind.Line b q e = rw q (line_read e)
  in_block_read kind.End b q e = rw (q, done_ends s e) (right_end seen fits)
  in_block_read kind.Field b q e = rw q (field_read e)
  in_block_read kind.Date b q e =
      let h = right (machine.Inside place.Date) seen fits e in
      right_item (date _) seen seen.fields (b ∷ s) h.1.0 _ _ _ h.0
      (rw q (ap (λ (t : List ℕ). 0x1B ∷ t) h.1.1)) (omega arith) h.1.2
  in_block_read kind.Counter b q e = rw q (right machine.CounterNumber seen fits e)
  in_block_read kind.Tabulation b q e = rw q (right machine.TabulationCount seen fits e)
  in_block_read kind.Expansion b q e =
      let h = right (machine.Font b) seen fits e in
      right_block b _ seen (b ∷ s) h.1.0 _ _ _ q h.0 (ap (λ (t : List ℕ). b ∷ t) h.1.1) h.1.2
  in_block_read kind.Character b q e =
      right_item (character b) seen seen.fields (b ∷ s) s _ _ _ q refl (omega arith) (right (machine.Inside place.Block) seen fits e)
  in_block_read kind.Other b q e = absurd (bad_is_not_done s e)

  in_field_read :
      (x y : Bool) (b : ℕ) → eqb b 0x12 ≡ x → is_character b ≡ y → run (in_field_by x y seen) s ≡ Done →
      RightIn place.Field seen (b ∷ s) (pick x (rest (in_field_by x y seen) s) (with_letter b (rest (in_field_by x y seen) s)))
  in_field_read true y b p q e =
      rw (eqb-true b 0x12 p, block_has_no_letters seen s) (refl, (s, refl, right (machine.Inside place.Block) seen fits e))
  in_field_read false true b p q e =
      let h = right (machine.Inside place.Field) seen fits e in
      (true_both (is_character b) _ q h.0, (h.1.0, ap (λ (t : List ℕ). b ∷ t) h.1.1, h.1.2))
  in_field_read false false b p q e = absurd (bad_is_not_done s e)

  in_date_read :
      (x : Bool) (k : Option Code) (b : ℕ) → eqb b 0x1B ≡ x → code_of b ≡ k → run (in_date_by x k seen) s ≡ Done →
      RightIn place.Date seen (b ∷ s) (pick x (rest (in_date_by x k seen) s) (with_letter b (rest (in_date_by x k seen) s)))
  in_date_read true k b p q e =
      rw (eqb-true b 0x1B p, block_has_no_letters seen s) (refl, (s, refl, right (machine.Inside place.Block) seen fits e))
  in_date_read false (Some c) b p q e =
      let h = right (machine.Inside place.Date) seen fits e in
      (true_both (is_code (code_of b)) _ (rw q) h.0, (h.1.0, ap (λ (t : List ℕ). b ∷ t) h.1.1, h.1.2))
  in_date_read false None b p q e = absurd (bad_is_not_done s e)

  inside_read :
      (p : Place) (b : ℕ) → run (inside p b seen) s ≡ Done → RightIn p seen (b ∷ s) (before_inside p b (rest (inside p b seen) s))
  inside_read place.Content b e =
      let t = passed (eqb b 0x0A) _ s e in
      rw (t, eqb-true b 0x0A t) (line_read (rw t at e), omega arith)
  inside_read place.Line b e =
      let t = passed (is_expansion b) _ s e in
      let r = in_block_read kind.Expansion b t (rw t at e) in
      rw t (r, rw t at r.blocks)
  inside_read place.Block b e = in_block_read (kind_of b) b (kind_means b) e
  inside_read place.Field b e = in_field_read (eqb b 0x12) (is_character b) b refl refl e
  inside_read place.Date b e = in_date_read (eqb b 0x1B) (code_of b) b refl refl e

  byte_read :
      (p : Spot) (b : ℕ) → run (stepped p b seen) s ≡ Done → RightAt p seen (b ∷ s) (before_at p b (rest (stepped p b seen) s))
  byte_read (machine.Font x) b e =
      let t = passed (is_count b) _ s e in
      rw t (refl, (s, refl, right (machine.Inside place.Block) seen fits (rw t at e)))
  byte_read (machine.Inside p) b e = inside_read p b e
  byte_read machine.TabulationCount b e =
      let t = passed (is_count b) _ s e in
      let h = right (machine.TabulationEnd b) seen fits (rw t at e) in
      rw t (right_item (tabulation b) seen seen.fields (0x1E ∷ b ∷ s) h.0 _ _ _ t
      (ap (λ (u : List ℕ). 0x1E ∷ b ∷ u) h.1) (omega arith) h.2)
  byte_read (machine.TabulationEnd n) b e =
      let t = passed (eqb b 0x1E) _ s e in
      rw (t, eqb-true b 0x1E t) (s, refl, right (machine.Inside place.Block) seen fits (rw t at e))
  byte_read machine.CounterNumber b e =
      let t = passed (eqb b 0x01) _ s e in
      let h = right machine.CounterEnd seen fits (rw t at e) in
      rw t (right_item (counter b) seen seen.fields (0x1C ∷ b ∷ s) h.0 _ _ _ t
      (ap (λ (u : List ℕ). 0x1C ∷ b ∷ u) h.1) (omega arith) h.2)
  byte_read machine.CounterEnd b e =
      let t = passed (eqb b 0x1C) _ s e in
      rw (t, eqb-true b 0x1C t) (s, refl, right (machine.Inside place.Block) seen fits (rw t at e))

right_from : (s : List ℕ) → RightFrom s
right_from [] p seen fits e = absurd (reading_is_not_done p seen e)
right_from (b ∷ s) p seen fits e = byte_read s (right_from s) seen fits p b e

pub reads_a_tree : Correct
unfolding tree_of
reads_a_tree s v =
    let none : Seen = record { lines = 0; fields = 0 } in
    let h = right_from s (machine.Inside place.Content) none (record { lines = omega arith; fields = omega arith }) (verdict_runs s v) in
    let r = h.0 in (
      tree_is_good _ (record { some_lines = h.1; few_lines = omega (arith, r.few_lines); lines = r.lines; few_fields = omega (arith, r.few_fields) }),
      sym r.bytes,
    )
