-- What the machine makes of each piece of a good tree, written out: where it leads, what it puts before the rest that follows, what it
-- shows in a strip, and which of its bytes are character positions.
use Prim.Native.Nat.{ℕ, ◌+◌, ◌≤◌, ◌<◌}
use mathlib.Core.Bool.{true}
use mathlib.Core.List.{List, [], ◌∷◌, ◌++◌, append_assoc, append-nil, map}
use mathlib.Core.Path.{◌≡◌, refl, ap, ◌∙◌, sym}
use native.Mathlib.Nat.{add-zero, add_assoc}
use Rattle.std.specs.Prelude.{None, Option, Some}
use native.Mathlib.Omega.{arith}
use borrow.Author.Tests.{lt-ltb}
use lib.Dec.{eqb}
use lib.ListN.{length, replicate}
use Rattle.frame.specs.Ground.{pick}
use Rattle.content.specs.Byte.{is_character, is_expansion, is_count, all_characters, kind_of, code_of, is_code}
use Rattle.content.specs.Machine as machine
use Rattle.content.specs.Machine.{Spot, Mode, Reading, Done, start, step, with_line, with_field, in_code}
use Rattle.content.specs.Strip.{strip_from, shown_by, shown_code, where_good}
use Rattle.content.specs.Grammar.{Item, Block, Line, Tree, character, tabulation, counter, field, date, item_bytes, items_bytes, block_bytes, blocks_bytes, line_bytes, encode, all_codes, characters, good_item, good_items, good_block, good_blocks, good_line, good_lines, item_fields, items_fields, blocks_fields, lines_fields, code_text, date_text, stands_for, resolved_items, resolved_block, resolved}
use Rattle.content.specs.Marks.{between, item_marks, items_marks, block_marks, blocks_marks, line_marks, tree_marks, item_letters, items_letters, blocks_letters, tree_letters}
use Rattle.content.specs.Position.{at_fields, is_field_position, mark_of, marks}
use Rattle.content.specs.Tree.{Rest, nothing, before, with_block, with_line as line_Before, rest}
use Rattle.content.specs.declared.byte.Code.{Code}
use Rattle.content.specs.declared.item.Place.TheVariants as place
use Rattle.content.specs.declared.item.Seen.{Seen}
use Rattle.content.specs.declared.position.Mark.{Mark}
use Rattle.content.specs.declared.position.Mark.TheVariants.{Structure, Character, FieldCharacter}
use Rattle.content.specs.declared.strip.Values.{Values}
use Rattle.frame.proofs.Ground.{never, both_true}
use Rattle.content.proofs.Bytes.{kind_of_character, kind_of_expansion, character_is_no_mark, code_is_no_mark, expansion_is_no_character, mark_is_no_character}
use Rattle.content.proofs.Good.{GoodTree}
use Rattle.content.proofs.Path.{a_character, no_character, structure_in}
use Rattle.content.proofs.Resolved.{characters_bytes, items_bytes_append}
use Rattle.content.proofs.Run.{run, run_append, strip_append, marks_append, at_fields_append}

-- What bytes put before the rest that follows them.
abbrev befores : Mode → List ℕ → Rest → Rest
befores m [] r = r
befores m (b ∷ s) r = before m b (befores (step m b) s r)

-- The bytes p lead from m to n, put what they hold before r, which makes it r', show as x, bear the marks ks, and hold the letters cs of
-- fields.
pub record Piece (v : Values) (m : Mode) (p : List ℕ) (n : Mode) (r r' : Rest) (x : List ℕ) (ks : List Mark) (cs : List ℕ) : Type 0 where
  pub leads : run m p ≡ n
  pub builds : befores m p r ≡ r'
  pub shows : strip_from v m p ≡ x
  pub bears : marks m p ≡ ks
  pub spells : at_fields m p ≡ cs

befores_append : (m : Mode) (p q : List ℕ) (r : Rest) → befores m (p ++ q) r ≡ befores m p (befores (run m p) q r)
befores_append m [] q r = refl
befores_append m (b ∷ p) q r = ap (before m b) (befores_append (step m b) p q r)

-- Nothing, a byte and a piece, and two pieces in a row.
module _ {v : Values} where
  none : {m : Mode} {r : Rest} → Piece v m [] m r r [] [] []
  none = record { leads = refl; builds = refl; shows = refl; bears = refl; spells = refl }

  byte_then :
      {m n o : Mode} {b : ℕ} {q : List ℕ} {r r' r'' : Rest} {x y cs : List ℕ} {k : Mark} {ks : List Mark} → Piece v n q o r r' y ks cs →
      step m b ≡ n → before m b r' ≡ r'' → where_good n (shown_by v m b) ++ y ≡ x → mark_of m b ≡ k →
      Piece v m (b ∷ q) o r r'' x (k ∷ ks) (pick (is_field_position k) (b ∷ cs) cs)
  byte_then h e f g i =
      record {
        leads = rw e h.leads;
        builds = rw (e, h.builds) f;
        shows = rw (e, h.shows) g;
        bears = rw (e, i, h.bears);
        spells = rw (e, i, h.spells);
      }

  pub piece_then :
      {m n o o' : Mode} {p q : List ℕ} {r r' r'' : Rest} {x y z cs ds : List ℕ} {ks ls : List Mark} → Piece v m p n r' r'' x ks cs →
      Piece v n q o r r' y ls ds → o ≡ o' → x ++ y ≡ z → Piece v m (p ++ q) o' r r'' z (ks ++ ls) (cs ++ ds)
  piece_then {m} {p = p} {q = q} {r = r} h k e f =
      record {
        leads = run_append m p q ∙ rw h.leads (k.leads ∙ e);
        builds = befores_append m p q r ∙ rw (h.leads, k.builds) h.builds;
        shows = strip_append v m p q ∙ rw (h.leads, h.shows, k.shows) f;
        bears = marks_append m p q ∙ rw (h.leads, h.bears, k.bears);
        spells = at_fields_append m p q ∙ rw (h.leads, h.spells, k.spells);
      }

abbrev pub in_block : Seen → Mode
in_block seen = Reading (machine.Inside place.Block) seen

-- At a spot, and in a block, with so many lines and fields begun.
abbrev at : Spot → ℕ → ℕ → Mode
at s l f = Reading s (record { lines = l; fields = f })

abbrev block_at : ℕ → ℕ → Mode
block_at l f = in_block (record { lines = l; fields = f })

-- What is left of a content behind a place.
abbrev pub behind : List ℕ → List Item → List Block → List Line → Rest
behind cs is bs ls = record { letters = cs; items = is; font = 0; blocks = bs; lines = ls }

in_code_stays : (k : Option Code) (seen : Seen) → is_code k ≡ true → in_code k seen ≡ Reading (machine.Inside place.Date) seen
in_code_stays (Some c) seen e = refl
in_code_stays None seen e = never e

code_shown : (v : Values) (k : Option Code) → shown_code v k ≡ code_text v k
code_shown v (Some c) = refl
code_shown v None = refl

module _ (v : Values) (is : List Item) (bs : List Block) (ls : List Line) where
  letters_piece :
      (seen : Seen) (cs : List ℕ) → all_characters cs ≡ true →
      Piece v (Reading (machine.Inside place.Field) seen) (cs ++ (0x12 ∷ [])) (in_block seen)
      (behind [] is bs ls) (behind cs is bs ls) cs (replicate (length cs) FieldCharacter ++ (Structure ∷ [])) cs
  unfolding kind_of
  letters_piece seen [] e = byte_then none refl refl refl (no_character _ 0x12 (mark_is_no_character 0x12 (omega arith)))
  letters_piece seen (c ∷ cs) e =
      let g = both_true (is_character c) (all_characters cs) e in
      let n = character_is_no_mark c 0x12 g.0 (omega arith) in
      byte_then (letters_piece seen cs g.1) (rw (n, g.0)) (rw n) (rw n) (a_character _ c g.0)

  codes_piece :
      (seen : Seen) (cs : List ℕ) → all_codes cs ≡ true →
      Piece v (Reading (machine.Inside place.Date) seen) (cs ++ (0x1B ∷ [])) (in_block seen)
      (behind [] is bs ls) (behind cs is bs ls) (date_text v cs) (replicate (length cs) Structure ++ (Structure ∷ [])) []
  codes_piece seen [] e = byte_then none refl refl refl (structure_in _ 0x1B refl)
  codes_piece seen (c ∷ cs) e =
      let g = both_true (is_code (code_of c)) (all_codes cs) e in
      let n = code_is_no_mark c g.0 in
      byte_then (codes_piece seen cs g.1) (rw n (in_code_stays (code_of c) seen g.0)) (rw n) (rw (n, code_shown v (code_of c))) (structure_in _ c refl)

  pub character_piece :
      (seen : Seen) (c : ℕ) → is_character c ≡ true →
      Piece v (in_block seen) (c ∷ []) (in_block seen)
      (behind [] is bs ls) (behind [] (character c ∷ is) bs ls) (c ∷ []) (Character ∷ []) []
  character_piece seen c g =
      byte_then none (rw (kind_of_character c g)) (rw (kind_of_character c g)) (rw (kind_of_character c g)) (a_character _ c g)

  pub date_piece :
      (seen : Seen) (cs : List ℕ) → all_codes cs ≡ true →
      Piece v (in_block seen) (0x1B ∷ cs ++ (0x1B ∷ [])) (in_block seen)
      (behind [] is bs ls) (behind [] (date cs ∷ is) bs ls) (date_text v cs) (between Structure cs) []
  unfolding kind_of
  date_piece seen cs g = byte_then (codes_piece seen cs g) refl refl refl (no_character _ 0x1B (mark_is_no_character 0x1B (omega arith)))

  tabulation_piece :
      (seen : Seen) (n : ℕ) → is_count n ≡ true →
      Piece v (in_block seen) (0x1E ∷ n ∷ 0x1E ∷ []) (in_block seen)
      (behind [] is bs ls) (behind [] (tabulation n ∷ is) bs ls) (0x1E ∷ n ∷ 0x1E ∷ []) (item_marks (tabulation n)) []
  unfolding kind_of
  tabulation_piece seen n g =
      let i = no_character (in_block seen) 0x1E (mark_is_no_character 0x1E (omega arith)) in
      let j = structure_in (Reading machine.TabulationCount seen) n refl in
      let k = structure_in (Reading (machine.TabulationEnd n) seen) 0x1E refl in
      record { leads = rw g; builds = rw g; shows = rw g; bears = rw (g, i, j, k); spells = rw (g, i, j, k) }

  counter_piece :
      (seen : Seen) (n : ℕ) → eqb n 0x01 ≡ true →
      Piece v (in_block seen) (0x1C ∷ n ∷ 0x1C ∷ []) (in_block seen)
      (behind [] is bs ls) (behind [] (counter n ∷ is) bs ls) (items_bytes (characters v.digits)) (item_marks (counter n)) []
  unfolding kind_of
  counter_piece seen n g =
      let i = no_character (in_block seen) 0x1C (mark_is_no_character 0x1C (omega arith)) in
      let j = structure_in (Reading machine.CounterNumber seen) n refl in
      let k = structure_in (Reading machine.CounterEnd seen) 0x1C refl in
      record {
        leads = rw g;
        builds = rw g;
        shows = rw (g, append-nil v.digits, characters_bytes);
        bears = rw (g, i, j, k);
        spells = rw (g, i, j, k);
      }

  item_piece :
      (i : Item) (l f : ℕ) → good_item i ≡ true → f + item_fields i ≤ 10 →
      Piece v (block_at l f) (item_bytes i) (block_at l (f + item_fields i))
      (behind [] is bs ls) (behind [] (i ∷ is) bs ls) (items_bytes (stands_for v i)) (item_marks i) (item_letters i)
  unfolding kind_of with_field
  item_piece (character c) l f g h = rw add-zero (character_piece _ c g)
  item_piece (tabulation n) l f g h = rw add-zero (tabulation_piece _ n g)
  item_piece (counter n) l f g h = rw add-zero (counter_piece _ n g)
  item_piece (field cs) l f g h =
      byte_then (letters_piece _ cs g) (rw (lt-ltb f 10 (omega arith))) refl (sym (characters_bytes cs)) (no_character _ 0x12 (mark_is_no_character 0x12 (omega arith)))
  item_piece (date cs) l f g h = rw (add-zero, characters_bytes) (date_piece _ cs g)

-- The two spots at which a block may begin, and the two at which a line may.
data BeginsBlock : Spot → Type 0 where
  first : BeginsBlock (machine.Inside place.Line)
  next : BeginsBlock (machine.Inside place.Block)

data BeginsLine : Spot → Type 0 where
  first : BeginsLine (machine.Inside place.Content)
  next : BeginsLine (machine.Inside place.Block)

module _ (v : Values) where
  items_piece :
      (is : List Item) (bs : List Block) (ls : List Line) (l f : ℕ) → good_items is ≡ true → f + items_fields is ≤ 10 →
      Piece v (block_at l f) (items_bytes is) (block_at l (f + items_fields is))
      (behind [] [] bs ls) (behind [] is bs ls) (items_bytes (resolved_items v is)) (items_marks is) (items_letters is)
  items_piece [] bs ls l f g h = rw add-zero none
  items_piece (i ∷ is) bs ls l f g h =
      let k = both_true (good_item i) (good_items is) g in
      piece_then (item_piece v is bs ls i l f k.0 (omega arith)) (items_piece is bs ls l (f + item_fields i) k.1 (omega arith))
      (rw add_assoc) (sym (items_bytes_append (stands_for v i) (resolved_items v is)))

  expansion_then :
      {s : Spot} {o : Mode} {q y cs : List ℕ} {ks : List Mark} {r r' : Rest} (l f e : ℕ) → BeginsBlock s → is_expansion e ≡ true →
      Piece v (at (machine.Font e) l f) q o r r' y ks cs → Piece v (at s l f) (e ∷ q) o r (with_block e r') y (Structure ∷ ks) cs
  expansion_then l f e first g p = byte_then p (rw g) refl refl (structure_in _ e refl)
  expansion_then l f e next g p =
      byte_then p (rw (kind_of_expansion e g)) (rw (kind_of_expansion e g)) (rw (kind_of_expansion e g)) (no_character _ e (expansion_is_no_character e g))

  block_piece :
      (b : Block) (bs : List Block) (ls : List Line) (s : Spot) (l f : ℕ) → BeginsBlock s → good_block b ≡ true →
      f + items_fields b.items ≤ 10 →
      Piece v (at s l f) (block_bytes b) (block_at l (f + items_fields b.items))
      (behind [] [] bs ls) (behind [] [] (b ∷ bs) ls) (block_bytes (resolved_block v b)) (block_marks b) (items_letters b.items)
  block_piece b bs ls s l f begins g h =
      let k = both_true (is_expansion b.expansion) _ g in
      let n = both_true (is_count b.font) (good_items b.items) k.1 in
      expansion_then l f b.expansion begins k.0
      (byte_then (items_piece b.items bs ls l f n.1 h) (rw n.0) refl refl (structure_in _ b.font refl))

  blocks_piece :
      (b : Block) (bs : List Block) (ls : List Line) (s : Spot) (l f : ℕ) → BeginsBlock s → good_blocks (b ∷ bs) ≡ true →
      f + blocks_fields (b ∷ bs) ≤ 10 →
      Piece v (at s l f) (blocks_bytes (b ∷ bs)) (block_at l (f + blocks_fields (b ∷ bs)))
      (behind [] [] [] ls) (behind [] [] (b ∷ bs) ls) (blocks_bytes (map (resolved_block v) (b ∷ bs)))
      (blocks_marks (b ∷ bs)) (blocks_letters (b ∷ bs))
  blocks_piece b [] ls s l f begins g h =
      let k = both_true (good_block b) true g in
      piece_then (block_piece b [] ls s l f begins k.0 (omega arith)) none (rw add-zero) refl
  blocks_piece b (c ∷ bs) ls s l f begins g h =
      let k = both_true (good_block b) (good_blocks (c ∷ bs)) g in
      piece_then (block_piece b (c ∷ bs) ls s l f begins k.0 (omega arith))
      (blocks_piece c bs ls _ l (f + items_fields b.items) next k.1 (omega arith)) (rw add_assoc) refl

  line_then :
      {s : Spot} {o : Mode} {q y cs : List ℕ} {ks : List Mark} {r r' : Rest} (l f : ℕ) → BeginsLine s → l < 4 →
      Piece v (at (machine.Inside place.Line) (l + 1) f) q o r r' y ks cs →
      Piece v (at s l f) (0x0A ∷ q) o r (line_Before r') (0x0A ∷ y) (Structure ∷ ks) cs
  unfolding kind_of with_line
  line_then l f first h p = byte_then p (rw (lt-ltb l 4 h)) refl refl (structure_in _ 0x0A refl)
  line_then l f next h p = byte_then p (rw (lt-ltb l 4 h)) refl refl (no_character _ 0x0A (mark_is_no_character 0x0A (omega arith)))

  line_piece :
      (b : Line) (ls : List Line) (s : Spot) (l f : ℕ) → BeginsLine s → good_line b ≡ true → l < 4 → f + blocks_fields b ≤ 10 →
      Piece v (at s l f) (line_bytes b) (block_at (l + 1) (f + blocks_fields b))
      (behind [] [] [] ls) (behind [] [] [] (b ∷ ls)) (line_bytes (map (resolved_block v) b)) (line_marks b) (blocks_letters b)
  line_piece [] ls s l f begins g m h = never g
  line_piece (b ∷ bs) ls s l f begins g m h = line_then l f begins m (blocks_piece b bs ls _ (l + 1) f first g h)

  lines_piece :
      (b : Line) (ls : List Line) (s : Spot) (l f : ℕ) → BeginsLine s → good_lines (b ∷ ls) ≡ true → l + length (b ∷ ls) ≤ 4 →
      f + lines_fields (b ∷ ls) ≤ 10 →
      Piece v (at s l f) (encode (b ∷ ls)) Done nothing (behind [] [] [] (b ∷ ls)) (encode (resolved v (b ∷ ls)))
      (tree_marks (b ∷ ls)) (tree_letters (b ∷ ls))
  unfolding kind_of
  lines_piece b [] s l f begins g m h =
      let k = both_true (good_line b) true g in
      rw (append-nil (blocks_bytes b), append-nil (blocks_bytes (map (resolved_block v) b)))
      (piece_then (line_piece b [] s l f begins k.0 (omega arith) (omega arith)) (byte_then none refl refl refl (no_character _ 0x0D (mark_is_no_character 0x0D (omega arith)))) refl refl)
  lines_piece b (c ∷ ls) s l f begins g m h =
      let k = both_true (good_line b) (good_lines (c ∷ ls)) g in
      rw (append_assoc (blocks_bytes b), append_assoc (blocks_bytes (map (resolved_block v) b)))
      (piece_then (line_piece b (c ∷ ls) s l f begins k.0 (omega arith) (omega arith))
      (lines_piece c ls _ (l + 1) (f + blocks_fields b) next k.1 (omega arith) (omega arith)) refl refl)

  pub tree_piece :
      (t : Tree) → GoodTree t →
      Piece v start (encode t) Done nothing (behind [] [] [] t) (encode (resolved v t)) (tree_marks t) (tree_letters t)
  tree_piece [] g = absurd (omega arith)
  tree_piece (b ∷ ls) g = lines_piece b ls (machine.Inside place.Content) 0 0 first g.lines (omega arith) (omega arith)

pub rest_befores : (m : Mode) (s : List ℕ) → rest m s ≡ befores m s nothing
rest_befores m [] = refl
rest_befores m (b ∷ s) = rw (rest_befores (step m b) s)
