-- The item reader and the machine agree: what the reader finds at a place is a path of the machine, and where it finds nothing the machine
-- is stuck.
use Prim.Native.Nat.{ℕ, suc, ◌+◌, ◌≤◌, ◌<◌}
use mathlib.Core.Bool.{Bool, true, false}
use mathlib.Core.List.{List, [], ◌∷◌, ◌++◌, append-nil}
use mathlib.Core.Logic.{◌⊎◌, inl, inr}
use mathlib.Core.Path.{◌≡◌, refl, sym, ◌∙◌, ap, subst}
use Rattle.std.specs.Prelude.{None, Option, Some}
use native.Mathlib.Numerals.{one-add}
use Rattle.std.specs.List.{prefix_len}
use native.Mathlib.Omega.{arith}
use borrow.Author.Tests.{eqb-true}
use lib.Dec.{eqb, ltb}
use lib.ListN.{length, get_or, drop, replicate, length-append, length-drop}
use lib.Seq.{drop-drop, get_or-drop}
use Rattle.frame.specs.Ground.{pick}
use Rattle.frame.proofs.Ground.{never, drop_next, pick_case, stands}
use Rattle.content.specs.Byte.{kind_of, code_of, is_character, is_code, is_count, is_expansion}
use Rattle.content.specs.Item.{behind, counted, one_more, characters_end, codes_end, enclosed, open_line, open_block, open_field, opens, content_token, line_token, block_token, field_token, code_token, date_token, opening, opened, piece_at, token_at}
use Rattle.content.specs.Machine.{in_code as in-code-step, Spot, Inside, Font, TabulationCount, TabulationEnd, CounterNumber, CounterEnd, Mode, Reading, Bad, step, stepped, with_line, with_field}
use Rattle.content.specs.Position.{item_mark, mark_of, marks}
use Rattle.content.specs.Strip.{item_shows, shown_by, strip_from, where_good}
use Rattle.content.specs.declared.byte.Code.{Code}
use Rattle.content.specs.declared.byte.Kind.{Kind}
use Rattle.content.specs.declared.byte.Kind.TheVariants as kind
use Rattle.content.specs.declared.item.Item.{Item}
use Rattle.content.specs.declared.item.Item.TheVariants as item
use Rattle.content.specs.declared.item.Place.{Place}
use Rattle.content.specs.declared.item.Place.TheVariants.{Content, Line, Block, Field, Date}
use Rattle.content.specs.declared.item.Seen.{Seen}
use Rattle.content.specs.declared.item.Token.{Token}
use Rattle.content.specs.declared.item.Token.TheVariants as token
use Rattle.content.specs.declared.position.Mark.{Mark}
use Rattle.content.specs.declared.position.Mark.TheVariants.{Structure, Character, FieldCharacter}
use Rattle.content.specs.declared.strip.Values.{Values}
use Rattle.content.proofs.Bytes.{told, kind_of_character, character_is_no_mark, code_is_no_mark}
use Rattle.content.proofs.Path.{Path, no_bytes, one_byte, path_then, good_stands, reading_is_good, structure_in, no_character}
use Rattle.content.proofs.Run.{run}

abbrev pub here : Place → Seen → Mode
here place seen = Reading (Inside place) seen

-- Behind an item the machine goes on, in the reader's place and with its counts. What the item shows is what its bytes show, where each
-- code is read by itself.
pub record Goes (each : Bool) (s : List ℕ) (at : ℕ) (place : Place) (seen : Seen) (i : Item) (next : ℕ) : Type 0 where
  pub ahead : at < next
  pub path : Path s at (here place seen) next (here (behind i) (counted i seen)) (item_mark i)
  pub shown : each ≡ true → (v : Values) → strip_from v (here place seen) path.bytes ≡ item_shows v.digits v.entries i path.bytes

-- A byte that can't stand there, or none where one must: the machine is stuck at the reader's place.
pub record Fails (each : Bool) (s : List ℕ) (at : ℕ) (place : Place) (seen : Seen) (p : ℕ) : Type 0 where
  pub spot : Spot
  pub path : Path s at (here place seen) p (Reading spot seen) Structure
  pub stuck : stepped spot (get_or s p 0) seen ≡ Bad
  pub hidden : each ≡ true → (v : Values) → strip_from v (here place seen) path.bytes ≡ []

-- A line's 0Ah, the 0Dh or an expansion.
abbrev pub Closing : Kind → Type 0
Closing k = (k ≡ kind.Line) ⊎ ((k ≡ kind.End) ⊎ (k ≡ kind.Expansion))

pub record Last (s : List ℕ) (at : ℕ) (place : Place) : Type 0 where
  pub block : place ≡ Block
  pub inside : at < length s
  pub kind : kind_of (get_or s at 0) ≡ kind.End

-- What a token tells; what an end is goes by the reader.
abbrev pub Tells : Bool → Type 0 → List ℕ → ℕ → Place → Seen → Token → Type 0
Tells each End s at place seen (token.Read i next) = Goes each s at place seen i next
Tells each End s at place seen token.Ends = End
Tells each End s at place seen (token.Unfit p) = Fails each s at place seen p

-- ---- Bytes in a row that leave the machine where it is.
record Row (holds : ℕ → Bool) (m : Mode) (k : Mark) (xs : List ℕ) : Type 0 where
  bytes : List ℕ
  split : xs ≡ bytes ++ drop (prefix_len holds xs) xs
  size : length bytes ≡ prefix_len holds xs
  leads : run m bytes ≡ m
  marked : marks m bytes ≡ replicate (length bytes) k
  shown : ((b : ℕ) (v : Values) → holds b ≡ true → where_good m (shown_by v m b) ≡ b ∷ []) → (v : Values) → strip_from v m bytes ≡ bytes

module _ (holds : ℕ → Bool) (m : Mode) (k : Mark) (stays : (b : ℕ) → holds b ≡ true → step m b ≡ m) (marks-it : (b : ℕ) → holds b ≡ true → mark_of m b ≡ k) where
  row : (xs : List ℕ) → Row holds m k xs
  row [] = record { bytes = []; split = refl; size = refl; leads = refl; marked = refl; shown = λ h v. refl }
  row (b ∷ xs) = go (holds b) refl (row xs)
    where
      go : (t : Bool) → holds b ≡ t → Row holds m k xs → Row holds m k (b ∷ xs)
      go true e r =
          record {
            bytes = b ∷ r.bytes;
            split = rw (e, one-add) (ap (◌∷◌ b) r.split);
            size = rw e (ap suc r.size ∙ sym (one-add (prefix_len holds xs)));
            leads = rw (stays b e) r.leads;
            marked = rw (stays b e, marks-it b e, r.marked);
            shown = λ h v. rw (stays b e, h b v e, r.shown h v);
          }
      go false e r = record { bytes = []; split = rw e; size = rw e; leads = refl; marked = refl; shown = λ h v. refl }

  abbrev row-path : (s : List ℕ) (at n : ℕ) → at ≤ length s → n ≡ at + prefix_len holds (drop at s) → Path s at m n m k
  row-path s at n h e =
      let r : Row holds m k (drop at s) = row (drop at s) in
      let f : drop n s ≡ drop (prefix_len holds (drop at s)) (drop at s) = ap (λ (i : ℕ). drop i s) e ∙ sym (drop-drop (prefix_len holds (drop at s)) at s) in
      let l : length (drop at s) ≡ length r.bytes + length (drop n s) = ap length (r.split ∙ ap (λ (t : List ℕ). r.bytes ++ t) (sym f)) ∙ length-append r.bytes (drop n s) in
      record {
        bytes = r.bytes;
        split = r.split ∙ ap (λ (t : List ℕ). r.bytes ++ t) (sym f);
        size = omega (arith, r.size);
        inside = omega (arith, r.size, l, length-drop at s);
        leads = r.leads;
        marked = r.marked;
      }

-- The characters of a block and of a field, and the codes of a date item.
block_stays : (seen : Seen) (b : ℕ) → is_character b ≡ true → step (here Block seen) b ≡ here Block seen
block_stays seen b e = rw (kind_of_character b e)

field_stays : (seen : Seen) (b : ℕ) → is_character b ≡ true → step (here Field seen) b ≡ here Field seen
field_stays seen b e = rw (character_is_no_mark b 0x12 e (omega arith), e)

date_stays : (seen : Seen) (b : ℕ) → is_code (code_of b) ≡ true → step (here Date seen) b ≡ here Date seen
date_stays seen b e = rw (code_is_no_mark b e) (go (code_of b) e)
  where
    go : (k : Option Code) → is_code k ≡ true → in-code-step k seen ≡ here Date seen
    go (Some c) e = refl
    go None e = never e

block_marks : (seen : Seen) (b : ℕ) → is_character b ≡ true → mark_of (here Block seen) b ≡ Character
unfolding mark_of
block_marks seen b e = rw e

field_marks : (seen : Seen) (b : ℕ) → is_character b ≡ true → mark_of (here Field seen) b ≡ FieldCharacter
unfolding mark_of
field_marks seen b e = rw e

-- One byte in a row makes the row not empty.
row_ahead : (holds : ℕ → Bool) (s : List ℕ) (at : ℕ) → at < length s → holds (get_or s at 0) ≡ true → at < at + prefix_len holds (drop at s)
row_ahead holds s at h e = rw (drop_next s at h, e) (omega arith)

pub kind_no_character : (b : ℕ) (k : Kind) → kind_of b ≡ k → (kind.Character ≡ k → ⊥) → is_character b ≡ false
kind_no_character b k e n = go (is_character b) refl
  where
    go : (t : Bool) → is_character b ≡ t → is_character b ≡ false
    go true c = absurd (n (sym (kind_of_character b c) ∙ e))
    go false c = c

twelve : is_character 0x12 ≡ false
unfolding is_character
twelve = refl

module _ (each : Bool) (End : Type 0) (s : List ℕ) (at : ℕ) (inside : at ≤ length s) (seen : Seen) where
  -- ---- A single byte, and none.
  one : (place : Place) (i : Item) → stepped (Inside place) (get_or s at 0) seen ≡ here (behind i) (counted i seen) → mark_of (here place seen) (get_or s at 0) ≡ item_mark i
      → (each ≡ true → (v : Values) → where_good (here (behind i) (counted i seen)) (shown_by v (here place seen) (get_or s at 0)) ++ [] ≡ item_shows v.digits v.entries i (get_or s at 0 ∷ []))
      → Goes each s at place seen i (at + 1)
  one place i e f g =
      let h : at < length s = good_stands s at (Inside place) seen e (reading_is_good (Inside (behind i)) (counted i seen)) in
      record { ahead = omega arith; path = one_byte s at (at + 1) _ _ _ refl h e f; shown = λ b v. rw e (g b v) }

  none : (place : Place) → stepped (Inside place) (get_or s at 0) seen ≡ Bad → Fails each s at place seen at
  none place e = record { spot = Inside place; path = no_bytes s at _ _ inside; stuck = e; hidden = λ b v. refl }

  -- ---- A byte that leads to a spot, and then one more, or two.
  abbrev first : (place : Place) (spot : Spot) → stepped (Inside place) (get_or s at 0) seen ≡ Reading spot seen → mark_of (here place seen) (get_or s at 0) ≡ Structure
      → Path s at (here place seen) (at + 1) (Reading spot seen) Structure
  first place spot e f = one_byte s at (at + 1) _ _ _ refl (good_stands s at (Inside place) seen e (reading_is_good spot seen)) e f

  block_opens : (place : Place) → stepped (Inside place) (get_or s at 0) seen ≡ Reading (Font (get_or s at 0)) seen → mark_of (here place seen) (get_or s at 0) ≡ Structure
      → ((v : Values) → shown_by v (here place seen) (get_or s at 0) ≡ []) → Tells each End s at place seen (open_block s at)
  unfolding open_block
  block_opens place e f g =
      pick_case (Tells each End s at place seen) (is_count (get_or s (at + 1) 0)) _ _
      (λ t.
      let d : stepped (Font (get_or s at 0)) (get_or s (at + 1) 0) seen ≡ here Block seen = rw t in
      let h : at + 1 < length s = good_stands s (at + 1) (Font (get_or s at 0)) seen d (reading_is_good (Inside Block) seen) in
      record {
        ahead = omega arith;
        path = path_then (first place (Font (get_or s at 0)) e f) (one_byte s (at + 1) (at + 2) _ _ _ (omega arith) h d (structure_in _ _ refl));
        shown = λ b v. rw (e, g v, t);
      })
      (λ t. record { spot = Font (get_or s at 0); path = first place (Font (get_or s at 0)) e f; stuck = rw t; hidden = λ b v. rw (e, g v) })

  line_opens : (place : Place) → stepped (Inside place) (get_or s at 0) seen ≡ with_line seen → mark_of (here place seen) (get_or s at 0) ≡ Structure
      → ((v : Values) → shown_by v (here place seen) (get_or s at 0) ≡ get_or s at 0 ∷ []) → Tells each End s at place seen (open_line at seen)
  unfolding opens with_line one_more
  line_opens place e f g =
      pick_case (Tells each End s at place seen) (ltb seen.lines 4) _ _
      (λ t. one place item.LineOpens (e ∙ rw t) f (λ b v. rw (g v)))
      (λ t. none place (e ∙ rw t))

  field_opens : kind_of (get_or s at 0) ≡ kind.Field → Tells each End s at Block seen (open_field at seen)
  unfolding opens with_field one_more
  field_opens e =
      pick_case (Tells each End s at Block seen) (ltb seen.fields 10) _ _
      (λ t. one Block item.FieldOpens (rw (e, t)) (no_character _ _ (kind_no_character _ kind.Field e (λ z. let y : ◌≡◌ {A = ℕ} 0 1 = cc in omega arith))) (λ b v. rw e))
      (λ t. none Block (rw (e, t)))

  three : (number end : Spot) (fits : Bool) (mark : ℕ) (i : Item)
      → stepped (Inside Block) (get_or s at 0) seen ≡ Reading number seen → mark_of (here Block seen) (get_or s at 0) ≡ Structure
      → stepped number (get_or s (at + 1) 0) seen ≡ pick fits (Reading end seen) Bad → mark_of (Reading number seen) (get_or s (at + 1) 0) ≡ Structure
      → stepped end (get_or s (at + 2) 0) seen ≡ pick (eqb (get_or s (at + 2) 0) mark) (Reading (Inside Block) seen) Bad → mark_of (Reading end seen) (get_or s (at + 2) 0) ≡ Structure
      → behind i ≡ Block → counted i seen ≡ seen → item_mark i ≡ Structure
      → ((v : Values) → shown_by v (here Block seen) (get_or s at 0) ≡ []) → ((v : Values) → shown_by v (Reading number seen) (get_or s (at + 1) 0) ≡ [])
      → ((v : Values) → eqb (get_or s (at + 2) 0) mark ≡ true → shown_by v (Reading end seen) (get_or s (at + 2) 0) ++ [] ≡ item_shows v.digits v.entries i (get_or s at 0 ∷ get_or s (at + 1) 0 ∷ get_or s (at + 2) 0 ∷ []))
      → Tells each End s at Block seen (enclosed s at fits mark i)
  unfolding enclosed
  three number end false mark i e e' f f' g g' p q r x y z =
      record {
        spot = number;
        path = first Block number e e';
        stuck = f;
        hidden = λ b v. rw (e, x v);
      }
  three number end true mark i e e' f f' g g' p q r x y z =
      let two = path_then (first Block number e e') (one_byte s (at + 1) (at + 2) _ _ _ (omega arith) (good_stands s (at + 1) number seen f (reading_is_good end seen)) f f') in
      pick_case (Tells each End s at Block seen) (eqb (get_or s (at + 2) 0) mark) _ _
      (λ t.
      let d : stepped end (get_or s (at + 2) 0) seen ≡ here Block seen = g ∙ rw t in
      let h : at + 2 < length s = good_stands s (at + 2) end seen d (reading_is_good (Inside Block) seen) in
      record {
        ahead = omega arith;
        path = rw (p, q, r) (path_then two (one_byte s (at + 2) (at + 3) _ _ _ (omega arith) h d g'));
        shown = λ b v. rw (e, x v, f, y v, d) (z v t);
      })
      (λ t. record { spot = end; path = two; stuck = g ∙ rw t; hidden = λ b v. rw (e, x v, f, y v) })

  -- ---- In a block, by the byte's kind.
  enclosing : (k : Kind) → kind_of (get_or s at 0) ≡ k → (kind.Character ≡ k → ⊥) → mark_of (here Block seen) (get_or s at 0) ≡ Structure
  enclosing k e n = no_character _ _ (kind_no_character _ k e n)

  characters_read : kind_of (get_or s at 0) ≡ kind.Character → Goes each s at Block seen item.Characters (characters_end s at)
  unfolding characters_end
  characters_read e =
      let h : at < length s = good_stands s at (Inside Block) seen {m = here Block seen} (rw e) (reading_is_good (Inside Block) seen) in
      let path = row-path is_character (here Block seen) Character (block_stays seen) (block_marks seen) s at (characters_end s at) inside refl in
      record {
        ahead = row_ahead is_character s at h (told (get_or s at 0) kind.Character e);
        path = path;
        shown = λ b v. (row is_character (here Block seen) Character (block_stays seen) (block_marks seen) (drop at s)).shown (λ c w f. rw (kind_of_character c f)) v;
      }

  pub in_block : (closes : Closing (kind_of (get_or s at 0)) → End) (k : Kind) → kind_of (get_or s at 0) ≡ k → Tells each End s at Block seen (block_token s at k seen)
  in_block closes kind.Line e = closes (inl e)
  in_block closes kind.End e = closes (inr (inl e))
  in_block closes kind.Field e = field_opens e
  in_block closes kind.Date e = one Block item.DateOpens (rw e) (enclosing kind.Date e (λ z. let y : ◌≡◌ {A = ℕ} 0 1 = cc in omega arith)) (λ b v. rw e)
  in_block closes kind.Counter e =
      three CounterNumber CounterEnd _ 0x1C _ (rw e) (enclosing kind.Counter e (λ z. let y : ◌≡◌ {A = ℕ} 0 1 = cc in omega arith)) refl (structure_in _ _ refl) refl (structure_in _ _ refl)
      refl refl refl (λ v. rw e) (λ v. refl) (λ v t. append-nil v.digits)
  in_block closes kind.Tabulation e =
      three TabulationCount (TabulationEnd (get_or s (at + 1) 0)) _ 0x1E _ (rw e) (enclosing kind.Tabulation e (λ z. let y : ◌≡◌ {A = ℕ} 0 1 = cc in omega arith)) refl (structure_in _ _ refl) refl (structure_in _ _ refl)
      refl refl refl (λ v. rw e) (λ v. refl) (λ v t. ap (λ (b : ℕ). b ∷ get_or s (at + 1) 0 ∷ get_or s (at + 2) 0 ∷ []) (sym (told (get_or s at 0) kind.Tabulation e)))
  in_block closes kind.Expansion e = closes (inr (inr e))
  in_block closes kind.Character e = characters_read e
  in_block closes kind.Other e = none Block (rw e)

  -- ---- In a field and in a date item.
  field_characters_read : is_character (get_or s at 0) ≡ true → Goes each s at Field seen item.FieldCharacters (characters_end s at)
  unfolding characters_end
  field_characters_read e =
      let h : at < length s = good_stands s at (Inside Field) seen {m = here Field seen} (field_stays seen (get_or s at 0) e) (reading_is_good (Inside Field) seen) in
      let path = row-path is_character (here Field seen) FieldCharacter (field_stays seen) (field_marks seen) s at (characters_end s at) inside refl in
      record {
        ahead = row_ahead is_character s at h e;
        path = path;
        shown = λ b v. (row is_character (here Field seen) FieldCharacter (field_stays seen) (field_marks seen) (drop at s)).shown (λ c w f. rw (character_is_no_mark c 0x12 f (omega arith))) v;
      }

  in_field : Tells each End s at Field seen (field_token s at)
  unfolding field_token
  in_field =
      pick_case (Tells each End s at Field seen) (eqb (get_or s at 0) 0x12) _ _
      (λ t. one Field item.FieldCloses (rw t) (no_character _ _ (mark_is_none (eqb-true _ _ t))) (λ b v. rw t))
      (λ t. pick_case (Tells each End s at Field seen) (is_character (get_or s at 0)) _ _ field_characters_read (λ f. none Field (rw (t, f))))
    where
      mark_is_none : get_or s at 0 ≡ 0x12 → is_character (get_or s at 0) ≡ false
      mark_is_none e = ap is_character e ∙ twelve

  date_closes : eqb (get_or s at 0) 0x1B ≡ true → Goes each s at Date seen item.DateCloses (at + 1)
  date_closes t = one Date item.DateCloses (rw t) (structure_in _ _ refl) (λ b v. rw t)

  in_code : (k : Option Code) → eqb (get_or s at 0) 0x1B ≡ false → code_of (get_or s at 0) ≡ k → Tells each End s at Date seen (code_token at k)
  in_code (Some c) h e = one Date (item.Date c) (rw (h, e)) (structure_in _ _ refl) (λ b v. rw (h, e) (append-nil _))
  in_code None h e = none Date (rw (h, e))

  in_date : Tells each End s at Date seen (date_token s at)
  unfolding date_token
  in_date =
      pick_case (Tells each End s at Date seen) (eqb (get_or s at 0) 0x1B) _ _ date_closes
      (λ h. in_code (code_of (get_or s at 0)) h refl)

-- The codes of a date item passed, and then the mark behind them, or what can't stand there.
pub codes_path : (s : List ℕ) (at : ℕ) (seen : Seen) → at ≤ length s → Path s at (here Date seen) (codes_end s at) (here Date seen) Structure
unfolding codes_end
codes_path s at seen h =
    row-path (λ b. is_code (code_of b)) (here Date seen) Structure (date_stays seen) (λ b e. structure_in _ b refl) s at (codes_end s at) h refl

codes_inside : (s : List ℕ) (at : ℕ) → at ≤ length s → codes_end s at ≤ length s
codes_inside s at h = (codes_path s at (record { lines = 0; fields = 0 }) h).inside

pub codes_ahead : (s : List ℕ) (at : ℕ) → at ≤ codes_end s at
unfolding codes_end
codes_ahead s at = omega arith

-- The characters of a field passed.
pub field_path : (s : List ℕ) (at : ℕ) (seen : Seen) → at ≤ length s → Path s at (here Field seen) (characters_end s at) (here Field seen) FieldCharacter
unfolding characters_end
field_path s at seen h = row-path is_character (here Field seen) FieldCharacter (field_stays seen) (field_marks seen) s at (characters_end s at) h refl

pub characters_ahead : (s : List ℕ) (at : ℕ) → at ≤ characters_end s at
unfolding characters_end
characters_ahead s at = omega arith

-- What stands behind a row of bytes is none of them.
row_ends : (holds : ℕ → Bool) (xs : List ℕ) → holds 0 ≡ false → holds (get_or xs (prefix_len holds xs) 0) ≡ false
row_ends holds [] z = z
row_ends holds (b ∷ xs) z = go (holds b) refl (row_ends holds xs z)
  where
    go : (t : Bool) → holds b ≡ t → holds (get_or xs (prefix_len holds xs) 0) ≡ false → holds (get_or (b ∷ xs) (prefix_len holds (b ∷ xs)) 0) ≡ false
    go true e h = rw (e, one-add) h
    go false e h = rw e e

pub no_character_behind : (s : List ℕ) (at : ℕ) → is_character (get_or s (characters_end s at) 0) ≡ false
unfolding characters_end is_character
no_character_behind s at =
    ap is_character (sym (get_or-drop at s (prefix_len is_character (drop at s)) 0)) ∙ row_ends is_character (drop at s) refl

pub no_code_behind : (s : List ℕ) (at : ℕ) → is_code (code_of (get_or s (codes_end s at) 0)) ≡ false
unfolding codes_end code_of
no_code_behind s at =
    ap (λ (b : ℕ). is_code (code_of b)) (sym (get_or-drop at s (prefix_len (λ b. is_code (code_of b)) (drop at s)) 0)) ∙ row_ends (λ b. is_code (code_of b)) (drop at s) refl

-- A mark stands there where the kind of the byte is one's.
pub field_stands : (s : List ℕ) (at : ℕ) → kind_of (get_or s at 0) ≡ kind.Field → at < length s
field_stands s at e = stands s at (λ z. omega (arith, told (get_or s at 0) kind.Field e))

pub date_stands : (s : List ℕ) (at : ℕ) → kind_of (get_or s at 0) ≡ kind.Date → at < length s
date_stands s at e = stands s at (λ z. omega (arith, told (get_or s at 0) kind.Date e))

past_codes : (End : Type 0) (s : List ℕ) (at n : ℕ) (seen : Seen) (t : Token) → at ≤ n → Path s at (here Date seen) n (here Date seen) Structure → Tells false End s n Date seen t
    → ((c : ℕ) (e : Item) → t ≡ token.Read e c → item_mark e ≡ Structure) → Tells false End s at Date seen t
past_codes End s at n seen (token.Read i next) h p g m =
    record {
      ahead = omega (arith, g.ahead);
      path = rw (m next i refl) (path_then p (rw (m next i refl) at g.path));
      shown = λ b. never b;
    }
past_codes End s at n seen token.Ends h p g m = g
past_codes End s at n seen (token.Unfit q) h p g m =
    record { spot = g.spot; path = path_then p g.path; stuck = g.stuck; hidden = λ b. never b }

date_is_structure : (s : List ℕ) (at : ℕ) (c : ℕ) (e : Item) → date_token s at ≡ token.Read e c → item_mark e ≡ Structure
unfolding date_token
date_is_structure s at c e f = go (eqb (get_or s at 0) 0x1B) (code_of (get_or s at 0)) f
  where
    go : (t : Bool) (k : Option Code) → pick t (token.Read item.DateCloses (at + 1)) (code_token at k) ≡ token.Read e c → item_mark e ≡ Structure
    go true k f = let g : item.DateCloses ≡ e = cc in ap item_mark (sym g)
    go false (Some x) f = let g : item.Date x ≡ e = cc in ap item_mark (sym g)
    go false None f = let z : ◌≡◌ {A = ℕ} 0 1 = cc in absurd (omega arith)

codes_passed : (End : Type 0) (s : List ℕ) (at : ℕ) (seen : Seen) → at ≤ length s → Tells false End s at Date seen (date_token s (codes_end s at))
codes_passed End s at seen h =
    past_codes End s at (codes_end s at) seen (date_token s (codes_end s at)) (codes_ahead s at) (codes_path s at seen h)
    (in_date false End s (codes_end s at) (codes_inside s at h) seen) (date_is_structure s (codes_end s at))

-- ---- Before the first line, and before the first block of a line.
module _ (each : Bool) (End : Type 0) (s : List ℕ) (at : ℕ) (inside : at ≤ length s) (seen : Seen) where
  in_content : Tells each End s at Content seen (content_token s at seen)
  unfolding content_token
  in_content =
      pick_case (Tells each End s at Content seen) (eqb (get_or s at 0) 0x0A) _ _
      (λ t. line_opens each End s at inside seen Content (rw t) (structure_in _ _ refl) (λ v. refl))
      (λ t. none each End s at inside seen Content (rw t))

  in_line : Tells each End s at Line seen (line_token s at)
  unfolding line_token
  in_line =
      pick_case (Tells each End s at Line seen) (is_expansion (get_or s at 0)) _ _
      (λ t. block_opens each End s at inside seen Line (rw t) (structure_in _ _ refl) (λ v. refl))
      (λ t. none each End s at inside seen Line (rw t))

-- ---- What ends a block opens the next line or block, or ends the content.
zero_closes_none : Closing (kind_of 0) → ⊥
unfolding kind_of is_expansion is_character
zero_closes_none (inl e) = let z : ◌≡◌ {A = ℕ} 0 1 = cc in omega arith
zero_closes_none (inr (inl e)) = let z : ◌≡◌ {A = ℕ} 0 1 = cc in omega arith
zero_closes_none (inr (inr e)) = let z : ◌≡◌ {A = ℕ} 0 1 = cc in omega arith

closing_stands : (s : List ℕ) (at : ℕ) → Closing (kind_of (get_or s at 0)) → at < length s
closing_stands s at k = stands s at (λ z. zero_closes_none (subst (λ (b : ℕ). Closing (kind_of b)) z k))

module _ (each : Bool) (s : List ℕ) (at : ℕ) (inside : at ≤ length s) (seen : Seen) where
  opens_next : (k : Kind) → kind_of (get_or s at 0) ≡ k → Closing k → Tells each (Last s at Block) s at Block seen (opening s at k seen)
  opens_next k e (inl f) = rw f (line_opens each (Last s at Block) s at inside seen Block (rw (e, f)) (enclosing each (Last s at Block) s at inside seen kind.Line (e ∙ f) (λ z. let y : ◌≡◌ {A = ℕ} 0 1 = cc in omega arith)) (λ v. rw (e, f)))
  opens_next k e (inr (inl f)) = rw f (record { block = refl; inside = closing_stands s at (inr (inl (e ∙ f))); kind = e ∙ f })
  opens_next k e (inr (inr f)) = rw f (block_opens each (Last s at Block) s at inside seen Block (rw (e, f)) (enclosing each (Last s at Block) s at inside seen kind.Expansion (e ∙ f) (λ z. let y : ◌≡◌ {A = ℕ} 0 1 = cc in omega arith)) (λ v. rw (e, f)))

  opens_found : (t : Token) → Tells each (Closing (kind_of (get_or s at 0))) s at Block seen t → Tells each (Last s at Block) s at Block seen (opened s at t seen)
  opens_found (token.Read i next) g = g
  opens_found token.Ends g = opens_next (kind_of (get_or s at 0)) refl g
  opens_found (token.Unfit p) g = g

-- ---- The two readers.
abbrev pub PieceTells : List ℕ → ℕ → Place → Seen → Token → Type 0
PieceTells s at place seen t = Tells false (Last s at place) s at place seen t

abbrev pub TokenTells : List ℕ → ℕ → Place → Seen → Token → Type 0
TokenTells s at place seen t = Tells true (Last s at place) s at place seen t

pub piece_tells : (s : List ℕ) (at : ℕ) (place : Place) (seen : Seen) (t : Token) → at ≤ length s → t ≡ piece_at s at place seen → PieceTells s at place seen t
piece_tells s at place seen t h e = subst (PieceTells s at place seen) (sym e) (go place)
  where
    go : (place : Place) → PieceTells s at place seen (piece_at s at place seen)
    go Content = in_content false _ s at h seen
    go Line = in_line false _ s at h seen
    go Block = opens_found false s at h seen (block_token s at (kind_of (get_or s at 0)) seen) (in_block false (Closing (kind_of (get_or s at 0))) s at h seen (λ k. k) (kind_of (get_or s at 0)) refl)
    go Field = in_field false _ s at h seen
    go Date = codes_passed _ s at seen h

pub token_tells : (s : List ℕ) (at : ℕ) (place : Place) (seen : Seen) (t : Token) → at ≤ length s → t ≡ token_at s at place seen → TokenTells s at place seen t
token_tells s at place seen t h e = subst (TokenTells s at place seen) (sym e) (go place)
  where
    go : (place : Place) → TokenTells s at place seen (token_at s at place seen)
    go Content = in_content true _ s at h seen
    go Line = in_line true _ s at h seen
    go Block = opens_found true s at h seen (block_token s at (kind_of (get_or s at 0)) seen) (in_block true (Closing (kind_of (get_or s at 0))) s at h seen (λ k. k) (kind_of (get_or s at 0)) refl)
    go Field = in_field true _ s at h seen
    go Date = in_date true _ s at h seen
