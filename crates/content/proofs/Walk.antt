-- The content test's way through the bytes: at each place, what is left gives the verdict. Each law is one step of the test, said
-- over the byte that was read there and what a test of it gave.
use Prim.Native.Nat.{ℕ, ◌+◌, ◌≤◌, ◌<◌}
use mathlib.Core.Bool.{Bool, true, false}
use mathlib.Core.List.{List}
use mathlib.Core.Logic.{inl, inr}
use mathlib.Core.Path.{◌≡◌, refl, sym, ◌∙◌, ap, subst}
use Rattle.std.specs.Prelude.{Err, None, Option, Some}
use native.Mathlib.Omega.{arith}
use borrow.Author.Tests.{ltb-true, lt-ltb, le-ltb, ne_eqb}
use lib.Dec.{eqb, ltb}
use lib.ListN.{length, get_or, drop, drop_of_length-le}
use Rattle.content.specs.Byte.{kind_of, code_of, is_code, is_expansion, is_count}
use Rattle.content.specs.Content.{good, read, verdict}
use Rattle.content.specs.Item.{behind, characters_end, closing, codes_end, counted, enclosed, item_at, passed, whole_field}
use Rattle.content.specs.Machine.{Spot, Inside, Font, Mode, Reading, Done, Bad, in_code, stepped, with_field, with_line}
use Rattle.content.specs.Position.{mark_of}
use Rattle.content.specs.declared.byte.Code.{Code}
use Rattle.content.specs.declared.byte.Kind.{Kind}
use Rattle.content.specs.declared.byte.Kind.TheVariants as kind
use Rattle.content.specs.declared.item.Item.{Item}
use Rattle.content.specs.declared.item.Item.TheVariants as item
use Rattle.content.specs.declared.item.Place.{Place}
use Rattle.content.specs.declared.item.Place.TheVariants.{Content, Line, Block, Field, Date}
use Rattle.content.specs.declared.item.Seen.{Seen}
use Rattle.content.specs.declared.item.Token.{Token}
use Rattle.content.specs.declared.item.Token.TheVariants as token
use Rattle.content.specs.declared.position.Mark.{Mark}
use Rattle.frame.specs.Ground.{pick}
use Rattle.frame.proofs.Ground.{drop_next, never, pick_case}
use Rattle.content.proofs.Bytes.{told}
use Rattle.content.proofs.Path.{Path, one_byte, path_read, good_stands, reading_is_good, stuck_read}
use Rattle.content.proofs.Tokens.{here, Closing, Goes, Fails, Tells, in_block, codes_path, codes_ahead, field_path, characters_ahead, no_character_behind, no_code_behind}

-- We are at a place of the bytes in a mode, and what is left gives the verdict.
pub record At (s : List ℕ) (m : Mode) (at : ℕ) : Type 0 where
  pub inside : at ≤ length s
  pub same : verdict s ≡ read at m (drop at s)

-- We are behind a block's items, at what ends the block.
pub record Closed (s : List ℕ) (at : ℕ) (seen : Seen) : Type 0 where
  pub here : At s (here Block seen) at
  pub kind : Closing (kind_of (get_or s at 0))

-- One byte that leads on, and one that can't stand there.
steps : (s : List ℕ) (at : ℕ) (spot : Spot) (seen : Seen) (m : Mode) → stepped spot (get_or s at 0) seen ≡ m → (m ≡ Bad → ⊥)
    → (at < length s) × (read at (Reading spot seen) (drop at s) ≡ read (at + 1) m (drop (at + 1) s))
steps s at spot seen m e good =
    let h : at < length s = good_stands s at spot seen e good in
    (h, path_read (one_byte s at (at + 1) (Reading spot seen) m (mark_of (Reading spot seen) (get_or s at 0)) refl h e refl) good)

walks : {s : List ℕ} {at : ℕ} {spot spot' : Spot} {seen seen' : Seen} → At s (Reading spot seen) at → stepped spot (get_or s at 0) seen ≡ Reading spot' seen' → At s (Reading spot' seen') (at + 1)
walks {s} {at} {spot} {spot'} {seen} {seen'} a e =
    let m = steps s at spot seen (Reading spot' seen') e (reading_is_good spot' seen') in
    record { inside = omega (arith, m.0); same = a.same ∙ m.1 }

fails : {s : List ℕ} {at : ℕ} {spot : Spot} {seen : Seen} → At s (Reading spot seen) at → stepped spot (get_or s at 0) seen ≡ Bad → Err at ≡ verdict s
fails {s} {at} {spot} {seen} a e = sym (a.same ∙ stuck_read s at spot seen e)

-- ---- The first line's 0Ah.
start_at : (s : List ℕ) → At s (here Content (record { lines = 0; fields = 0 })) 0
unfolding verdict
start_at s = record { inside = omega arith; same = refl }

pub first_line : (s : List ℕ) {b : ℕ} → b ≡ get_or s 0 0 → b ≡ 0x0A → At s (here Line (record { lines = 1; fields = 0 })) 1
unfolding with_line
first_line s e l = walks (start_at s) (rw (← e, l))

pub no_line : (s : List ℕ) {b : ℕ} → b ≡ get_or s 0 0 → (b ≡ 0x0A → ⊥) → Err 0 ≡ verdict s
no_line s {b} e n = fails (start_at s) (rw (← e, ne_eqb b 0x0A n))

-- ---- A block's expansion and font.
module _ {s : List ℕ} {at : ℕ} {seen : Seen} {b : ℕ} {r : Bool} where
  pub expansion : At s (here Line seen) at → b ≡ get_or s at 0 → r ≡ is_expansion b → r ≡ true → At s (Reading (Font b) seen) (at + 1)
  expansion a e t h = walks a (rw (← e, ← t, h))

  pub no_expansion : At s (here Line seen) at → b ≡ get_or s at 0 → r ≡ is_expansion b → r ≡ false → Err at ≡ verdict s
  no_expansion a e t h = fails a (rw (← e, ← t, h))

  pub font : {x : ℕ} → At s (Reading (Font x) seen) at → b ≡ get_or s at 0 → r ≡ is_count b → r ≡ true → At s (here Block seen) (at + 1)
  font a e t h = walks a (rw (← e, ← t, h))

  pub no_font : {x : ℕ} → At s (Reading (Font x) seen) at → b ≡ get_or s at 0 → r ≡ is_count b → r ≡ false → Err at ≡ verdict s
  no_font a e t h = fails a (rw (← e, ← t, h))

-- ---- An item, or what ends the block.
along : {s : List ℕ} {at n : ℕ} {spot spot' : Spot} {seen seen' : Seen} {k : Mark} → At s (Reading spot seen) at → Path s at (Reading spot seen) n (Reading spot' seen') k → At s (Reading spot' seen') n
along {spot' = spot'} {seen' = seen'} a p = record { inside = p.inside; same = a.same ∙ path_read p (reading_is_good spot' seen') }

-- What a token tells the test in a block: an item leads on in the block, and of fields there are ten at most.
abbrev Passes : List ℕ → ℕ → Seen → Token → Type 0
Passes s at seen (token.Read i next) = (at < next) × (seen.fields ≤ 10 → (passed i seen).fields ≤ 10) × At s (here Block (passed i seen)) next
Passes s at seen token.Ends = Closed s at seen
Passes s at seen (token.Unfit p) = Err p ≡ verdict s

module _ (s : List ℕ) (at : ℕ) (seen : Seen) (a : At s (here Block seen) at) where
  -- Behind what stands in an item its mark, or what can't stand there.
  whole : (n mark : ℕ) (i : Item) (place : Place) (seen' : Seen) → at < n + 1 → At s (here place seen') n
      → (eqb (get_or s n 0) mark ≡ true → stepped (Inside place) (get_or s n 0) seen' ≡ here Block (passed i seen))
      → (eqb (get_or s n 0) mark ≡ false → stepped (Inside place) (get_or s n 0) seen' ≡ Bad)
      → (seen.fields ≤ 10 → (passed i seen).fields ≤ 10) → Passes s at seen (closing s n mark i)
  unfolding closing
  whole n mark i place seen' h b good bad few =
      pick_case (Passes s at seen) (eqb (get_or s n 0) mark) _ _
      (λ t. (h, few, walks b (good t)))
      (λ t. fails b (bad t))

  field_passes : kind_of (get_or s at 0) ≡ kind.Field → Passes s at seen (whole_field s at seen)
  unfolding whole_field with_field
  field_passes e =
      pick_case (Passes s at seen) (ltb seen.fields 10) _ _
      (λ t.
      let more : Seen = record { lines = seen.lines; fields = seen.fields + 1 } in
      let b : At s (here Field more) (at + 1) = walks a (rw (e, t)) in
      let h = characters_ahead s (at + 1) in
      let l = ltb-true seen.fields 10 t in
      whole (characters_end s (at + 1)) 0x12 item.FieldCloses Field more (omega (arith, h)) (along b (field_path s (at + 1) more b.inside))
      (λ m. rw m)
      (λ m. rw (m, no_character_behind s (at + 1)))
      (λ f. omega (arith, l)))
      (λ t. fails a (rw (e, t)))

  date_passes : kind_of (get_or s at 0) ≡ kind.Date → Passes s at seen (closing s (codes_end s (at + 1)) 0x1B item.DateCloses)
  date_passes e =
      let b : At s (here Date seen) (at + 1) = walks a (rw e) in
      let h = codes_ahead s (at + 1) in
      whole (codes_end s (at + 1)) 0x1B item.DateCloses Date seen (omega (arith, h)) (along b (codes_path s (at + 1) seen b.inside))
      (λ m. rw m)
      (λ m. rw m (go (code_of (get_or s (codes_end s (at + 1)) 0)) (no_code_behind s (at + 1))))
      (λ f. f)
    where
      go : (k : Option Code) → is_code k ≡ false → in_code k seen ≡ Bad
      go (Some c) f = never (sym f)
      go None f = refl

  three_pass : (fits : Bool) (mark : ℕ) (i : Item) → behind i ≡ Block → counted i seen ≡ seen → passed i seen ≡ seen
      → Tells false (Closing (kind_of (get_or s at 0))) s at Block seen (enclosed s at fits mark i) → Passes s at seen (enclosed s at fits mark i)
  unfolding enclosed
  three_pass fits mark i p q r g = go fits (eqb (get_or s (at + 2) 0) mark) g
    where
      failed : (n : ℕ) → Fails false s at Block seen n → Err n ≡ verdict s
      failed n f = sym (a.same ∙ path_read f.path (reading_is_good f.spot seen) ∙ stuck_read s n f.spot seen f.stuck)

      went : (n : ℕ) → Goes false s at Block seen i n → Passes s at seen (token.Read i n)
      went n f = (f.ahead, (λ h. rw r h), rw (r, ← q, ← p) (along a f.path))

      go : (x y : Bool) → Tells false (Closing (kind_of (get_or s at 0))) s at Block seen (pick x (pick y (token.Read i (at + 3)) (token.Unfit (at + 2))) (token.Unfit (at + 1)))
          → Passes s at seen (pick x (pick y (token.Read i (at + 3)) (token.Unfit (at + 2))) (token.Unfit (at + 1)))
      go true true f = went (at + 3) f
      go true false f = failed (at + 2) f
      go false y f = failed (at + 1) f

  passes : (k : Kind) → kind_of (get_or s at 0) ≡ k → Passes s at seen (item_at s at k seen)
  passes kind.Line e = record { here = a; kind = inl e }
  passes kind.End e = record { here = a; kind = inr (inl e) }
  passes kind.Field e = field_passes e
  passes kind.Date e = date_passes e
  passes kind.Counter e = three_pass _ 0x1C _ refl refl refl (in_block false (Closing (kind_of (get_or s at 0))) s at a.inside seen (λ c. c) kind.Counter e)
  passes kind.Tabulation e = three_pass _ 0x1E _ refl refl refl (in_block false (Closing (kind_of (get_or s at 0))) s at a.inside seen (λ c. c) kind.Tabulation e)
  passes kind.Expansion e = record { here = a; kind = inr (inr e) }
  passes kind.Character e =
      let g : Goes false s at Block seen item.Characters (characters_end s at) = in_block false (Closing (kind_of (get_or s at 0))) s at a.inside seen (λ c. c) kind.Character e in
      (g.ahead, (λ h. h), along a g.path)
  passes kind.Other e = fails a (rw e)

module _ {s : List ℕ} {at : ℕ} {seen : Seen} {t : Token} where
  passes_found : At s (here Block seen) at → t ≡ item_at s at (kind_of (get_or s at 0)) seen → Passes s at seen t
  passes_found a g = subst (Passes s at seen) (sym g) (passes s at seen a (kind_of (get_or s at 0)) refl)

  pub next_item : {i : Item} {next : ℕ} {seen' : Seen} → At s (here Block seen) at → seen.fields ≤ 10 → t ≡ item_at s at (kind_of (get_or s at 0)) seen → t ≡ token.Read i next
      → seen' ≡ passed i seen → (at < next) × (seen'.fields ≤ 10) × At s (here Block seen') next
  next_item {i} {next} {seen'} a few g r q =
      let p : Passes s at seen (token.Read i next) = subst (Passes s at seen) r (passes_found a g) in
      (p.0, subst (λ (x : Seen). x.fields ≤ 10) (sym q) (p.1 few), subst (λ (x : Seen). At s (here Block x) next) (sym q) p.2)

  pub no_item : {p : ℕ} → At s (here Block seen) at → t ≡ item_at s at (kind_of (get_or s at 0)) seen → t ≡ token.Unfit p → Err p ≡ verdict s
  no_item {p} a g r = subst (Passes s at seen) r (passes_found a g)

  pub closed : At s (here Block seen) at → t ≡ item_at s at (kind_of (get_or s at 0)) seen → t ≡ token.Ends → Closed s at seen
  closed a g r = subst (Passes s at seen) r (passes_found a g)

-- ---- What ends a block is an expansion where the test for one says so; else it is a line's 0Ah, unless it is the 0Dh.
apart : (t : Bool) → t ≡ true → t ≡ false → ⊥
apart t p q = let z : ◌≡◌ {A = ℕ} 0 1 = cc in omega arith

expansion_kind : (b : ℕ) → Closing (kind_of b) → is_expansion b ≡ true → kind_of b ≡ kind.Expansion
unfolding is_expansion
expansion_kind b (inl e) t = absurd (apart true refl (sym t ∙ ap is_expansion (told b kind.Line e)))
expansion_kind b (inr (inl e)) t = absurd (apart true refl (sym t ∙ ap is_expansion (told b kind.End e)))
expansion_kind b (inr (inr e)) t = e

line_kind : (b : ℕ) → Closing (kind_of b) → is_expansion b ≡ false → (b ≡ 0x0D → ⊥) → kind_of b ≡ kind.Line
line_kind b (inl e) f n = e
line_kind b (inr (inl e)) f n = absurd (n (told b kind.End e))
line_kind b (inr (inr e)) f n = absurd (apart (is_expansion b) (told b kind.Expansion e) f)

module _ {s : List ℕ} {at : ℕ} {seen : Seen} {b : ℕ} where
  pub next_block : {r : Bool} → Closed s at seen → b ≡ get_or s at 0 → r ≡ is_expansion b → r ≡ true → At s (here Line seen) at
  next_block {r} c e t h =
      let x : is_expansion (get_or s at 0) ≡ true = rw (← e) (sym t ∙ h) in
      let font : Mode = Reading (Font (get_or s at 0)) seen in
      let m = steps s at (Inside Block) seen font (rw (expansion_kind (get_or s at 0) c.kind x)) (reading_is_good (Font (get_or s at 0)) seen) in
      let n = steps s at (Inside Line) seen font (rw x) (reading_is_good (Font (get_or s at 0)) seen) in
      record { inside = c.here.inside; same = c.here.same ∙ m.1 ∙ sym n.1 }

  -- The 0Dh, and no byte after it, or one.
  at_end : Closed s at seen → b ≡ get_or s at 0 → b ≡ 0x0D → (at < length s) × (read at (here Block seen) (drop at s) ≡ read (at + 1) Done (drop (at + 1) s))
  unfolding kind_of
  at_end c e d = steps s at (Inside Block) seen Done (rw (← e, d)) (λ never. let z : ◌≡◌ {A = ℕ} 0 1 = cc in omega arith)

  pub ends : Closed s at seen → b ≡ get_or s at 0 → b ≡ 0x0D → at + 1 ≡ length s → good ≡ verdict s
  ends c e d l = sym (c.here.same ∙ (at_end c e d).1 ∙ ap (read (at + 1) Done) (drop_of_length-le s {i = at + 1} (omega arith)))

  pub no_end : Closed s at seen → b ≡ get_or s at 0 → b ≡ 0x0D → (at + 1 ≡ length s → ⊥) → Err (at + 1) ≡ verdict s
  no_end c e d n =
      let m = at_end c e d in
      sym (c.here.same ∙ m.1 ∙ ap (read (at + 1) Done) (drop_next s (at + 1) (omega (arith, m.0))))

-- The 0Ah of another line, the fourth at the most.
module _ {s : List ℕ} {at : ℕ} {seen : Seen} where
  pub at_line : {b b' : ℕ} {r : Bool} → Closed s at seen → b ≡ get_or s at 0 → r ≡ is_expansion b → r ≡ false → b' ≡ get_or s at 0 → (b' ≡ 0x0D → ⊥) → kind_of (get_or s at 0) ≡ kind.Line
  at_line {b} {b'} {r} c e t h e' n = line_kind (get_or s at 0) c.kind (rw (← e) (sym t ∙ h)) (λ d. n (e' ∙ d))

  pub next_line : Closed s at seen → kind_of (get_or s at 0) ≡ kind.Line → seen.lines < 4 → At s (here Line (record { lines = seen.lines + 1; fields = seen.fields })) (at + 1)
  unfolding with_line
  next_line c e l = walks c.here (rw (e, lt-ltb seen.lines 4 l))

  pub fifth_line : Closed s at seen → kind_of (get_or s at 0) ≡ kind.Line → 4 ≤ seen.lines → Err at ≡ verdict s
  unfolding with_line
  fifth_line c e l = fails c.here (rw (e, le-ltb seen.lines 4 l))
