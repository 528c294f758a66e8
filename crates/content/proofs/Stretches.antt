-- Marks in a row: the way of `run_at` from token to token, and what edits and updates make of each stretch of marks that it finds.
use Prim.Native.Nat.{ℕ, zero, suc, ◌+◌, ◌-◌, ◌≤◌, ◌<◌, max}
use mathlib.Core.Bool.{Bool, true, false}
use mathlib.Core.List.{List, [], ◌∷◌, ◌++◌, append_assoc}
use mathlib.Core.Path.{◌≡◌, refl, sym, ◌∙◌, ap, subst}
use native.Mathlib.Nat.{add-zero}
use Rattle.std.specs.Prelude.{Option, None, Some}
use native.Mathlib.Omega.{arith}
use borrow.Author.Tests.{ltb-true, ltb-false}
use lib.Dec.{ltb}
use lib.ListN.{length, get_or, drop, replicate, length-drop, length-replicate, get_or-replicate, get_or-append, get_or-eq_default}
use lib.Seq.{drop_at, drop-drop, get_or-drop}
use Rattle.frame.specs.Ground.{pick}
use Rattle.frame.proofs.Ground.{never, true_both, drop_next}
use Rattle.content.specs.Edit.{addressed, astray, strayed}
use Rattle.content.specs.Item.{behind, counted, past, piece_at}
use Rattle.content.specs.Machine.{Mode, start, step}
use Rattle.content.specs.Position.{Runs, Stretch, field_positions_from, is_field_position, is_position, item_mark, mark_of, marks}
use Rattle.content.specs.declared.byte.Kind.TheVariants as kind
use Rattle.content.specs.declared.item.Item.{Item}
use Rattle.content.specs.declared.item.Place.{Place}
use Rattle.content.specs.declared.item.Place.TheVariants.{Block, Content}
use Rattle.content.specs.declared.item.Reader.{Reader}
use Rattle.content.specs.declared.item.Seen.{Seen}
use Rattle.content.specs.declared.item.Token.{Token}
use Rattle.content.specs.declared.item.Token.TheVariants as token
use Rattle.content.specs.declared.position.Mark.{Mark}
use Rattle.content.specs.declared.position.Mark.TheVariants.{Structure, Character, FieldCharacter}
use Rattle.content.specs.declared.position.Run.{Run}
use Rattle.content.proofs.Path.{path_marks, done_marks, no_character, replicate_append, stuck_marks}
use Rattle.content.proofs.Run.{length_marks}
use Rattle.content.proofs.Tokens.{here, Goes, Fails, Last, kind_no_character, piece_tells}

-- ---- From token to token: all was structure so far.
pub record Walked (s : List ℕ) (at₀ : ℕ) (place₀ : Place) (seen₀ : Seen) (at : ℕ) (place : Place) (seen : Seen) : Type 0 where
  pub ahead : at₀ ≤ at
  pub inside : at ≤ length s
  pub same : marks (here place₀ seen₀) (drop at₀ s) ≡ replicate (at - at₀) Structure ++ marks (here place seen) (drop at s)

pub not_walked : (s : List ℕ) (at : ℕ) (place : Place) (seen : Seen) → at ≤ length s → Walked s at place seen at place seen
not_walked s at place seen h =
    let e : at - at ≡ 0 = omega arith in
    record { ahead = omega arith; inside = h; same = rw e }

no_position : (k : Mark) → is_position k ≡ false → k ≡ Structure
no_position Structure e = refl
no_position Character e = never (sym e)
no_position FieldCharacter e = never (sym e)

structure_then : (a b c : ℕ) (ms : List Mark) → a + b ≡ c → replicate a Structure ++ (replicate b Structure ++ ms) ≡ replicate c Structure ++ ms
structure_then a b c ms e = sym (append_assoc (replicate a Structure) (replicate b Structure) ms) ∙ ap (λ (l : List Mark). l ++ ms) (replicate_append a b Structure ∙ ap (λ (n : ℕ). replicate n Structure) e)

module _ {s : List ℕ} {at₀ : ℕ} {place₀ : Place} {seen₀ : Seen} {at : ℕ} {place : Place} {seen : Seen} {t : Token} (w : Walked s at₀ place₀ seen₀ at place seen) (e : t ≡ piece_at s at place seen) where
  module _ {i : Item} {next : ℕ} {place' : Place} {seen' : Seen} {k : Mark} {r : Bool} (f : t ≡ token.Read i next) (p : place' ≡ behind i) (q : seen' ≡ counted i seen) (m : k ≡ item_mark i) (d : r ≡ is_position k) where
    goes : Goes false s at place seen i next
    goes = piece_tells s at place seen (token.Read i next) w.inside (sym f ∙ e)

    marks_on : marks (here place seen) (drop at s) ≡ replicate (next - at) k ++ marks (here place' seen') (drop next s)
    marks_on = rw (p, q, m) (path_marks goes.path)

    pub walked_on : r ≡ false → (at < next) × Walked s at₀ place₀ seen₀ next place' seen'
    walked_on b =
        let c : k ≡ Structure = no_position k (sym d ∙ b) in
        let l : (at - at₀) + (next - at) ≡ next - at₀ = omega (arith, w.ahead, goes.ahead) in (
          goes.ahead,
          record {
            ahead = omega (arith, w.ahead, goes.ahead);
            inside = goes.path.inside;
            same =
                w.same
                ∙ ap (λ (ms : List Mark). replicate (at - at₀) Structure ++ ms) (marks_on ∙ ap (λ (x : Mark). replicate (next - at) x ++ marks (here place' seen') (drop next s)) c)
                ∙ structure_then (at - at₀) (next - at) (next - at₀) (marks (here place' seen') (drop next s)) l;
          },
        )

    pub walked_to : r ≡ true → Stretch s at₀ place₀ seen₀ k at next place' seen'
    walked_to b =
        record {
          ahead = w.ahead;
          some = goes.ahead;
          inside = goes.path.inside;
          position = sym d ∙ b;
          same = w.same ∙ ap (λ (ms : List Mark). replicate (at - at₀) Structure ++ ms) marks_on;
        }

  all_structure : marks (here place seen) (drop at s) ≡ replicate (length s - at) Structure → marks (here place₀ seen₀) (drop at₀ s) ≡ replicate (length s - at₀) Structure
  all_structure h =
      let l : (at - at₀) + (length s - at) ≡ length s - at₀ = omega (arith, w.ahead, w.inside) in
      w.same ∙ ap (λ (ms : List Mark). replicate (at - at₀) Structure ++ ms) h ∙ replicate_append (at - at₀) (length s - at) Structure ∙ ap (λ (n : ℕ). replicate n Structure) l

  pub walked_unfit : {p : ℕ} → t ≡ token.Unfit p → marks (here place₀ seen₀) (drop at₀ s) ≡ replicate (length s - at₀) Structure
  walked_unfit {p} f =
      let g : Fails false s at place seen p = piece_tells s at place seen (token.Unfit p) w.inside (sym f ∙ e) in
      let size = g.path.size in
      let l : (p - at) + (length s - p) ≡ length s - at = omega (arith, g.path.size, g.path.inside) in
      all_structure (path_marks g.path ∙ ap (λ (ms : List Mark). replicate (p - at) Structure ++ ms) (stuck_marks s p g.spot seen g.stuck) ∙ replicate_append (p - at) (length s - p) Structure ∙ ap (λ (n : ℕ). replicate n Structure) l)

  pub walked_out : t ≡ token.Ends → marks (here place₀ seen₀) (drop at₀ s) ≡ replicate (length s - at₀) Structure
  walked_out f =
      let g : Last s at place = piece_tells s at place seen token.Ends w.inside (sym f ∙ e) in
      all_structure (ends_structure g)
    where
      ends_structure : Last s at place → marks (here place seen) (drop at s) ≡ replicate (length s - at) Structure
      ends_structure g =
          let h = g.inside in
          let l : length s - at ≡ suc (length (drop (at + 1) s)) = simp length-drop (omega arith) in
          let b : ℕ = get_or s at 0 in
          ap (marks (here place seen)) (drop_next s at h)
          ∙ rw (g.block, g.kind, no_character (here Block seen) b (kind_no_character b kind.End g.kind (λ z. let y : ◌≡◌ {A = ℕ} 0 1 = cc in omega arith)), l, done_marks (drop (at + 1) s))

  -- Where no item is found, all is structure.
  pub walked_none : ((i : Item) (next : ℕ) → t ≡ token.Read i next → ⊥) → marks (here place₀ seen₀) (drop at₀ s) ≡ replicate (length s - at₀) Structure
  walked_none n = go t refl
    where
      go : (u : Token) → t ≡ u → marks (here place₀ seen₀) (drop at₀ s) ≡ replicate (length s - at₀) Structure
      go (token.Read i next) f = absurd (n i next f)
      go token.Ends f = walked_out f
      go (token.Unfit p) f = walked_unfit f

-- The same from where the reader stood to where it stands.
abbrev pub Walks : List ℕ → Reader → Reader → Type 0
Walks s a b = Walked s a.at a.place a.seen b.at b.place b.seen

module _ {s : List ℕ} {a b c : Reader} {t : Token} {i : Item} {next : ℕ} {k : Mark} {r : Bool} (w : Walks s a b) (e : t ≡ piece_at s b.at b.place b.seen)
    (f : t ≡ token.Read i next) (p : c ≡ past b i next) (m : k ≡ item_mark i) (d : r ≡ is_position k) where
  pub walks_on : r ≡ false → (b.at < c.at) × Walks s a c
  walks_on g = rw p (walked_on w e f refl refl m d g)

  pub walks_to : r ≡ true → Runs s a (Some (record { mark = k; from = b.at; next = c }))
  walks_to g = rw p (walked_to w e f refl refl m d g)

-- What a run that is found tells.
pub found : (s : List ℕ) (at : Reader) {r : Option Run} {run : Run} → Runs s at r → r ≡ Some run → Runs s at (Some run)
found s at h e = subst (Runs s at) e h

pub found_none : (s : List ℕ) (at : Reader) {r : Option Run} → Runs s at r → r ≡ None → Runs s at None
found_none s at h e = subst (Runs s at) e h

-- ---- Field positions.
abbrev fields_in : List Mark → ℕ
fields_in [] = 0
fields_in (k ∷ ms) = pick (is_field_position k) 1 0 + fields_in ms

fields_by_marks : (m : Mode) (s : List ℕ) → field_positions_from m s ≡ fields_in (marks m s)
fields_by_marks m [] = refl
fields_by_marks m (b ∷ s) = ap (λ (n : ℕ). pick (is_field_position (mark_of m b)) 1 0 + n) (fields_by_marks (step m b) s)

fields_row : (n : ℕ) (k : Mark) (ms : List Mark) → fields_in (replicate n k ++ ms) ≡ pick (is_field_position k) n 0 + fields_in ms
fields_row zero k ms = go (is_field_position k)
  where
    go : (t : Bool) → fields_in ms ≡ pick t 0 0 + fields_in ms
    go true = omega arith
    go false = omega arith
fields_row (suc n) k ms = go (is_field_position k) (fields_row n k ms)
  where
    go : (t : Bool) → fields_in (replicate n k ++ ms) ≡ pick t n 0 + fields_in ms → pick t 1 0 + fields_in (replicate n k ++ ms) ≡ pick t (suc n) 0 + fields_in ms
    go true e = omega arith
    go false e = omega arith

module _ {s : List ℕ} {at : ℕ} {place : Place} {seen : Seen} {k : Mark} {from to : ℕ} {place' : Place} {seen' : Seen} where
  pub fields_on : Stretch s at place seen k from to place' seen'
      → field_positions_from (here place seen) (drop at s) ≡ pick (is_field_position k) (to - from) 0 + field_positions_from (here place' seen') (drop to s)
  fields_on r =
      fields_by_marks (here place seen) (drop at s)
      ∙ ap fields_in r.same
      ∙ fields_row (from - at) Structure _
      ∙ omega (arith, fields_row (to - from) k (marks (here place' seen') (drop to s)), fields_by_marks (here place' seen') (drop to s))

  module _ (r : Stretch s at place seen k from to place' seen') (n total : ℕ) {t : Bool} (e : t ≡ is_field_position k) (h : n + field_positions_from (here place seen) (drop at s) ≡ total) where
    pub fields_taken : t ≡ true → n + (to - from) + field_positions_from (here place' seen') (drop to s) ≡ total
    fields_taken f =
        let g : field_positions_from (here place seen) (drop at s) ≡ (to - from) + field_positions_from (here place' seen') (drop to s) = fields_on r ∙ rw (← e, f) in
        omega (arith, h, g)

    pub fields_left : t ≡ false → n + field_positions_from (here place' seen') (drop to s) ≡ total
    fields_left f =
        let g : field_positions_from (here place seen) (drop at s) ≡ 0 + field_positions_from (here place' seen') (drop to s) = fields_on r ∙ rw (← e, f) in
        omega (arith, h, g)

pub fields_none : (s : List ℕ) (at : ℕ) (place : Place) (seen : Seen) → marks (here place seen) (drop at s) ≡ replicate (length s - at) Structure → field_positions_from (here place seen) (drop at s) ≡ 0
fields_none s at place seen e = fields_by_marks (here place seen) (drop at s) ∙ ap fields_in e ∙ none (length s - at)
  where
    none : (n : ℕ) → fields_in (replicate n Structure) ≡ 0
    none zero = refl
    none (suc n) = omega (arith, none n)

-- ---- Symbols that have to land on character positions.
abbrev pub lands : List Mark → ℕ → Bool
lands ms i = is_position (get_or ms i Structure)

abbrev pub AllLand : List Mark → ℕ → ℕ → Type 0
AllLand ms from to = (k : ℕ) → from ≤ k → k < to → lands ms k ≡ true

pub all_land : (xs : List ℕ) (ms : List Mark) → ((k : ℕ) → k < length xs → lands ms k ≡ true) → addressed xs ms ≡ true
all_land [] ms h = refl
all_land (x ∷ xs) [] h = never (h 0 (omega arith))
all_land (x ∷ xs) (m ∷ ms) h = true_both (is_position m) (addressed xs ms) (h 0 (omega arith)) (all_land xs ms (λ k g. h (suc k) (omega arith)))

pub one_strays : (xs : List ℕ) (ms : List Mark) (address i : ℕ) → i < length xs → lands ms i ≡ false → ((k : ℕ) → k < i → lands ms k ≡ true) → strayed address xs ms ≡ Some (address + i)
one_strays [] ms address i g e h = absurd (omega arith)
one_strays (x ∷ xs) [] address zero g e h = rw add-zero
one_strays (x ∷ xs) [] address (suc i) g e h = never (h 0 (omega arith))
one_strays (x ∷ xs) (m ∷ ms) address zero g e h = rw (e, add-zero)
one_strays (x ∷ xs) (m ∷ ms) address (suc i) g e h =
    let n : address + 1 + i ≡ address + suc i = omega arith in
    rw (h 0 (omega arith)) (one_strays xs ms (address + 1) i (omega arith) e (λ k l. h (suc k) (omega arith)) ∙ ap (λ (j : ℕ). Some j) n)

-- The same by address.
module _ (ms : List Mark) (address : ℕ) where
  pub from_address : (k : ℕ) → address ≤ k → lands (drop address ms) (k - address) ≡ lands ms k
  from_address k h = let e : address + (k - address) ≡ k = omega arith in ap is_position (get_or-drop address ms (k - address) Structure ∙ ap (λ (i : ℕ). get_or ms i Structure) e)

  behind_address : {n : ℕ} → AllLand ms address n → (k : ℕ) → address + k < n → lands (drop address ms) k ≡ true
  behind_address h k g = ap is_position (get_or-drop address ms k Structure) ∙ h (address + k) (omega arith) g

  pub all_addressed : (xs : List ℕ) → AllLand ms address (address + length xs) → addressed xs (drop address ms) ≡ true
  all_addressed xs h = all_land xs (drop address ms) (λ k g. behind_address h k (omega arith))

  pub none_strays : (xs : List ℕ) → AllLand ms address (address + length xs) → None ≡ strayed address xs (drop address ms)
  none_strays xs h = rw (all_addressed xs h)

  pub strays_at : (xs : List ℕ) (i : ℕ) → address ≤ i → i < address + length xs → lands ms i ≡ false → AllLand ms address i → strayed address xs (drop address ms) ≡ Some i
  strays_at xs i a b e h =
      let n : address + (i - address) ≡ i = omega arith in
      one_strays xs (drop address ms) address (i - address) (omega arith) (from_address i a ∙ e) (λ k g. behind_address h k (omega arith)) ∙ ap (λ (j : ℕ). Some j) n

-- What the answer tells of the test and of the place.
pub strayed_at : (address : ℕ) (xs : List ℕ) (ms : List Mark) {i : ℕ} → strayed address xs ms ≡ Some i → (addressed xs ms ≡ false) × (astray address xs ms ≡ i)
strayed_at address xs ms {i} e = go (addressed xs ms) e
  where
    go : (t : Bool) → pick t None (Some (astray address xs ms)) ≡ Some i → (t ≡ false) × (astray address xs ms ≡ i)
    go true e = let z : ◌≡◌ {A = ℕ} 0 1 = cc in absurd (omega arith)
    go false e = (refl, cc)

pub strayed_nowhere : (address : ℕ) (xs : List ℕ) (ms : List Mark) → strayed address xs ms ≡ None → addressed xs ms ≡ true
strayed_nowhere address xs ms e = go (addressed xs ms) e
  where
    go : (t : Bool) → pick t None (Some (astray address xs ms)) ≡ None → t ≡ true
    go true e = refl
    go false e = let z : ◌≡◌ {A = ℕ} 0 1 = cc in absurd (omega arith)

-- Marks in a row from a place up to another.
record Row (ms : List Mark) (at to : ℕ) (k : Mark) (rest : List Mark) : Type 0 where
  ahead : at ≤ to
  same : drop at ms ≡ replicate (to - at) k ++ rest

module _ {ms : List Mark} {at to : ℕ} {k : Mark} {rest : List Mark} (r : Row ms at to k rest) where
  row_at : (j : ℕ) → at ≤ j → j < to → get_or ms j Structure ≡ k
  row_at j g l =
      let n : j ≡ at + (j - at) = omega arith in
      ap (λ (i : ℕ). get_or ms i Structure) n
      ∙ sym (get_or-drop at ms (j - at) Structure)
      ∙ ap (λ (l : List Mark). get_or l (j - at) Structure) r.same
      ∙ get_or-append (replicate (to - at) k) rest Structure (j - at) (rw length-replicate (omega arith))
      ∙ get_or-replicate (to - at) (j - at) k Structure (omega arith)

  row_past : drop to ms ≡ rest
  row_past =
      let n : to ≡ at + (to - at) = omega (arith, r.ahead) in
      ap (λ (i : ℕ). drop i ms) n ∙ sym (drop-drop (to - at) at ms) ∙ ap (drop (to - at)) r.same ∙ drop_at (replicate (to - at) k) rest (to - at) (length-replicate (to - at) k)

only_structure : (n i : ℕ) → get_or (replicate n Structure) i Structure ≡ Structure
only_structure zero i = refl
only_structure (suc n) zero = refl
only_structure (suc n) (suc i) = only_structure n i

-- The way of `strayed`: the symbols before a place have landed, and the marks from another place on are still to be read.
pub record Landing (s : List ℕ) (address : ℕ) (symbols : List ℕ) (end from at : ℕ) (place : Place) (seen : Seen) : Type 0 where
  pub last : end ≡ address + length symbols
  pub low : address ≤ from
  pub ahead : at ≤ from
  pub more : from < end
  pub inside : at ≤ length s
  pub same : drop at (marks start s) ≡ marks (here place seen) (drop at s)
  pub landed : AllLand (marks start s) address from

pub not_landed : (s : List ℕ) (address : ℕ) (symbols : List ℕ) → 0 < length symbols → Landing s address symbols (address + length symbols) address 0 Content (record { lines = 0; fields = 0 })
not_landed s address symbols h =
    record { last = refl; low = omega arith; ahead = omega arith; more = omega arith; inside = omega arith; same = refl; landed = λ k a b. absurd (omega arith) }

-- Behind the last byte there are no positions.
pub behind_strays : (s : List ℕ) (address : ℕ) (symbols : List ℕ) → 0 < length symbols → length s ≤ address → strayed address symbols (drop address (marks start s)) ≡ Some address
behind_strays s address symbols h g =
    strays_at (marks start s) address symbols address (omega arith) (omega arith)
    (ap is_position (get_or-eq_default (marks start s) Structure {n = address} (rw length_marks g))) (λ k a b. absurd (omega arith))

module _ {s : List ℕ} {address : ℕ} {symbols : List ℕ} {end from at : ℕ} {place : Place} {seen : Seen} (l : Landing s address symbols end from at place seen) where
  strays_here : lands (marks start s) from ≡ false → Some from ≡ strayed address symbols (drop address (marks start s))
  strays_here e = sym (strays_at (marks start s) address symbols from l.low (omega (arith, l.last, l.more)) e l.landed)

  module _ {k : Mark} {first to : ℕ} {place' : Place} {seen' : Seen} (r : Stretch s at place seen k first to place' seen') where
    before : Row (marks start s) at first Structure (replicate (to - first) k ++ marks (here place' seen') (drop to s))
    before = record { ahead = r.ahead; same = l.same ∙ r.same }

    stretch : Row (marks start s) first to k (marks (here place' seen') (drop to s))
    stretch = record { ahead = omega (arith, r.some); same = row_past before }

    pub lands_not : from < first → Some from ≡ strayed address symbols (drop address (marks start s))
    lands_not h = strays_here (ap is_position (row_at before from l.ahead h))

    lands_through : first ≤ from → AllLand (marks start s) address to
    lands_through h j a b = go (ltb j from) refl
      where
        go : (t : Bool) → ltb j from ≡ t → lands (marks start s) j ≡ true
        go true e = l.landed j a (ltb-true j from e)
        go false e = ap is_position (row_at stretch j (omega (arith, ltb-false j from e)) b) ∙ r.position

    pub lands_whole : first ≤ from → end ≤ to → None ≡ strayed address symbols (drop address (marks start s))
    lands_whole h g = none_strays (marks start s) address symbols (λ j a b. lands_through h j a (omega (arith, b, g, l.last, r.inside)))

    lands_on : (from' : ℕ) → from ≤ from' → to ≤ from' → from' < end → AllLand (marks start s) address from' → Landing s address symbols end from' to place' seen'
    lands_on from' h g e f =
        record {
          last = l.last;
          low = omega (arith, l.low, h);
          ahead = g;
          more = e;
          inside = r.inside;
          same = row_past stretch;
          landed = f;
        }

    -- Up to the later of both places all have landed then.
    pub lands_next : {from' : ℕ} → first ≤ from → to < end → from' ≡ max from to → Landing s address symbols end from' to place' seen'
    lands_next {from'} h g e = lands_on from' (omega (arith, e)) (omega (arith, e)) (omega (arith, e, g, l.more)) (λ j a b. go j a b (ltb j from) refl)
      where
        go : (j : ℕ) → address ≤ j → j < from' → (t : Bool) → ltb j from ≡ t → lands (marks start s) j ≡ true
        go j a b true q = l.landed j a (ltb-true j from q)
        go j a b false q = lands_through h j a (omega (arith, e, b, ltb-false j from q))

  pub lands_nowhere : marks (here place seen) (drop at s) ≡ replicate (length s - at) Structure → Some from ≡ strayed address symbols (drop address (marks start s))
  lands_nowhere e =
      strays_here
      (sym (from_address (marks start s) at from l.ahead)
      ∙ ap (λ (ms : List Mark). lands ms (from - at)) (l.same ∙ e)
      ∙ ap is_position (only_structure (length s - at) (from - at)))
