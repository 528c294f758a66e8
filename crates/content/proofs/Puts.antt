-- What the proofs of the strip's functions share: a buffer with bytes put at a place in it, and the way of the strip writer.
use Prim.Native.Nat.{ℕ, ◌+◌, ◌-◌, ◌≤◌, ◌<◌}
use mathlib.Core.Bool.{Bool, true}
use mathlib.Core.List.{List, [], ◌∷◌, ◌++◌, append_assoc, append-nil}
use mathlib.Core.Path.{◌≡◌, refl, sym, ◌∙◌, ap, ap₂}
use native.Mathlib.Numerals.{add-one}
use native.Mathlib.Omega.{arith}
use borrow.Rule.Slice.PartMut.{mid_of, put_mid}
use lib.ListN.{length, get_or, take, drop, set, length-append, length-drop, take-append-drop}
use lib.Seq.{drop-drop, take-add, take_at, take_all, drop-append-add, drop-append_seam, take-append_seam, length-take-le, set_split}
use Rattle.frame.specs.Ground.{over}
use Rattle.frame.specs.Build.{Lays}
use Rattle.frame.proofs.Ground.{drop_next, laid_behind, length_over}
use Rattle.content.specs.Item.{behind, counted, past, token_at}
use Rattle.content.specs.Strip.{item_shows, put_at, strip, strip_from}
use Rattle.content.specs.declared.byte.Kind.TheVariants as kind
use Rattle.content.specs.declared.item.Item.{Item}
use Rattle.content.specs.declared.item.Place.{Place}
use Rattle.content.specs.declared.item.Place.TheVariants.{Content}
use Rattle.content.specs.declared.item.Reader.{Reader}
use Rattle.content.specs.declared.item.Seen.{Seen}
use Rattle.content.specs.declared.item.Token.{Token}
use Rattle.content.specs.declared.item.Token.TheVariants as token
use Rattle.content.specs.declared.strip.Values.{Values}
use Rattle.content.proofs.Bytes.{told}
use Rattle.content.proofs.Path.{path_part, path_strip, done_strip, stuck_strip}
use Rattle.content.proofs.Tokens.{here, Fails, Goes, Last, token_tells}

-- ---- A buffer with bytes put at a place in it: none, one byte stored, bytes that `lay` left in the part behind the place, and bytes put
-- right behind those that lie over its front.
pub put_none : (a : ℕ) (xs : List ℕ) → xs ≡ put_at a [] xs
put_none a xs = let e : a + 0 ≡ a = omega arith in rw (e, take-append-drop a xs)

pub put_one : (a b : ℕ) (xs : List ℕ) → a < length xs → set xs a b ≡ put_at a (b ∷ []) xs
put_one a b xs h = set_split xs a b h ∙ ap (λ (n : ℕ). take a xs ++ (b ∷ drop n xs)) (sym (add-one a))

pub put_laid : (a : ℕ) (d xs last : List ℕ) (r : Bool) → a + length d ≤ length xs → Lays (mid_of a (length xs - a) xs) d r last
    → put_mid a (length xs - a) xs last ≡ put_at a d xs
put_laid a d xs last r h p =
    let n : length (take a xs) ≡ a = length-take-le a xs (omega arith) in
    laid_behind a (take a xs) d xs last r xs n h (sym (ap (λ (k : ℕ). take a xs ++ drop k xs) n ∙ take-append-drop a xs)) p
    ∙ ap (λ (k : ℕ). (take a xs ++ d) ++ drop k xs) (length-append (take a xs) d ∙ ap (λ (k : ℕ). k + length d) n)
    ∙ append_assoc (take a xs) d (drop (a + length d) xs)

put_behind : (a : ℕ) (w d before : List ℕ) → length w ≡ a → put_at a d (over w before) ≡ over (w ++ d) before
put_behind a w d before e =
    let front : take a (over w before) ≡ w = take_at w (drop (length w) before) a e in
    let rest : drop (a + length d) (over w before) ≡ drop (length (w ++ d)) before =
    ap (λ (k : ℕ). drop (k + length d) (over w before)) (sym e)
    ∙ drop-append-add w (drop (length w) before) (length d)
    ∙ drop-drop (length d) (length w) before
    ∙ ap (λ (k : ℕ). drop k before) (sym (length-append w d)) in
    ap₂ (λ (p q : List ℕ). p ++ (d ++ q)) front rest ∙ sym (append_assoc w d (drop (length (w ++ d)) before))

-- ---- A list of which d comes next at place a.
next_inside : (a : ℕ) (d rest xs : List ℕ) → a ≤ length xs → drop a xs ≡ d ++ rest → a + length d ≤ length xs
next_inside a d rest xs h e =
    let n : length xs - a ≡ length d + length rest = sym (length-drop a xs) ∙ ap length e ∙ length-append d rest in
    omega arith

next_taken : (a : ℕ) (d rest xs : List ℕ) → drop a xs ≡ d ++ rest → take (a + length d) xs ≡ take a xs ++ d
next_taken a d rest xs e =
    take-add a (length d) xs ∙ ap (λ (l : List ℕ). take a xs ++ take (length d) l) e ∙ ap (λ (l : List ℕ). take a xs ++ l) (take-append_seam d rest)

next_dropped : (a : ℕ) (d rest xs : List ℕ) → drop a xs ≡ d ++ rest → drop (a + length d) xs ≡ rest
next_dropped a d rest xs e = sym (drop-drop (length d) a xs) ∙ ap (λ (l : List ℕ). drop (length d) l) e ∙ drop-append_seam d rest

-- ---- The way of the strip writer: the first bytes of the strip lie over the buffer's front, and what is left from a place on gives the
-- others.
pub record Wrote (v : Values) (s before out : List ℕ) (to at : ℕ) (place : Place) (seen : Seen) : Type 0 where
  pub inside : at ≤ length s
  pub passed : to ≤ length (strip v s)
  pub rest : drop to (strip v s) ≡ strip_from v (here place seen) (drop at s)
  pub bytes : out ≡ over (take to (strip v s)) before

pub not_written : (v : Values) (s before : List ℕ) → Wrote v s before before 0 0 Content (record { lines = 0; fields = 0 })
unfolding strip
not_written v s before = record { inside = omega arith; passed = omega arith; rest = refl; bytes = refl }

module _ {v : Values} {s before out : List ℕ} {to at : ℕ} {place : Place} {seen : Seen} (w : Wrote v s before out to at place seen) where
  pub kept : length (strip v s) ≤ length before → length out ≡ length before
  kept g = ap length w.bytes ∙ length_over (take to (strip v s)) before (omega (arith, length-take-le to (strip v s) w.passed, w.passed, g))

  -- The strip ends with d, and d is put.
  puts_last : (d last : List ℕ) → strip_from v (here place seen) (drop at s) ≡ d → last ≡ put_at to d out → (to + length d ≡ length (strip v s)) × (last ≡ over (strip v s) before)
  puts_last d last e q =
      let f : drop to (strip v s) ≡ d ++ [] = w.rest ∙ e ∙ sym (append-nil d) in
      let n : length (strip v s) - to ≡ length d = sym (length-drop to (strip v s)) ∙ ap length (w.rest ∙ e) in
      let m : to + length d ≡ length (strip v s) = omega (arith, n, w.passed) in (
        m,
        q ∙ ap (λ (l : List ℕ). put_at to d l) w.bytes
            ∙ put_behind to (take to (strip v s)) d before (length-take-le to (strip v s) w.passed)
            ∙ ap (λ (l : List ℕ). over l before) (sym (next_taken to d [] (strip v s) f) ∙ ap (λ (k : ℕ). take k (strip v s)) m ∙ take_all (length (strip v s)) (strip v s) (omega arith)),
      )

  module _ {t : Token} (e : t ≡ token_at s at place seen) where
    module _ {i : Item} {next : ℕ} (f : t ≡ token.Read i next) where
      goes : Goes true s at place seen i next
      goes = token_tells s at place seen (token.Read i next) w.inside (sym f ∙ e)

      pub reads_ahead : (at < next) × (next ≤ length s)
      reads_ahead = (goes.ahead, goes.path.inside)

      shows : drop to (strip v s) ≡ item_shows v.digits v.entries i (mid_of at (next - at) s) ++ strip_from v (here (behind i) (counted i seen)) (drop next s)
      shows =
          w.rest ∙ path_strip goes.path v
          ∙ ap (λ (d : List ℕ). d ++ strip_from v (here (behind i) (counted i seen)) (drop next s)) (goes.shown refl v ∙ ap (item_shows v.digits v.entries i) (sym (path_part goes.path)))

      pub room : length (strip v s) ≤ length before → to + length (item_shows v.digits v.entries i (mid_of at (next - at) s)) ≤ length out
      room g = omega (arith, kept g, next_inside to (item_shows v.digits v.entries i (mid_of at (next - at) s)) (strip_from v (here (behind i) (counted i seen)) (drop next s)) (strip v s) w.passed shows, g)

      pub wrote : {place' : Place} {seen' : Seen} {k : ℕ} {last : List ℕ} → place' ≡ behind i → seen' ≡ counted i seen
          → (k ≡ to + length (item_shows v.digits v.entries i (mid_of at (next - at) s))) × (last ≡ put_at to (item_shows v.digits v.entries i (mid_of at (next - at) s)) out)
          → Wrote v s before last k next place' seen'
      wrote {place'} {seen'} {k} {last} p q r =
          let d : List ℕ = item_shows v.digits v.entries i (mid_of at (next - at) s) in
          let rest : List ℕ = strip_from v (here (behind i) (counted i seen)) (drop next s) in
          record {
            inside = goes.path.inside;
            passed = rw r.0 (next_inside to d rest (strip v s) w.passed shows);
            rest = ap (λ (n : ℕ). drop n (strip v s)) r.0 ∙ next_dropped to d rest (strip v s) shows ∙ rw (p, q);
            bytes =
                r.1
                ∙ ap (λ (l : List ℕ). put_at to d l) w.bytes
                ∙ put_behind to (take to (strip v s)) d before (length-take-le to (strip v s) w.passed)
                ∙ ap (λ (l : List ℕ). over l before) (sym (next_taken to d rest (strip v s) shows) ∙ ap (λ (n : ℕ). take n (strip v s)) (sym r.0));
          }

      -- The same to where the reader then stands.
      pub wrote_past : (reader : Reader) {after : Reader} {k : ℕ} {last : List ℕ} → reader.seen ≡ seen → after ≡ past reader i next
          → (k ≡ to + length (item_shows v.digits v.entries i (mid_of at (next - at) s))) × (last ≡ put_at to (item_shows v.digits v.entries i (mid_of at (next - at) s)) out)
          → Wrote v s before last k after.at after.place after.seen
      wrote_past reader q p r = rw p (wrote refl (ap (counted i) q) r)

    pub unfit : {p : ℕ} → t ≡ token.Unfit p → (to ≡ length (strip v s)) × (out ≡ over (strip v s) before)
    unfit {p} f =
        let g : Fails true s at place seen p = token_tells s at place seen (token.Unfit p) w.inside (sym f ∙ e) in
        let h : strip_from v (here place seen) (drop at s) ≡ [] = path_strip g.path v ∙ ap₂ (λ (x y : List ℕ). x ++ y) (g.hidden refl v) (stuck_strip s p g.spot seen g.stuck v) in
        let r = puts_last [] out h (put_none to out) in
        (omega (arith, r.0), r.1)

    last : t ≡ token.Ends → strip_from v (here place seen) (drop at s) ≡ 0x0D ∷ []
    last f =
        let g : Last s at place = token_tells s at place seen token.Ends w.inside (sym f ∙ e) in
        ap (strip_from v (here place seen)) (drop_next s at g.inside)
        ∙ rw (g.block, g.kind, told (get_or s at 0) kind.End g.kind, done_strip v (drop (at + 1) s))

    pub end_fits : t ≡ token.Ends → length (strip v s) ≤ length before → to < length out
    end_fits f g = omega (arith, kept g, next_inside to (0x0D ∷ []) [] (strip v s) w.passed (w.rest ∙ last f), g)

    pub ended : t ≡ token.Ends → length (strip v s) ≤ length before → (to + 1 ≡ length (strip v s)) × (set out to 0x0D ≡ over (strip v s) before)
    ended f g = puts_last (0x0D ∷ []) (set out to 0x0D) (last f) (put_one to 0x0D out (end_fits f g))
