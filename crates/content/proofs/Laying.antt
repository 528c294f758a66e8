-- A text laid over marks in a row: over structure nothing changes, and over field positions the text is laid as far as it goes.
use Prim.Native.Nat.{ℕ, zero, suc, ◌+◌, ◌-◌, ◌≤◌, min}
use mathlib.Core.Bool.{Bool, true, false}
use mathlib.Core.List.{List, [], ◌∷◌, ◌++◌, append_assoc, append-nil}
use mathlib.Core.Path.{◌≡◌, refl, sym, ◌∙◌, ap, ap₂}
use native.Mathlib.Omega.{arith}
use borrow.Author.Tests.{le-leb}
use lib.ListN.{length, take, drop, replicate, length-append, length-drop, length-take, take-append-drop}
use lib.Seq.{take-nil, drop-nil, drop-drop, length-take-le, take-add, take_at, drop_at}
use borrow.Rule.Slice.PartMut.{mid_of, put_mid}
use Rattle.frame.specs.Build.{Lays}
use Rattle.frame.specs.Ground.{pick, over}
use Rattle.frame.proofs.Ground.{length_over}
use Rattle.std.proofs.lemmas.List.{take_min, drop_min}
use Rattle.content.specs.Machine.{Mode, start, step}
use Rattle.content.specs.Position.{Stretch, is_field_position, mark_of, marks}
use Rattle.content.specs.Update.{laid}
use Rattle.content.specs.declared.item.Place.{Place}
use Rattle.content.specs.declared.item.Place.TheVariants.{Content}
use Rattle.content.specs.declared.item.Seen.{Seen}
use Rattle.content.specs.declared.position.Mark.{Mark}
use Rattle.content.specs.declared.position.Mark.TheVariants.{Structure}
use Rattle.content.proofs.Tokens.{here}

-- ---- The front of a text over a part of a content.
abbrev filled : ℕ → List ℕ → List ℕ → List ℕ
filled n text part = over (take n text) part

front_short : (n : ℕ) (text : List ℕ) → length (take n text) ≤ n
front_short n text = simp length-take (omega arith)

filled_length : (n : ℕ) (text part : List ℕ) → length part ≡ n → length (filled n text part) ≡ n
filled_length n text part e = length_over (take n text) part (omega (arith, front_short n text)) ∙ e

-- What `lay` leaves there.
filled_by : {n : ℕ} (text : List ℕ) {part front after : List ℕ} {r : Bool} → length part ≡ n → front ≡ take n text → Lays part front r after → after ≡ filled n text part
filled_by {n} text {part} {front} e p q =
    q.buffer
    ∙ ap (λ (t : Bool). over (pick t front []) part) (le-leb (length front) (length part) (omega (arith, ap length p, front_short n text)))
    ∙ ap (λ (l : List ℕ). over l part) p

-- ---- A text laid by marks.
abbrev lay : List ℕ → List Mark → List ℕ → List ℕ
lay [] ms s = s
lay (c ∷ text) ms [] = []
lay (c ∷ text) [] (b ∷ s) = b ∷ s
lay (c ∷ text) (k ∷ ms) (b ∷ s) = pick (is_field_position k) (c ∷ lay text ms s) (b ∷ lay (c ∷ text) ms s)

laid_by_marks : (text : List ℕ) (m : Mode) (s : List ℕ) → laid text m s ≡ lay text (marks m s) s
laid_by_marks [] m s = refl
laid_by_marks (c ∷ text) m [] = refl
laid_by_marks (c ∷ text) m (b ∷ s) = ap₂ (λ (x y : List ℕ). pick (is_field_position (mark_of m b)) (c ∷ x) (b ∷ y)) (laid_by_marks text (step m b) s) (laid_by_marks (c ∷ text) (step m b) s)

lay_nothing : (text : List ℕ) → lay text [] [] ≡ []
lay_nothing [] = refl
lay_nothing (c ∷ text) = refl

lay_kept : (text : List ℕ) (n : ℕ) (k : Mark) (ms : List Mark) (p q : List ℕ) → is_field_position k ≡ false → length p ≡ n → lay text (replicate n k ++ ms) (p ++ q) ≡ p ++ lay text ms q
lay_kept [] n k ms p q e h = refl
lay_kept (c ∷ text) zero k ms [] q e h = refl
lay_kept (c ∷ text) zero k ms (b ∷ p) q e h = absurd (omega arith)
lay_kept (c ∷ text) (suc n) k ms [] q e h = absurd (omega arith)
lay_kept (c ∷ text) (suc n) k ms (b ∷ p) q e h = rw e (ap (◌∷◌ b) (lay_kept (c ∷ text) n k ms p q e (omega arith)))

lay_filled : (text : List ℕ) (n : ℕ) (k : Mark) (ms : List Mark) (p q : List ℕ) → is_field_position k ≡ true → length p ≡ n → lay text (replicate n k ++ ms) (p ++ q) ≡ filled n text p ++ lay (drop n text) ms q
lay_filled [] n k ms p q e h = rw (take-nil, drop-nil)
lay_filled (c ∷ text) zero k ms [] q e h = refl
lay_filled (c ∷ text) zero k ms (b ∷ p) q e h = absurd (omega arith)
lay_filled (c ∷ text) (suc n) k ms [] q e h = absurd (omega arith)
lay_filled (c ∷ text) (suc n) k ms (b ∷ p) q e h = rw e (ap (◌∷◌ c) (lay_filled text n k ms p q e (omega arith)))

-- What is left from a place on, in three parts: up to a run, the run, and behind it.
parts : (s : List ℕ) (at from to : ℕ) → at ≤ from → from ≤ to → drop at s ≡ take (from - at) (drop at s) ++ (take (to - from) (drop from s) ++ drop to s)
parts s at from to h g =
    let e : at + (from - at) ≡ from = omega arith in
    let f : from + (to - from) ≡ to = omega arith in
    sym (take-append-drop (from - at) (drop at s))
    ∙ ap (λ (l : List ℕ). take (from - at) (drop at s) ++ l)
    (drop-drop (from - at) at s ∙ ap (λ (n : ℕ). drop n s) e ∙ sym (take-append-drop (to - from) (drop from s)) ∙ ap (λ (l : List ℕ). take (to - from) (drop from s) ++ l) (drop-drop (to - from) from s ∙ ap (λ (n : ℕ). drop n s) f))

part_length : (s : List ℕ) (from to : ℕ) → from ≤ to → to ≤ length s → length (take (to - from) (drop from s)) ≡ to - from
part_length s from to h g = length-take-le (to - from) (drop from s) (simp length-drop (omega arith))

front_then : (s : List ℕ) (at from : ℕ) → at ≤ from → take at s ++ take (from - at) (drop at s) ≡ take from s
front_then s at from h =
    let e : at + (from - at) ≡ from = omega arith in
    sym (take-add at (from - at) s) ∙ ap (λ (n : ℕ). take n s) e

module _ {s : List ℕ} {at : ℕ} {place : Place} {seen : Seen} {k : Mark} {from to : ℕ} {place' : Place} {seen' : Seen} (r : Stretch s at place seen k from to place' seen') (text : List ℕ) where
  laid_stretch : (x text' : List ℕ) → lay text (replicate (to - from) k ++ marks (here place' seen') (drop to s)) (take (to - from) (drop from s) ++ drop to s) ≡ x ++ lay text' (marks (here place' seen') (drop to s)) (drop to s)
      → laid text (here place seen) (drop at s) ≡ take (from - at) (drop at s) ++ (x ++ laid text' (here place' seen') (drop to s))
  laid_stretch x text' e =
      let h = r.ahead in
      let g : from ≤ to = omega (arith, r.some) in
      laid_by_marks text (here place seen) (drop at s)
      ∙ ap₂ (λ (m : List Mark) (l : List ℕ). lay text m l) r.same (parts s at from to h g)
      ∙ lay_kept text (from - at) Structure (replicate (to - from) k ++ marks (here place' seen') (drop to s)) (take (from - at) (drop at s)) (take (to - from) (drop from s) ++ drop to s) refl
      (part_length s at from h (omega (arith, r.some, r.inside)))
      ∙ ap (λ (l : List ℕ). take (from - at) (drop at s) ++ l) (e ∙ ap (λ (l : List ℕ). x ++ l) (sym (laid_by_marks text' (here place' seen') (drop to s))))

  pub laid_over : is_field_position k ≡ false → take to s ++ laid text (here place' seen') (drop to s) ≡ take at s ++ laid text (here place seen) (drop at s)
  laid_over e =
      let g : from ≤ to = omega (arith, r.some) in
      let q : List ℕ = take (to - from) (drop from s) in
      let z : List ℕ = laid text (here place' seen') (drop to s) in
      sym (ap (λ (l : List ℕ). take at s ++ l) (laid_stretch q text (lay_kept text (to - from) k (marks (here place' seen') (drop to s)) q (drop to s) e (part_length s from to g r.inside)))
      ∙ sym (append_assoc (take at s) (take (from - at) (drop at s)) (q ++ z))
      ∙ ap (λ (l : List ℕ). l ++ (q ++ z)) (front_then s at from r.ahead)
      ∙ sym (append_assoc (take from s) q z)
      ∙ ap (λ (l : List ℕ). l ++ z) (front_then s from to g))

  -- The content with the run filled: up to its end, and behind it.
  abbrev run : List ℕ
  run = take (to - from) (drop from s)

  abbrev put : List ℕ
  put = filled (to - from) text run

  module _ {s' : List ℕ} (f : s' ≡ put_mid from (to - from) s put) where
    run_long : length run ≡ to - from
    run_long = part_length s from to (omega (arith, r.some)) r.inside

    up_to : length (take from s ++ put) ≡ to
    up_to = length-append (take from s) put ∙ omega (arith, r.some, length-take-le from s (omega (arith, r.some, r.inside)), filled_length (to - from) text run run_long)

    whole : s' ≡ (take from s ++ put) ++ drop to s
    whole =
        let u : from + (to - from) ≡ to = omega (arith, r.some) in
        f ∙ ap (λ (l : List ℕ). take from s ++ (put ++ l)) (drop-drop (to - from) from s ∙ ap (λ (n : ℕ). drop n s) u) ∙ sym (append_assoc (take from s) put (drop to s))

    behind : drop to s' ≡ drop to s
    behind = ap (drop to) whole ∙ drop_at (take from s ++ put) (drop to s) to up_to

    pub length_kept : length s' ≡ length s
    length_kept = ap length whole ∙ length-append (take from s ++ put) (drop to s) ∙ omega (arith, up_to, length-drop to s, r.inside)

    pub laid_into : is_field_position k ≡ true → take to s' ++ laid (drop (to - from) text) (here place' seen') (drop to s') ≡ take at s ++ laid text (here place seen) (drop at s)
    laid_into e =
        let z : List ℕ = laid (drop (to - from) text) (here place' seen') (drop to s) in
        ap₂ (λ (p q : List ℕ). p ++ laid (drop (to - from) text) (here place' seen') q) (ap (take to) whole ∙ take_at (take from s ++ put) (drop to s) to up_to) behind
        ∙ append_assoc (take from s) put z
        ∙ sym (ap (λ (l : List ℕ). take at s ++ l) (laid_stretch put (drop (to - from) text) (lay_filled text (to - from) k (marks (here place' seen') (drop to s)) run (drop to s) e run_long))
        ∙ sym (append_assoc (take at s) (take (from - at) (drop at s)) (put ++ z))
        ∙ ap (λ (l : List ℕ). l ++ (put ++ z)) (front_then s at from r.ahead))

-- ---- The way of `lay_text`: the bytes passed, with the text left laid over the bytes left, are the whole text laid over the whole content.
pub record LaidTo (before text s : List ℕ) (left : List ℕ) (at : ℕ) (place : Place) (seen : Seen) : Type 0 where
  pub inside : at ≤ length s
  pub long : length s ≡ length before
  pub bytes : take at s ++ laid left (here place seen) (drop at s) ≡ laid text start before

pub not_laid : (before text : List ℕ) → LaidTo before text before text 0 Content (record { lines = 0; fields = 0 })
not_laid before text = record { inside = omega arith; long = refl; bytes = refl }

module _ {before text s left : List ℕ} {at : ℕ} {place : Place} {seen : Seen} (l : LaidTo before text s left at place seen) where
  module _ {k : Mark} {from to : ℕ} {place' : Place} {seen' : Seen} {t : Bool} (r : Stretch s at place seen k from to place' seen') (e : t ≡ is_field_position k) where
    pub laid_past : t ≡ false → LaidTo before text s left to place' seen'
    laid_past f = record { inside = r.inside; long = l.long; bytes = laid_over r left (sym e ∙ f) ∙ l.bytes }

    pub laid_on : {front part' s' left' : List ℕ} {fits : Bool} → t ≡ true → front ≡ take (to - from) left → left' ≡ drop (to - from) left
        → Lays (mid_of from (to - from) s) front fits part' → s' ≡ put_mid from (to - from) s part' → LaidTo before text s' left' to place' seen'
    laid_on {s' = s'} f p d q w =
        let n : length (mid_of from (to - from) s) ≡ to - from = part_length s from to (omega (arith, r.some)) r.inside in
        let whole = w ∙ ap (λ (x : List ℕ). put_mid from (to - from) s x) (filled_by left n p q) in
        record {
          inside = omega (arith, length_kept r left whole, r.inside);
          long = length_kept r left whole ∙ l.long;
          bytes = ap (λ (x : List ℕ). take to s' ++ laid x (here place' seen') (drop to s')) d ∙ laid_into r left whole (sym e ∙ f) ∙ l.bytes;
        }

  pub laid_all : marks (here place seen) (drop at s) ≡ replicate (length s - at) Structure → s ≡ laid text start before
  laid_all e =
      let rest : laid left (here place seen) (drop at s) ≡ drop at s =
      laid_by_marks left (here place seen) (drop at s)
      ∙ ap₂ (λ (m : List Mark) (x : List ℕ). lay left m x) (e ∙ sym (append-nil (replicate (length s - at) Structure))) (sym (append-nil (drop at s)))
      ∙ lay_kept left (length s - at) Structure [] (drop at s) [] refl (length-drop at s)
      ∙ ap (λ (x : List ℕ). drop at s ++ x) (lay_nothing left)
      ∙ append-nil (drop at s) in
      sym (sym l.bytes ∙ ap (λ (x : List ℕ). take at s ++ x) rest ∙ take-append-drop at s)

-- What is taken of a text where there is less of it, and what is left of it then.
pub taken : (n : ℕ) (text : List ℕ) {m : ℕ} → m ≡ min n (length text) → (take m text ≡ take n text) × (drop m text ≡ drop n text)
taken n text e = rw e (take_min n text, drop_min n text)
