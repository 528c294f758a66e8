-- A walk over the records of a store by `record_at`: what is known where it found a record, and where it found none. A loop keeps what the
-- records from its place on give, `at ≤ length s` and `f (records s) ≡ f (records (drop at s))`, and passes one record at each turn; what is
-- left of the length falls.
use Prim.Native.Nat.{ℕ, ◌+◌, ◌-◌, ◌≤◌, ◌<◌}
use mathlib.Core.Bool.{true}
use mathlib.Core.List.{List, [], ◌∷◌}
use Rattle.std.proofs.Common.{Option, Some, None}
use mathlib.Core.Path.{◌≡◌, sym, ◌∙◌, ap, ap₂}
use native.Mathlib.Omega.{arith}
use borrow.Author.Tests.{eq-eqb, ne_eqb}
use lib.ListN.{length, get_or, take, drop, length-append, length-drop}
use lib.Seq.{drop-drop, length-take-le, take_all}
use Rattle.frame.specs.Ground.{pick}
use Rattle.frame.specs.Wire.{word}
use Rattle.library.specs.Record.{Record, begins, body_size, head_size, record_bytes, record_size, records, rest, step_at, written}
use Rattle.library.specs.Store.{body_of, without}
use Rattle.library.specs.StoreLaws.{AllBytes}
use Rattle.library.specs.declared.record.Found.{Found}
use Rattle.library.proofs.Records.{Begins, begins_tells, by_test, bytes_drop, front_bytes, none_left, not_begins, tells_begins, turned}

-- The record that lies from a place of a store up to its end.
abbrev pub body_at : List ℕ → ℕ → ℕ → List ℕ
body_at s at end = take (end - (at + head_size)) (drop (at + head_size) s)

abbrev pub found : List ℕ → ℕ → ℕ → ℕ → Record
found s at n end = record { number = n; body = body_at s at end }

-- A record stands at the place, goes up to its end, and is the first of those that stand from the place on; of bytes it is written just as
-- it stands there.
pub record Walked (s : List ℕ) (at n end : ℕ) : Type 0 where
  pub ahead : at + head_size ≤ end
  pub inside : end ≤ length s
  pub first : records (drop at s) ≡ found s at n end ∷ records (drop end s)
  pub behind : rest (drop at s) ≡ rest (drop end s)
  pub bytes : AllBytes s → record_bytes (found s at n end) ≡ take (end - at) (drop at s)

-- No record stands at the place, and nothing from it on belongs to one.
pub record Ended (s : List ℕ) (at : ℕ) : Type 0 where
  pub none : records (drop at s) ≡ []
  pub left : rest (drop at s) ≡ drop at s

-- ---- What stands at a place.
here : (s : List ℕ) (at : ℕ) → begins (drop at s) ≡ true → Walked s at (get_or (drop at s) 2 0) (at + record_size (drop at s))
here s at e =
    let t : List ℕ = drop at s in
    let b = begins_tells t e in
    let u = turned t e in
    let body : take (body_size t) (drop head_size t) ≡ body_at s at (at + record_size t) =
    ap₂ (λ (m : ℕ) (l : List ℕ). take m l) (behind_head at (body_size t)) (drop-drop head_size at s) in
    record {
      ahead = omega arith;
      inside = omega (arith, b.inside, length-drop at s);
      first =
          u.first
          ∙ ap₂ (λ (l m : List ℕ). record { number = get_or t 2 0; body = l } ∷ records m) body (drop-drop (record_size t) at s);
      behind = u.behind ∙ ap rest (drop-drop (record_size t) at s);
      bytes =
          λ f. ap (λ (l : List ℕ). record_bytes (record { number = get_or t 2 0; body = l })) (sym body)
          ∙ front_bytes t e (bytes_drop at s f)
          ∙ ap (λ (m : ℕ). take m t) (behind_place at (record_size t));
    }
  where
    behind_head : (at k : ℕ) → k ≡ at + (head_size + k) - (at + head_size)
    behind_head at k = omega arith

    behind_place : (at k : ℕ) → k ≡ at + k - at
    behind_place at k = omega arith

pub walked : (s : List ℕ) (at : ℕ) {f : Found} → Some f ≡ step_at s at → Walked s at f.number f.end
walked s at {f} p =
    by_test (begins (drop at s))
    (λ e.
    let there : Some f ≡ Some (record { number = get_or (drop at s) 2 0; end = at + record_size (drop at s) }) = p ∙ rw e in
    let same : f ≡ record { number = get_or (drop at s) 2 0; end = at + record_size (drop at s) } = cc in
    rw same (here s at e))
    (λ e. let none : Some f ≡ None = p ∙ rw e in (cc))

-- In numbers: a record goes on behind its head, and ends inside.
pub ahead : (s : List ℕ) (at : ℕ) (f : Found) → Some f ≡ step_at s at → at + head_size ≤ f.end
ahead s at f p = (walked s at p).ahead

pub inside : (s : List ℕ) (at : ℕ) (f : Found) → Some f ≡ step_at s at → f.end ≤ length s
inside s at f p = (walked s at p).inside

pub ended : (s : List ℕ) (at : ℕ) → None ≡ step_at s at → Ended s at
ended s at p =
    by_test (begins (drop at s))
    (λ e. let some : None ≡ Some (record { number = get_or (drop at s) 2 0; end = at + record_size (drop at s) }) = p ∙ rw e in (cc))
    (λ e. let none = none_left (drop at s) e in record { none = none.0; left = none.1 })

-- Bytes that are the same from a place on have the same standing there.
pub same_step : (s t : List ℕ) (at : ℕ) {r : Option Found} → drop at s ≡ drop at t → r ≡ step_at s at → r ≡ step_at t at
same_step s t at e p =
    p
    ∙ ap (λ (l : List ℕ). pick (begins l) (Some (record { number = get_or l 2 0; end = at + record_size l })) None) e

pub body_length : {s : List ℕ} {at n end : ℕ} → Walked s at n end → length (body_at s at end) ≡ end - (at + head_size)
body_length {s} {at} {n} {end} w = length-take-le (end - (at + head_size)) (drop (at + head_size) s) (simp length-drop (omega (arith, w.inside)))

pub found_length : {s : List ℕ} {at n end : ℕ} → Walked s at n end → length (record_bytes (found s at n end)) ≡ end - at
found_length w = omega (arith, body_length w, w.ahead)

-- ---- What a turn makes of the rules: a body that is looked for, and the records of all other numbers.
pub body_here : (s : List ℕ) (at : ℕ) (f : Found) (n : ℕ) → Some f ≡ step_at s at → f.number ≡ n → body_of n (records (drop at s)) ≡ body_at s at f.end
body_here s at f n p e = ap (body_of n) (walked s at p).first ∙ rw (eq-eqb f.number n e)

pub body_past : (s : List ℕ) (at : ℕ) (f : Found) (n : ℕ) → Some f ≡ step_at s at → (f.number ≡ n → ⊥)
    → body_of n (records (drop at s)) ≡ body_of n (records (drop f.end s))
body_past s at f n p e = ap (body_of n) (walked s at p).first ∙ rw (ne_eqb f.number n e)

pub body_none : (s : List ℕ) (at n : ℕ) → None ≡ step_at s at → body_of n (records (drop at s)) ≡ []
body_none s at n p = ap (body_of n) (ended s at p).none

module _ {s : List ℕ} {at m end : ℕ} (n : ℕ) where
  pub others_here : Walked s at m end → m ≡ n → without n (records (drop at s)) ≡ without n (records (drop end s))
  others_here w e = ap (without n) w.first ∙ rw (eq-eqb m n e)

  pub others_past : Walked s at m end → (m ≡ n → ⊥) → without n (records (drop at s)) ≡ found s at m end ∷ without n (records (drop end s))
  others_past w e = ap (without n) w.first ∙ rw (ne_eqb m n e)

-- How many bytes the records from a place on take that are of other numbers.
abbrev pub left : ℕ → List ℕ → ℕ → ℕ
left n s at = length (written (without n (records (drop at s))))

pub left_here : (s : List ℕ) (at : ℕ) (f : Found) (n : ℕ) → Some f ≡ step_at s at → f.number ≡ n → left n s at ≡ left n s f.end
left_here s at f n p e = ap (λ (rs : List Record). length (written rs)) (others_here n (walked s at p) e)

pub left_past : (s : List ℕ) (at : ℕ) (f : Found) (n : ℕ) → Some f ≡ step_at s at → (f.number ≡ n → ⊥) → left n s at ≡ f.end - at + left n s f.end
left_past s at f n p e =
    ap (λ (rs : List Record). length (written rs)) (others_past n (walked s at p) e)
    ∙ length-append (record_bytes (found s at f.number f.end)) (written (without n (records (drop f.end s))))
    ∙ ap (λ (k : ℕ). k + left n s f.end) (found_length (walked s at p))

pub left_none : (s : List ℕ) (at n : ℕ) → None ≡ step_at s at → left n s at ≡ 0
left_none s at n p = ap (λ (rs : List Record). length (written (without n rs))) (ended s at p).none

-- ---- The tests of `record_at`, on the bytes from its place on.
module _ (s : List ℕ) (at : ℕ) where
  ends : (Begins (drop at s) → ⊥) → None ≡ step_at s at
  ends n = rw (not_begins (drop at s) n)

  pub ends_short : length s < at + head_size → None ≡ step_at s at
  ends_short h = ends (λ b. omega (arith, b.inside, length-drop at s))

  pub ends_mark : (get_or (drop at s) 0 0 ≡ 0x4C → ⊥) → None ≡ step_at s at
  ends_mark n = ends (λ b. n b.mark)

  -- Of the bytes as `get` hands them out.
  pub ends_second : (t : List ℕ) → t ≡ take (length s - at) (drop at s) → (get_or t 1 0 ≡ 0x52 → ⊥) → None ≡ step_at s at
  ends_second t from n =
      let rest : t ≡ drop at s = from ∙ take_all (length s - at) (drop at s) (simp length-drop (omega arith)) in
      ends (λ b. n (ap (λ (l : List ℕ). get_or l 1 0) rest ∙ b.second))

  pub ends_long : length s < at + (head_size + word (get_or (drop at s) 3 0) (get_or (drop at s) 4 0)) → None ≡ step_at s at
  ends_long h = ends (λ b. omega (arith, b.inside, length-drop at s))

  pub reads : (t : List ℕ) (k : ℕ) → t ≡ drop at s → k ≡ word (get_or t 3 0) (get_or t 4 0) → get_or t 0 0 ≡ 0x4C → get_or t 1 0 ≡ 0x52
      → head_size + k ≤ length t → Some (record { number = get_or t 2 0; end = at + head_size + k }) ≡ step_at s at
  reads t k from e p q h =
      rw (sym from, tells_begins t record { mark = p; second = q; inside = omega arith })
      (ap (λ (end : ℕ). Some (record { number = get_or t 2 0; end = end })) (omega arith))
