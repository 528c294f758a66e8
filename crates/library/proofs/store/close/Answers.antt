use Prim.Native.Nat.{ℕ, ◌+◌, ◌-◌, ◌≤◌}
use mathlib.Core.List.{List, ◌++◌, append_assoc, append-nil}
use mathlib.Core.Path.{◌≡◌, refl, sym, ◌∙◌, ap}
use native.Mathlib.Omega.{arith}
use lib.ListN.{length, take, drop, length-drop}
use lib.Seq.{drop-drop, drop-paste, length-paste, length-take-le, take-add, take-paste}
use Rattle.std.specs.List.{copy_within}
use Rattle.library.specs.Record.{Record, record_bytes, records, step_at, written}
use Rattle.library.specs.Store.{Closes, without}
use Rattle.library.specs.declared.record.Found.{Found}
use Rattle.std.proofs.Common.{Some}
use Rattle.library.proofs.Walks.{Walked, Ended, ended, found, others_here, others_past, same_step, walked}
use Rattle.library.proofs.store.close.Invariants.{Closing}
use Rattle.library.proofs.store.close.Goals as goal
use Rattle.library.proofs.store.close.Goals.{then-to-at, else-to-at}

-- Bytes that are the same from a place on are the same from each later one.
same_later : (s t : List ℕ) (at end : ℕ) → at ≤ end → drop at s ≡ drop at t → drop end s ≡ drop end t
same_later s t at end h e =
    let k : at + (end - at) ≡ end = omega arith in
    ap (λ (n : ℕ). drop n s) (sym k) ∙ sym (drop-drop (end - at) at s) ∙ ap (drop (end - at)) e ∙ drop-drop (end - at) at t
    ∙ ap (λ (n : ℕ). drop n t) k

-- What `record_at` finds there it finds in the store as it was.
walks : {s : List ℕ} {n : ℕ} {now : List ℕ} {at to : ℕ} {f : Found} → Closing s n now at to → Some f ≡ step_at now at → Walked s at f.number f.end
walks {s} {n} {now} {at} p e = walked s at (same_step now s at p.same e)

module _ {s : List ℕ} {n : ℕ} {now : List ℕ} {at to m end : ℕ} (p : Closing s n now at to) (w : Walked s at m end) where
  behind : drop end now ≡ drop end s
  behind = same_later now s at end (omega (arith, w.ahead)) p.same

  taken_out : m ≡ n → Closing s n now end to
  taken_out e =
      record {
        bytes = p.bytes;
        size = p.size;
        below = omega (arith, p.below, w.ahead);
        inside = w.inside;
        same = behind;
        kept = p.kept ∙ ap (λ (l : List Record). take to now ++ written l) (others_here n w e);
      }

  -- A record that stays stands at the lower place then, and all behind it is as it was.
  stays : (after : List ℕ) → (m ≡ n → ⊥)
      → length after ≡ length now → take (to + (end - at)) after ≡ take to now ++ take (end - at) (drop at now) → drop end after ≡ drop end now
      → Closing s n after end (to + (end - at))
  stays after e size front back =
      let one : record_bytes (found s at m end) ≡ take (end - at) (drop at now) = w.bytes p.bytes ∙ ap (take (end - at)) (sym p.same) in
      let more : List ℕ = written (without n (records (drop end s))) in
      record {
        bytes = p.bytes;
        size = size ∙ p.size;
        below = omega (arith, p.below, w.ahead);
        inside = w.inside;
        same = back ∙ behind;
        kept =
            p.kept
            ∙ ap (λ (l : List Record). take to now ++ written l) (others_past n w e)
            ∙ sym (append_assoc (take to now) (record_bytes (found s at m end)) more)
            ∙ ap (λ (l : List ℕ). (take to now ++ l) ++ more) one
            ∙ ap (λ (l : List ℕ). l ++ more) (sym front);
      }

  moves : (m ≡ n → ⊥) → Closing s n (copy_within now at end to) end (to + (end - at))
  moves e =
      let count : ℕ = end - at in
      let enough : count ≤ length (drop at now) = simp length-drop (omega (arith, p.size, w.inside)) in
      let fits : to + count ≤ length now = omega (arith, p.size, p.below, w.ahead, w.inside) in
      stays (copy_within now at end to) e (length-paste now to (drop at now) count fits enough) (take-paste now to (drop at now) count (omega arith) enough)
      (same_later (copy_within now at end to) now (to + count) end (omega (arith, p.below, w.ahead)) (drop-paste now to (drop at now) count (omega arith) enough))

  lies : (m ≡ n → ⊥) → at ≤ to → Closing s n now end (to + (end - at))
  lies e h =
      let here : to ≡ at = omega (arith, p.below) in
      stays now e refl (take-add to (end - at) now ∙ ap (λ (k : ℕ). take to now ++ take (end - at) (drop k now)) here) refl

closes : {s : List ℕ} {n : ℕ} {now : List ℕ} {at to : ℕ} → Closing s n now at to → Ended s at → Closes s n now
closes {s} {n} {now} {at} {to} p d =
    let all : written (without n (records s)) ≡ take to now =
    p.kept ∙ ap (λ (l : List Record). take to now ++ written (without n l)) d.none ∙ append-nil (take to now) in
    let long : length (written (without n (records s))) ≡ to = ap length all ∙ length-take-le to now (omega (arith, p.size, p.below, p.inside)) in
    record { size = p.size; others = ap (λ (k : ℕ). take k now) long ∙ sym all }

pub loop-found-preserved-after-to-at : goal.loop-found-preserved-after-to-at
loop-found-preserved-after-to-at c =
    let p = c.loop-found.invariant in
    let w = walks p c.in-Some.ensures in
    elim c.if-to-at.branch [
      | then-to-at v ↦ rw (v.store-is, v.copy_within.ensures.after) (moves p w c.if-found-n.true)
      | else-to-at v ↦ rw v.store-is (lies p w c.if-found-n.true (omega arith))
    ]

pub loop-found-preserved : goal.loop-found-preserved
loop-found-preserved c = let p = c.loop-found.invariant in taken_out p (walks p c.in-Some.ensures) c.if-found-n.false

pub returns : goal.returns
returns c =
    let p = c.loop-found.invariant in closes p (ended c.args.store.now c.loop-found.at (same_step c.loop-found.store c.args.store.now c.loop-found.at p.same c.in_default.ensures))
