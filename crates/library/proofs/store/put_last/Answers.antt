-- `library::store::put_last` meets its contract: the head, the body behind it, and zeros behind that.
use Prim.Native.Nat.{ℕ, ◌+◌, ◌-◌, ◌≤◌}
use mathlib.Core.List.{List, ◌++◌, append_assoc}
use mathlib.Core.Path.{◌≡◌, refl, ◌∙◌, ap}
use native.Mathlib.Omega.{arith}
use Rattle.std.proofs.Common.{rules}
use borrow.Rule.Slice.PartMut.{put_mid}
use lib.ListN.{length, take, drop, replicate, length-append}
use lib.Seq.{length-take-le}
use Rattle.std.proofs.lemmas.Grind.{common_steps}
use Rattle.std.proofs.lemmas.Slice.{take-put_mid}
use Rattle.frame.proofs.Ground.{lent_tail, tail_back}
use Rattle.library.specs.Record.{head, head_size}
use Rattle.library.specs.Store.{store_size}
use Rattle.library.proofs.store.put_last.Goals as goal

-- Three parts stored one behind the other, the last up to the end.
parts : (s h b z xs ys : List ℕ) (at from end j k : ℕ)
    → from ≡ at + length h → end ≡ from + length b → end ≤ length s → xs ≡ put_mid at j s h → ys ≡ put_mid from k xs b
    → put_mid end (length ys - end) ys z ≡ take at s ++ ((h ++ b) ++ z)
parts s h b z xs ys at from end j k e f g p q =
    let rest : List ℕ = drop j (drop at s) in
    let all : length xs ≡ length (take at s) + length (h ++ rest) = ap length p ∙ length-append (take at s) (h ++ rest) in
    tail_back end ys z
    ∙ ap (λ (m : List ℕ). m ++ z)
    (ap (take end) q
    ∙ take-put_mid from k xs b end f (omega (arith, length-append h rest, length-take-le at s (omega arith)))
    ∙ ap (λ (m : List ℕ). m ++ b) (ap (take from) p ∙ take-put_mid at j s h from e (omega arith))
    ∙ append_assoc (take at s) h b)
    ∙ append_assoc (take at s) (h ++ b) z

pub returns : goal.returns
returns c =
    let a = c.args in
    let size : ℕ = length a.body.now in
    let zeros : List ℕ = replicate (store_size - (a.at + (head_size + size))) 0 in
    let h : c.copy_from_slice.new.self ≡ head a.n size = grind (arith, common_steps) in
    let b : c.copy_from_slice-2.new.self ≡ a.body.now = search rules in
    let z : c.fill.new.self ≡ zeros = grind (arith, common_steps, lent_tail) in
    rw (h, b, z) record {
      bytes = parts a.store.now (head a.n size) a.body.now zeros _ _ a.at (a.at + head_size) (a.at + head_size + size) _ _ refl refl (omega arith) refl refl;
    }
