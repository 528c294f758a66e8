-- A buffer whose part behind the bytes laid so far is lent to a callee that lays more bytes over the front of it.
use Prim.Native.Nat.{ℕ, ◌+◌, ◌-◌, ◌≤◌}
use mathlib.Core.List.{List, ◌++◌}
use mathlib.Core.Path.{◌≡◌}
use native.Mathlib.Omega.{arith}
use borrow.Rule.Slice.PartMut.{mid_of, put_mid}
use lib.ListN.{length, length-append, length-drop}
use Rattle.frame.specs.Ground.{over}
use Rattle.frame.proofs.Ground.{length_over, lent_tail, left_behind}

-- w, of a bytes, is laid over the front of a buffer that has room for it.
pub record Laid (a : ℕ) (w before after : List ℕ) : Type 0 where
  pub count : length w ≡ a
  pub inside : a ≤ length before
  pub same : after ≡ over w before

pub laid_length : {a : ℕ} {w before after : List ℕ} → Laid a w before after → length after ≡ length before
laid_length {a} {w} {before} l = rw l.same (length_over w before (omega (arith, l.count, l.inside)))

-- The part that is lent.
pub lent_room : (a n : ℕ) (xs : List ℕ) → a + n ≤ length xs → n ≤ length (mid_of a (length xs - a) xs)
lent_room a n xs h = rw lent_tail (simp length-drop (omega arith))

-- What the callee leaves in the whole.
pub laid_more : {a : ℕ} {w before after : List ℕ} (n : ℕ) (more last : List ℕ) → Laid a w before after → length more ≡ n → a + n ≤ length before
    → last ≡ over more (mid_of a (length after - a) after) → Laid (a + n) (w ++ more) before (put_mid a (length after - a) after last)
laid_more {a} {w} {before} {after} n more last l e h q =
    record {
      count = simp length-append (omega (arith, l.count, e));
      inside = h;
      same = left_behind a w more before last after l.count l.inside l.same q;
    }
