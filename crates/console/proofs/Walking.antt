-- Why bytes have one walk that is ended: of two walks one leads on to the other, and from an ended one none leads on.
use Prim.Native.Nat.{ℕ, ◌<◌}
use mathlib.Core.List.{List}
use mathlib.Core.Logic.{◌⊎◌, inl, inr}
use mathlib.Core.Path.{◌≡◌, refl, sym}
use native.Mathlib.Omega.{arith}
use lib.ListN.{length}
use Rattle.console.specs.Console.{Stand, first_stand, next, onward, Walks, begins, goes_on, Ended}
use Rattle.console.specs.Unique.{WalksUnique}

-- A walk leads on to another, call by call.
data Leads (s : List ℕ) (to : Stand) : Stand → Type 0 where
  there : Leads s to to
  on : (w : Stand) → w.place < length s → ((next s w).number ≡ 3 → ⊥) → Leads s to (onward s w) → Leads s to w

one_more : {s : List ℕ} {to w : Stand} → to.place < length s → ((next s to).number ≡ 3 → ⊥) → Leads s to w → Leads s (onward s to) w
one_more {to = to} h z there = on to h z there
one_more h z (on w g v l) = on w g v (one_more h z l)

from_start : {s : List ℕ} {w : Stand} → Walks s w → Leads s w first_stand
from_start begins = there
from_start (goes_on w v h z) = one_more h z (from_start v)

-- Of two walks from one stand, one leads on to the other.
compared : {s : List ℕ} {u v w : Stand} → Leads s u w → Leads s v w → Leads s v u ⊎ Leads s u v
compared there m = inl m
compared (on w h z l) there = inr (on w h z l)
compared (on w h z l) (on _ g v m) = compared l m

-- From an ended walk none leads on.
ended_there : {s : List ℕ} {u w : Stand} → Ended s w → Leads s u w → w ≡ u
ended_there e there = refl
ended_there (inl e) (on w h z l) = absurd (omega arith)
ended_there (inr e) (on w h z l) = absurd (z e)

pub walks_unique : WalksUnique
walks_unique s w w' v e v' e' = go (compared (from_start v) (from_start v'))
  where
    go : Leads s w' w ⊎ Leads s w w' → w ≡ w'
    go (inl l) = ended_there e l
    go (inr l) = sym (ended_there e' l)
