-- `library::store::others` meets its contract. The loop keeps that the count so far, and what the records from its place on take that are of
-- other numbers, make up the whole.
use Prim.Native.Nat.{◌+◌, ◌-◌, ◌≤◌}
use mathlib.Core.Path.{◌≡◌}
use lib.ListN.{length}
use Rattle.library.specs.Record.{records, written}
use Rattle.library.specs.Store.{without}
use Rattle.library.proofs.Walks.{left}
use Rattle.library.proofs.store.others.Given as goal

abbrev pub invariant-loop-found : goal.invariant-loop-found
invariant-loop-found l = (l.size ≤ l.at) × (l.at ≤ length l.store) × (length (written (without l.n (records l.store))) ≡ l.size + left l.n l.store l.at)

abbrev pub decreases-loop-found : goal.decreases-loop-found
decreases-loop-found l = length l.store - l.at
