-- `library::store::body` meets its contract. The loop keeps that the body looked for is the one that the records from its place on have.
use Prim.Native.Nat.{◌-◌, ◌≤◌}
use mathlib.Core.Path.{◌≡◌}
use lib.ListN.{length, drop}
use Rattle.library.specs.Record.{records}
use Rattle.library.specs.Store.{body_of}
use Rattle.library.proofs.store.body.Given as goal

abbrev pub invariant-loop-found : goal.invariant-loop-found
invariant-loop-found l = (l.at ≤ length l.store) × (body_of l.n (records l.store) ≡ body_of l.n (records (drop l.at l.store)))

abbrev pub decreases-loop-found : goal.decreases-loop-found
decreases-loop-found l = length l.store - l.at
