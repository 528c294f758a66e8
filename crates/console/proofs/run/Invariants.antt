-- `console::run` meets its contract: the loop keeps that its place was walked to and that state and store are those behind the walk's calls.
use Prim.Native.Nat.{◌≤◌, ◌-◌}
use lib.ListN.{length}
use Rattle.console.proofs.Laws.{At}
use Rattle.console.proofs.run.Given as goal

abbrev pub invariant-loop-at : goal.invariant-loop-at
invariant-loop-at l =
    (l.at ≤ length l.s) × At l.s l.state l.store l.at

abbrev pub decreases-loop-at : goal.decreases-loop-at
decreases-loop-at l = length l.s - l.at
