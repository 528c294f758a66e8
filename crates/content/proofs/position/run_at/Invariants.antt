-- `content::position::run_at` meets its contract. The loop keeps that all was structure so far; the first token that is not is what is
-- looked for, and where there is none all is structure. The measure is what is left of the length.
use Prim.Native.Nat.{◌-◌}
use lib.ListN.{length}
use Rattle.content.proofs.Stretches.{Walks}
use Rattle.content.proofs.position.run_at.Given as goal

abbrev pub invariant-loop-item : goal.invariant-loop-item
invariant-loop-item l = Walks l.s l.initial.reader l.reader

abbrev pub decreases-loop-item : goal.decreases-loop-item
decreases-loop-item l = length l.s - l.reader.at
