-- `content::edit::strayed` meets its contract. The loop keeps that the symbols before a place have landed: a run takes as many more as it
-- has positions, and structure where one has to land is what it looks for. The measure is what is left of the length.
use Prim.Native.Nat.{◌-◌}
use lib.ListN.{length}
use Rattle.content.proofs.Stretches.{Landing}
use Rattle.content.proofs.edit.strayed.Given as goal

abbrev pub invariant-loop-run : goal.invariant-loop-run
invariant-loop-run l = Landing l.s l.address l.symbols l.end l.from l.reader.at l.reader.place l.reader.seen

abbrev pub decreases-loop-run : goal.decreases-loop-run
decreases-loop-run l = length l.s - l.reader.at
