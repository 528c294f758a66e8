-- `content::update::lay_text` meets its contract. The loop keeps that the bytes passed, with the text left laid over the bytes left, are
-- the whole text laid over the whole content. The measure is what is left of the length.
use Prim.Native.Nat.{◌-◌}
use lib.ListN.{length}
use Rattle.content.proofs.Laying.{LaidTo}
use Rattle.content.proofs.update.lay_text.Given as goal

abbrev pub invariant-loop-run : goal.invariant-loop-run
invariant-loop-run l = LaidTo l.initial.s l.text l.s l.rest l.reader.at l.reader.place l.reader.seen

abbrev pub decreases-loop-run : goal.decreases-loop-run
decreases-loop-run l = length l.s - l.reader.at
