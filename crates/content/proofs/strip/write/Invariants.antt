-- `content::strip::write` meets its contract. The loop keeps that the strip's first bytes lie over the buffer's front and those behind them
-- are the strip of what is left, so that each turn has room for what it puts. The measure is what is left of the length.
use Prim.Native.Nat.{◌-◌}
use lib.ListN.{length}
use Rattle.content.proofs.Puts.{Wrote}
use Rattle.content.proofs.strip.write.Given as goal

abbrev pub invariant-loop-item : goal.invariant-loop-item
invariant-loop-item l =
    Wrote l.fn.values l.s l.initial.out l.out l.to l.reader.at l.reader.place l.reader.seen

abbrev pub decreases-loop-item : goal.decreases-loop-item
decreases-loop-item l = length l.s - l.reader.at
