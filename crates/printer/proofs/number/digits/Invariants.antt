-- `printer::number::digits` meets its contract. The loop keeps that the digits so far are the number's, and that the power at hand was subtracted as often as its byte says. The measure is what is left of the number and of the powers.
use Prim.Native.Nat.{◌+◌, ◌-◌}
use Rattle.printer.proofs.Powers.{Reached}
use Rattle.printer.proofs.number.digits.Given as goal

abbrev pub invariant-loop-i : goal.invariant-loop-i
invariant-loop-i l = Reached l.n l.row l.left l.i

abbrev pub decreases-loop-i : goal.decreases-loop-i
decreases-loop-i l = l.left + (10 - l.i)
