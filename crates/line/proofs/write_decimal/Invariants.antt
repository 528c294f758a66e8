-- `line::write_decimal` meets its contract. The loop keeps that the digits from place i on stand already, and those of `left` belong before it.
use Rattle.line.proofs.Laws.{Partly}
use Rattle.line.proofs.write_decimal.Given as goal

abbrev pub invariant-loop-i : goal.invariant-loop-i
invariant-loop-i l = Partly l.n l.left l.i l.initial.out l.out
