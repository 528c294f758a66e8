-- `printer::print::count_jets` meets its contract: after n jets the bytes of those have counted, and all behind them are as they were.
use Rattle.printer.proofs.Prints.{Counted}
use Rattle.printer.proofs.print.count_jets.Given as goal

abbrev pub invariant-loop-n : goal.invariant-loop-n
invariant-loop-n l = Counted l.initial.state l.state l.n
