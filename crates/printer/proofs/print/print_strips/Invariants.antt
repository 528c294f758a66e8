-- `printer::print::print_strips` meets its contract: after n jets their strips lie one behind the other in the buffer, their lengths are noted, and there is room for the strips of the others.
use Rattle.printer.specs.State.{printer_of}
use Rattle.printer.specs.Print.{strips}
use Rattle.printer.proofs.Prints.{Printed}
use Rattle.printer.proofs.print.print_strips.Given as goal

abbrev pub invariant-loop-n : goal.invariant-loop-n
invariant-loop-n l = Printed (strips (printer_of l.state)) l.initial.out l.out l.lengths l.behind l.n
