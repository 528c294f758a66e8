-- `printer::print::print` meets its contract: the test is the rule's; behind it all strips are written and all jets count.
use mathlib.Core.Path.{refl, sym, ◌∙◌}
use native.Mathlib.Omega.{arith}
use Rattle.printer.specs.State.{printer_of}
use Rattle.printer.specs.Print.{print}
use Rattle.printer.specs.Receive.{obeyed}
use Rattle.printer.proofs.Said.{one_byte, meets_refusal, meets_printed}
use Rattle.printer.proofs.print.print.Goals as goal

pub returns-then-not-is_ready : goal.returns-then-not-is_ready
unfolding obeyed print
returns-then-not-is_ready c =
    rw
    (sym c.is_ready.ensures ∙ c.if-not-is_ready.true)
    (meets_refusal (printer_of c.args.state.now) c.args.state.now c.args.out.now (λ z. omega arith) (one_byte _ c.args.answer.now (omega arith)) c.settle.ensures)

pub returns : goal.returns
unfolding obeyed print
returns c =
    rw
    (sym c.is_ready.ensures ∙ c.if-not-is_ready.false)
    (meets_printed (print (printer_of c.args.state.now)) c.args.state.now refl (omega arith) c.settle-2.ensures c.count_jets.ensures c.print_strips-lengths.ensures.0 c.print_strips-lengths.ensures.1)
