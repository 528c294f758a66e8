-- `printer::request::ask_counter` meets its contract: its test is the rule's, and the frame holds the text of the jet's counter.
use mathlib.Core.Path.{◌≡◌, sym, ◌∙◌, ap}
use native.Mathlib.Omega.{arith}
use borrow.Author.Rules.{rules}
use lib.ListN.{length}
use Rattle.frame.specs.Build.{frame}
use Rattle.printer.specs.Counter.{counter_text}
use Rattle.printer.proofs.Orders.{end, holds, answer_told}
use Rattle.printer.proofs.request.ask_counter.Goals as goal

pub returns : goal.returns
returns c =
    let size : length c.text.result ≡ 12 = search rules in
    answer_told c.answer.ensures (holds (sym c.if-not-has_parameters.ensures) end)
    (ap (frame 0x39) (sym (c.text.ensures ∙ ap counter_text c.counter.ensures))) (omega (arith, size)) c.requires
