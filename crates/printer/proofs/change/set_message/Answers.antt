-- `printer::change::set_message` meets its contract: its test is the rule's, and behind it the jet takes the message.
use mathlib.Core.Path.{refl, ◌∙◌}
use borrow.Author.Rules.{rules}
use Rattle.frame.proofs.Ground.{lent_tail}
use Rattle.printer.proofs.Valid.{content_short}
use Rattle.printer.proofs.Orders.{content_given, end, handed_up, here, holds, jet_refused, jet_becomes, one_passed, one_refused}
use Rattle.printer.proofs.change.set_message.Goals as goal

pub returns-in_err-test : goal.returns-in_err-test
returns-in_err-test c =
    let h = one_refused _ (content_given (rw lent_tail at c.test.ensures)) c.in_err-test.was in
    jet_refused (handed_up c.from_residual.result c.in_err-test.field-0.0 c.from_residual.ensures.1 ∙ h.1) (here h.0)

pub put_message-requires : goal.put_message-requires
put_message-requires c =
    (search rules, rw lent_tail (content_short _ (one_passed _ (content_given (rw lent_tail at c.test.ensures)) c.in_ok-test.was refl)))

pub returns : goal.returns
returns c =
    let h = one_passed _ (content_given (rw lent_tail at c.test.ensures)) c.in_ok-test.was refl in
    jet_becomes refl (holds h end) (rw lent_tail at c.put_message.ensures)
