-- `printer::change::set_both` meets its contract: its tests are the rule's in the rule's order, and behind them the jet takes parameters and message.
use mathlib.Core.Path.{refl, ◌∙◌}
use borrow.Author.Rules.{rules}
use Rattle.frame.proofs.Ground.{lent_tail}
use Rattle.printer.proofs.Valid.{content_short}
use Rattle.printer.proofs.Orders.{content_given, end, handed_up, here, past, holds, jet_refused, jet_becomes, one_passed, one_refused}
use Rattle.printer.proofs.change.set_both.Goals as goal

pub returns-in_err-test : goal.returns-in_err-test
returns-in_err-test c =
    let h = one_refused _ (content_given (rw lent_tail at c.test.ensures)) c.in_err-test.was in
    jet_refused (handed_up c.from_residual.result c.in_err-test.field-0.0 c.from_residual.ensures.1 ∙ h.1) (past (search rules) (here h.0))

pub put_both-requires : goal.put_both-requires
put_both-requires c = (
  search rules,
  search rules,
  search rules,
  rw lent_tail (content_short _ (one_passed _ (content_given (rw lent_tail at c.test.ensures)) c.in_ok-test.was refl)),
)

pub returns : goal.returns
returns c =
    let h = one_passed _ (content_given (rw lent_tail at c.test.ensures)) c.in_ok-test.was refl in
    jet_becomes refl (holds (search rules) (holds h end)) (rw lent_tail at c.put_both.ensures)
