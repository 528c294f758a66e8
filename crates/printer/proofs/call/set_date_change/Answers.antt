-- `printer::call::set_date_change` meets its contract: at each return the tests that led there are the rule's, and the bytes stay until both are passed.
use mathlib.Core.Path.{refl, sym, ◌∙◌}
use borrow.Author.Rules.{rules}
use Rattle.printer.specs.Call.{set_date_change}
use Rattle.printer.proofs.Memory.{date_change_put}
use Rattle.printer.proofs.Valid.{valid_size}
use Rattle.printer.proofs.Orders.{end, handed_up, here, holds, obeyed, one_passed, one_refused, past, refused}
use Rattle.printer.proofs.call.set_date_change.Goals as goal

pub returns-in_err-valid : goal.returns-in_err-valid
unfolding set_date_change
returns-in_err-valid c =
    let h = one_refused _ c.valid.ensures c.in_err-valid.was in
    refused (handed_up c.from_residual.result c.in_err-valid.field-0.0 c.from_residual.ensures.1 ∙ h.1) (here h.0)

pub returns-then-not-is_time : goal.returns-then-not-is_time
unfolding set_date_change
returns-then-not-is_time c = refused refl (past (one_passed _ c.valid.ensures c.in_ok-valid.was refl) (here (sym c.if-not-is_time.ensures)))

pub put_date_change-requires : goal.put_date_change-requires
put_date_change-requires c = valid_size _ (one_passed _ c.valid.ensures c.in_ok-valid.was refl)

pub returns : goal.returns
unfolding set_date_change
returns c =
    let v = one_passed _ c.valid.ensures c.in_ok-valid.was refl in
    obeyed refl (holds v (holds (sym c.if-not-is_time.ensures) end))
    (c.put_date_change.ensures ∙ date_change_put c.args.state.now c.args.time (valid_size _ v) (search rules))
