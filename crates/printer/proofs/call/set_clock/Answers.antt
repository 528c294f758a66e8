-- `printer::call::set_clock` meets its contract: at each return the tests that led there are the rule's, and the bytes stay until both are passed.
use mathlib.Core.Path.{refl, sym, ◌∙◌}
use Rattle.printer.specs.Call.{set_clock}
use Rattle.printer.proofs.Valid.{valid_size}
use Rattle.printer.proofs.Orders.{end, handed_up, here, holds, obeyed, one_passed, one_refused, past, refused}
use Rattle.printer.proofs.call.set_clock.Goals as goal

pub returns-in_err-valid : goal.returns-in_err-valid
unfolding set_clock
returns-in_err-valid c =
    let h = one_refused _ c.valid.ensures c.in_err-valid.was in
    refused (handed_up c.from_residual.result c.in_err-valid.field-0.0 c.from_residual.ensures.1 ∙ h.1) (here h.0)

pub returns-then-not-is_real : goal.returns-then-not-is_real
unfolding set_clock
returns-then-not-is_real c = refused refl (past (one_passed _ c.valid.ensures c.in_ok-valid.was refl) (here (sym c.if-not-is_real.ensures)))

pub put_clock-requires : goal.put_clock-requires
put_clock-requires c = valid_size _ (one_passed _ c.valid.ensures c.in_ok-valid.was refl)

pub returns : goal.returns
unfolding set_clock
returns c = obeyed refl (holds (one_passed _ c.valid.ensures c.in_ok-valid.was refl) (holds (sym c.if-not-is_real.ensures) end)) c.put_clock.ensures
