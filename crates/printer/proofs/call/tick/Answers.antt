-- `printer::call::tick` meets its contract: a state that is not valid stays, and in any other the clock becomes the next moment.
use mathlib.Core.Path.{refl, ◌∙◌, ap}
use Rattle.calendar.specs.Clock.{tick}
use Rattle.calendar.specs.declared.clock.Clock.{Clock}
use Rattle.printer.specs.Call.{tick_clock}
use Rattle.printer.specs.State.{bytes_of, printer_of, with_clock}
use Rattle.printer.proofs.Valid.{valid_size}
use Rattle.printer.proofs.Orders.{end, handed_up, here, holds, obeyed, one_passed, one_refused, refused}
use Rattle.printer.proofs.call.tick.Goals as goal

pub returns-in_err-valid : goal.returns-in_err-valid
unfolding tick_clock
returns-in_err-valid c =
    let h = one_refused _ c.valid.ensures c.in_err-valid.was in
    refused (handed_up c.from_residual.result c.in_err-valid.field-0.0 c.from_residual.ensures.1 ∙ h.1) (here h.0)

pub put_clock-requires : goal.put_clock-requires
put_clock-requires c = valid_size _ (one_passed _ c.valid.ensures c.in_ok-valid.was refl)

pub returns : goal.returns
unfolding tick_clock
returns c =
    obeyed refl (holds (one_passed _ c.valid.ensures c.in_ok-valid.was refl) end)
    (c.put_clock.ensures ∙ ap (λ (now : Clock). bytes_of (with_clock (printer_of c.args.state.now) now)) (c.tick.ensures ∙ ap tick c.clock-clock.ensures))
