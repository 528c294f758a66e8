-- `printer::change::place_in` meets its contract: a jet on the printer has a number from 1 to 4.
use mathlib.Core.Bool.{true}
use mathlib.Core.Path.{◌≡◌, sym, ◌∙◌, ap₂}
use Rattle.printer.specs.Jet.{has_jet}
use Rattle.printer.specs.State.{printer_of}
use Rattle.printer.specs.Order.{on_printer}
use Rattle.printer.proofs.Valid.{on_row}
use Rattle.printer.proofs.change.place_in.Goals as goal

pub jet_place-requires : goal.jet_place-requires
jet_place-requires c =
    let n = c.jet_number-n.ensures in
    let there : on_printer (printer_of c.args.state.bytes.now) c.args.d.now ≡ true =
    sym (c.has_jet.ensures ∙ ap₂ has_jet c.model.ensures n) ∙ c.if-not-has_jet.false in
    let row = on_row _ _ there in
    (rw n row.0, rw n row.1)
