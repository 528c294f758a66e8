-- `printer::state::StateBytes::clock` meets its contract: the six bytes behind the type are the moment.
use mathlib.Core.Path.{sym}
use lib.Seq.{get_or-drop}
use Rattle.printer.specs.State.{printer_of}
use Rattle.printer.proofs.state.StateBytes.clock.Goals as goal

pub returns : goal.returns
unfolding printer_of
returns c = rw (c.moment.ensures, c.date_of.ensures) (sym (simp get_or-drop))
