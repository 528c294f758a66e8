-- `printer::state::StateBytes::date_change` meets its contract: the two bytes behind the moment are the time of day.
use mathlib.Core.Path.{sym, ◌∙◌}
use lib.Seq.{get_or-drop}
use Rattle.printer.specs.State.{printer_of}
use Rattle.printer.proofs.state.StateBytes.date_change.Goals as goal

pub returns : goal.returns
unfolding printer_of
returns c = c.time_of_day.ensures ∙ sym (simp get_or-drop)
