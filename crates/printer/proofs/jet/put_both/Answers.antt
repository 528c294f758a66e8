-- `printer::jet::put_both` meets its contract: other parameters leave the message that was put before them.
use mathlib.Core.Path.{◌∙◌}
use Rattle.printer.proofs.Jets.{both_left}
use Rattle.printer.proofs.jet.put_both.Goals as goal

pub returns : goal.returns
returns c =
    both_left c.args.jet.now c.requires.0 c.slice_known-1.given c.args.message.now c.args.q.now c.requires.3
    c.put_message.ensures
    (c.put_message.auto.jet ∙ c.requires.0)
    c.slice_known-2-1.given
    c.put_parameters.ensures
