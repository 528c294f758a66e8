-- `printer::call::put_first` meets its contract: the moment is the rule's.
use mathlib.Core.Path.{◌∙◌}
use Rattle.printer.proofs.call.put_first.Goals as goal

pub returns : goal.returns
returns c =
    c.put_fresh.ensures ∙ rw (c.moment.ensures, c.date_of.ensures)
