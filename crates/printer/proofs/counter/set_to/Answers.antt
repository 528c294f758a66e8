-- `printer::counter::set_to` meets its contract. The settings stand in front, the flag behind them, and then the count from the start.
use mathlib.Core.Path.{◌∙◌}
use Rattle.printer.proofs.Counters.{said_by, set_bytes}
use Rattle.printer.proofs.counter.set_to.Goals as goal

pub returns : goal.returns
returns c =
    rw c.copy_from_slice.ensures.after at c.put_count.ensures
    ∙ set_bytes c.args.c.now c.requires.0 c.args.q.now c.requires.1 (said_by c.read.ensures c.unwrap.ensures).initial
