-- `console::start` meets its contract, which is that of `fresh` at one type and one moment.
use Rattle.console.proofs.Laws.{starts}
use Rattle.console.proofs.start.Goals as goal

pub returns : goal.returns
returns c = starts _ _ _ c.fresh.ensures
