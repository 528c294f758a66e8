-- `serving::hold::serve` meets its contract: what is held goes on, or all is dropped.
use Rattle.serving.proofs.Laws.{drops}
use Rattle.serving.proofs.hold.serve.Goals as goal

pub returns-in-Dropping : goal.returns-in-Dropping
returns-in-Dropping c =
    let a = c.args in
    drops a.state.now a.store.now a.buffer.now a.answer.now a.strips.now a.byte c.in-Dropping.is c.uncalled.ensures
