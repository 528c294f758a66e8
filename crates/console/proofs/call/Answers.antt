-- `console::call` meets its contract: what `receive` says is the answer lies over the front of the answer buffer, and every line has its room.
use mathlib.Core.Path.{sym}
use borrow.Author.Rules.{rules}
use lib.Seq.{length-take-le}
use Rattle.console.proofs.Laws.{met, answer_inside, turns}
use Rattle.console.proofs.call.Goals as goal

pub slice_bounds-write_line-end : goal.slice_bounds-write_line-end
slice_bounds-write_line-end c =
    sym (length-take-le _ _ (answer_inside c.receive-done.ensures.fulfils.meets))

pub returns : goal.returns
returns c =
    turns (met c.receive-done.ensures (search rules) (search rules)) c.requires (rw c.from.ensures at c.write_line-size.ensures) (search rules)
