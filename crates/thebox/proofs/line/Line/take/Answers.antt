-- `thebox::line::Line::take` meets its contract: where nothing came, time alone has passed.
use borrow.Author.Rules.{rules}
use Rattle.thebox.proofs.Laws.{takes_none}
use Rattle.thebox.proofs.line.Line.take.Goals as goal

pub returns-then-is_empty : goal.returns-then-is_empty
returns-then-is_empty c = takes_none c.args.s.now c.pass.ensures.line (search rules)
