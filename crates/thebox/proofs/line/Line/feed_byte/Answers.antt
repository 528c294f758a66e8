-- `thebox::line::Line::feed_byte` meets its contract: answer and strips lie inside their buffers.
use native.Mathlib.Omega.{arith}
use Rattle.thebox.proofs.Laws.{strips_inside}
use Rattle.thebox.proofs.line.Line.feed_byte.Goals as goal

pub printed-requires : goal.printed-requires
printed-requires c = omega (arith, strips_inside c.serve-served.ensures)

pub write-requires-clause-strips : goal.write-requires-clause-strips
write-requires-clause-strips c =
    omega (arith, strips_inside c.serve-served.ensures, c.printed.ensures)
