-- `line::write_line` meets its contract. A line that doesn't fit is refused before the first store; else what is given, the space, what `write_hex` leaves behind them and the newline are the line laid over the buffer's front.
use Prim.Native.Nat.{◌+◌, ◌*◌}
use native.Mathlib.Omega.{arith}
use lib.ListN.{length}
use Rattle.line.proofs.Laws.{too_short, written}
use Rattle.line.proofs.write_line.Goals as goal

pub returns-then-out-n : goal.returns-then-out-n
returns-then-out-n c = too_short c.args.out.now c.args.given c.args.answer.now (omega arith) (omega arith)

pub returns-then-out-size : goal.returns-then-out-size
returns-then-out-size c = too_short c.args.out.now c.args.given c.args.answer.now (omega arith) (omega arith)

pub returns : goal.returns
returns c =
    let a = c.args in
    let d = c.write_given-at in
    written a.out.now a.given d.result (c.given_width-width.result + 2 * length a.answer.now + 2) a.answer.now d.new.out c.write_hex.new.out
    (omega arith) d.ensures.0 (omega arith) (omega arith) d.ensures.1 c.write_hex.ensures
