use native.Mathlib.Omega.{arith}
use Rattle.thebox.proofs.Laws.{behind_more, fails}
use Rattle.thebox.proofs.line.Line.feed.Goals as goal

pub loop-byte-preserved : goal.loop-byte-preserved
loop-byte-preserved c =
    behind_more c.args.self.now c.args.s.now c.loop-byte.byte-index (omega arith) c.loop-byte.invariant c.feed_byte.ensures

pub returns-in_err-feed_byte : goal.returns-in_err-feed_byte
returns-in_err-feed_byte c =
    fails c.args.self.now c.args.s.now c.loop-byte.byte-index c.from_residual.result (omega arith)
    (behind_more c.args.self.now c.args.s.now c.loop-byte.byte-index (omega arith) c.loop-byte.invariant c.feed_byte.ensures)
    c.from_residual.ensures.0
