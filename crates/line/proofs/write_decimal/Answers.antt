use native.Mathlib.Omega.{arith}
use Prim.Native.Nat.{◌-◌}
use Rattle.line.proofs.Laws.{partly_next}
use Rattle.line.proofs.write_decimal.Goals as goal

pub loop-i-preserved : goal.loop-i-preserved
loop-i-preserved c = partly_next c.loop-i.invariant (c.loop-i.i - 1) (omega arith)
