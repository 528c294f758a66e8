use native.Mathlib.Omega.{arith}
use Rattle.line.proofs.Laws.{hex_next}
use Rattle.line.proofs.write_hex.Goals as goal

pub loop-i-preserved : goal.loop-i-preserved
loop-i-preserved c =
    rw (c.hex_digit-in-loop-i.ensures, c.hex_digit.ensures, c.loop-i.invariant)
    (hex_next c.args.bytes.now c.args.out.now c.loop-i.i (omega arith) (omega arith))
