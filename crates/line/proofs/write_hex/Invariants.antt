-- `line::write_hex` meets its contract. The loop keeps that the first i bytes stand in hex over the buffer's front; at its end that is all of them.
use mathlib.Core.Path.{◌≡◌}
use lib.ListN.{take}
use Rattle.frame.specs.Ground.{over}
use Rattle.line.specs.Line.{hex}
use Rattle.line.proofs.write_hex.Given as goal

abbrev pub invariant-loop-i : goal.invariant-loop-i
invariant-loop-i l = l.out ≡ over (hex (take l.i l.bytes)) l.initial.out
