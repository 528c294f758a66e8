-- `content::position::field_positions` meets its contract. The loop keeps that the count so far and the field positions left make up the
-- content's; each run adds its bytes or none. The measure is what is left of the length.
use Prim.Native.Nat.{◌+◌, ◌-◌, ◌≤◌}
use mathlib.Core.Path.{◌≡◌}
use lib.ListN.{length, drop}
use Rattle.content.specs.Position.{field_positions, field_positions_from}
use Rattle.content.proofs.Tokens.{here}
use Rattle.content.proofs.position.field_positions.Given as goal

abbrev pub invariant-loop-run : goal.invariant-loop-run
invariant-loop-run l =
    (l.count ≤ l.reader.at)
    × (l.reader.at ≤ length l.s)
    × (l.count + field_positions_from (here l.reader.place l.reader.seen) (drop l.reader.at l.s) ≡ field_positions l.s)

abbrev pub decreases-loop-run : goal.decreases-loop-run
decreases-loop-run l = length l.s - l.reader.at
