-- `printer::messages::good_bodies` meets its contract. The loop keeps that the bodies are all good exactly where those from its place on are.
use Prim.Native.Nat.{◌-◌, ◌≤◌}
use mathlib.Core.Path.{◌≡◌}
use lib.ListN.{length, drop}
use Rattle.library.specs.Record.{records}
use Rattle.printer.specs.Messages.{good_bodies}
use Rattle.printer.proofs.messages.good_bodies.Given as goal

abbrev pub invariant-loop-found : goal.invariant-loop-found
invariant-loop-found l = (l.at ≤ length l.store) × (good_bodies (records l.store) ≡ good_bodies (records (drop l.at l.store)))

abbrev pub decreases-loop-found : goal.decreases-loop-found
decreases-loop-found l = length l.store - l.at
