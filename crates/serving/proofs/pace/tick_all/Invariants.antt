-- `serving::pace::tick_all` meets its contract: the state is that behind the ticks that were made.
use mathlib.Core.Path.{◌≡◌}
use Rattle.serving.specs.Pace.{ticked}
use Rattle.serving.proofs.pace.tick_all.Given as goal

abbrev pub invariant-loop : goal.invariant-loop
invariant-loop l = l.state ≡ ticked l.counter l.initial.state
