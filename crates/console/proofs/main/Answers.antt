-- `console::main` meets its contract: the state that `start` leaves and an empty store are what `run` wants.
use mathlib.Core.Path.{refl}
use Rattle.console.proofs.main.Goals as goal

pub run-requires : goal.run-requires
run-requires c =
    (c.start.ensures.state refl, refl)
