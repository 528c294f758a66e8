-- `printer::state::put_fresh` meets its contract: a state of zeros with a type and a moment is a fresh printer.
use Prim.Native.Nat.{ℕ}
use mathlib.Core.Path.{◌≡◌, ◌∙◌, ap}
use lib.ListN.{replicate}
use Rattle.printer.specs.State.{bytes_of, state_size}
use Rattle.printer.proofs.Memory.{zeros_fresh}
use Rattle.printer.proofs.state.put_fresh.Goals as goal

pub returns : goal.returns
returns c =
    let zeros : c.fill.new.self ≡ replicate state_size 0 = c.fill.ensures.after (λ y e. e) ∙ ap (λ (n : ℕ). replicate n 0) c.requires in
    c.put_clock.ensures ∙ ap bytes_of (zeros_fresh c.args.model c.args.clock zeros)
