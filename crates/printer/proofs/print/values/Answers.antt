-- `printer::print::values` meets its contract: the digits are those of the jet's counter.
use Prim.Native.Nat.{ℕ}
use mathlib.Core.List.{List}
use mathlib.Core.Path.{◌∙◌, ap}
use Rattle.printer.specs.Counter.{Counter}
use Rattle.printer.specs.Number.{digits}
use Rattle.printer.proofs.print.values.Goals as goal

pub returns : goal.returns
returns c =
    ap (λ (l : List ℕ). record { digits = l; entries = c.args.entries })
    (c.digits.ensures ∙ ap digits c.value.ensures ∙ ap (λ (k : Counter). digits k.value) c.counter.ensures)
