-- `printer::counter::batch_bytes` meets its contract: the last three of the four bytes of the number.
use Prim.Native.Nat.{ℕ}
use mathlib.Core.List.{List, [], ◌∷◌}
use mathlib.Core.Path.{◌∙◌, ap}
use lib.ListN.{get_or}
use Rattle.printer.proofs.Numbers.{be_bytes}
use Rattle.printer.proofs.counter.batch_bytes.Goals as goal

pub returns : goal.returns
returns c =
    ap (λ (l : List ℕ). get_or l 1 0 ∷ get_or l 2 0 ∷ get_or l 3 0 ∷ []) (c.to_be_bytes.ensures ∙ be_bytes c.args.batch)
