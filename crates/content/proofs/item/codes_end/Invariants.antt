-- `content::item::codes_end` meets its contract. The invariant: the codes in a row from here on end where those from the first place on
-- end.
use mathlib.Core.Path.{◌≡◌}
use Rattle.content.specs.Item.{codes_end}
use Rattle.content.proofs.item.codes_end.Given as goal

abbrev pub invariant-loop-i : goal.invariant-loop-i
invariant-loop-i l = codes_end l.s l.at ≡ codes_end l.s l.i
