-- `content::item::characters_end` meets its contract. The invariant: the characters in a row from here on end where those from the first place on
-- end.
use mathlib.Core.Path.{◌≡◌}
use Rattle.content.specs.Item.{characters_end}
use Rattle.content.proofs.item.characters_end.Given as goal

abbrev pub invariant-loop-i : goal.invariant-loop-i
invariant-loop-i l = characters_end l.s l.at ≡ characters_end l.s l.i
