-- `printer::change::change_order` meets its contract: 8 where the jet is not on the printer, and else what becomes of the jet's part.
use Prim.Native.Nat.{ℕ, ◌≤◌}
use native.Mathlib.Omega.{arith}
use borrow.Author.Rules.{rules}
use Rattle.printer.specs.Order.{jet_number}
use Rattle.printer.specs.Change.{least_data}
use Rattle.printer.specs.declared.change.Change.{Change}
use Rattle.printer.specs.declared.change.Change.TheVariants.{Message, Parameters, Both, Characters}
use Rattle.printer.proofs.Valid.{valid_size}
use Rattle.printer.proofs.Part.{Stands, on_there, part_inside, part_size, part_jet, part_short, part_obeys, stands}
use Rattle.printer.proofs.change.change_order.Goals as goal

-- Each change has its jet number.
at_least : (what : Change) {n : ℕ} → least_data what ≤ n → 1 ≤ n
at_least Message h = omega arith
at_least Parameters h = omega arith
at_least Both h = omega arith
at_least Characters h = omega arith

pub place_in-requires : goal.place_in-requires
place_in-requires c = at_least c.args.what c.requires.1

pub slice_bounds-change_jet-end : goal.slice_bounds-change_jet-end
slice_bounds-change_jet-end c = part_inside (stands c.place_in.ensures c.ok_or.ensures.value c.in_ok-at.was (valid_size _ c.requires.0) (search rules))

pub change_jet-requires : goal.change_jet-requires
change_jet-requires c =
    let j = stands c.place_in.ensures c.ok_or.ensures.value c.in_ok-at.was (valid_size _ c.requires.0) (search rules) in (part_size j, part_short j c.requires.0, c.requires.1)

pub returns : goal.returns
returns c =
    let j : Stands c.args.state.now (jet_number c.args.d.now) c.in_ok-at.at =
    stands c.place_in.ensures c.ok_or.ensures.value c.in_ok-at.was (valid_size _ c.requires.0) (search rules) in
    part_obeys c.args.state.now c.args.d.now j (on_there c.place_in.ensures c.ok_or.ensures.value c.in_ok-at.was) (rw (part_jet j) at c.change_jet.ensures)
