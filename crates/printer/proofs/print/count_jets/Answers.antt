use Prim.Native.Nat.{◌+◌, ◌*◌}
use mathlib.Core.Path.{◌∙◌, ap}
use native.Mathlib.Omega.{arith}
use Rattle.frame.proofs.Lent.{laid_length}
use Rattle.printer.specs.Counter.{valid_counter}
use Rattle.printer.specs.Jet.{Jet, has_jet, jet_size}
use Rattle.printer.specs.State.{jet_at, jets_place, printer_of}
use Rattle.printer.proofs.Memory.{part_full}
use Rattle.printer.proofs.Prints.{counted_none, counted_jet_at, counted_more, counted_all}
use Rattle.printer.proofs.Valid.{valid_size, valid_printer, valid_at, jet_counter}
use Rattle.printer.proofs.print.count_jets.Goals as goal

pub loop-n-init : goal.loop-n-init
loop-n-init c = counted_none c.args.state.now (valid_size c.args.state.now c.requires) c.type_inv.state

pub slice_bounds-count_jet-end : goal.slice_bounds-count_jet-end
slice_bounds-count_jet-end c = omega (arith, laid_length c.loop-n.invariant.laid, valid_size c.args.state.now c.requires)

pub count_jet-requires : goal.count_jet-requires
count_jet-requires c =
    let l = c.loop-n in
    let p = printer_of c.args.state.now in (
      part_full l.state (jets_place + jet_size * l.n) (laid_length l.invariant.laid ∙ valid_size c.args.state.now c.requires) (omega arith),
      ap (λ (j : Jet). valid_counter j.counter) (counted_jet_at c.loop-n-test.true l.invariant) ∙ jet_counter
          (has_jet p.model (l.n + 1)) (jet_at p (l.n + 1)) (valid_at p (l.n + 1) (valid_printer c.args.state.now c.requires) (omega arith)),
    )

pub loop-n-preserved : goal.loop-n-preserved
loop-n-preserved c =
    let l = c.loop-n in
    let full = valid_size c.args.state.now c.requires in
    counted_more full c.loop-n-test.true l.invariant
    (c.count_jet.auto.jet ∙ part_full l.state (jets_place + jet_size * l.n) (laid_length l.invariant.laid ∙ full) (omega arith))
    c.count_jet.ensures

pub returns : goal.returns
returns c = counted_all (valid_size c.args.state.now c.requires) (omega arith) c.loop-n.invariant
