use Prim.Native.Nat.{◌+◌, ◌*◌}
use native.Mathlib.Omega.{arith}
use Rattle.frame.proofs.Lent.{laid_length, lent_room}
use Rattle.printer.specs.Jet.{has_jet, jet_size}
use Rattle.printer.specs.State.{jet_at, jets_place, printer_of}
use Rattle.printer.proofs.Memory.{jet_lent}
use Rattle.printer.proofs.Prints.{printed_more, printed_all, strip_next, four_strips}
use Rattle.printer.proofs.Valid.{valid_size, valid_printer, valid_at, jet_short}
use Rattle.printer.proofs.print.print_strips.Goals as goal

pub slice_bounds-jet-end : goal.slice_bounds-jet-end
slice_bounds-jet-end c = omega (arith, valid_size c.args.state.now c.requires.0)

pub print_jet-k-requires : goal.print_jet-k-requires
print_jet-k-requires c =
    let l = c.loop-n in
    let m = c.args.state.now in
    let p = printer_of m in (
      rw (jet_lent m (l.n + 1) {at = jets_place + jet_size * l.n} (omega arith) (omega arith) (omega arith))
          (jet_short (has_jet p.model (l.n + 1)) (jet_at p (l.n + 1)) (valid_at p (l.n + 1) (valid_printer m c.requires.0) (omega arith))),
      lent_room l.behind 1536 l.out (omega (arith, laid_length l.invariant.laid, l.invariant.short)),
    )

pub loop-n-preserved : goal.loop-n-preserved
loop-n-preserved c =
    let l = c.loop-n in
    printed_more c.print_jet-k.result (four_strips c.args.state.now) c.requires.1
    c.loop-n-test.true l.invariant
    (strip_next c.args.state.now c.entries-entries.result c.loop-n-test.true (cc))
    c.print_jet-k.ensures.count c.print_jet-k.ensures.short c.print_jet-k.ensures.bytes

pub returns : goal.returns
returns c = printed_all (four_strips c.args.state.now) (omega arith) (omega arith) c.loop-n.invariant
