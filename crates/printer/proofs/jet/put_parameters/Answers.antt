-- `printer::jet::put_parameters` meets its contract: the general bytes go to their place, and the counter counts from the start of its settings.
use borrow.Author.Rules.{rules}
use mathlib.Core.Path.{sym, ◌∙◌, ap}
use native.Mathlib.Omega.{arith}
use lib.ListN.{length-drop, length-take}
use lib.Seq.{length-take-le}
use Rattle.frame.proofs.Ground.{lent_tail}
use Rattle.printer.specs.Counter.{good_settings}
use Rattle.printer.specs.Jet.{good_parameters}
use Rattle.printer.proofs.Jets.{parameters_left}
use Rattle.printer.proofs.jet.put_parameters.Goals as goal

pub slice_bounds-copy_from_slice-end-2 : goal.slice_bounds-copy_from_slice-end-2
slice_bounds-copy_from_slice-end-2 c =
    sym (length-take-le 11 c.args.q.now (omega arith))

pub copy_from_slice-requires : goal.copy_from_slice-requires
copy_from_slice-requires c = simp (length-take, length-drop) (omega arith)

pub set_to-requires : goal.set_to-requires
unfolding good_parameters
set_to-requires c =
    (search rules, rw lent_tail (simp length-drop (omega arith)), ap good_settings (lent_tail 11 c.args.q.now) ∙ c.requires.2)

pub returns : goal.returns
returns c =
    parameters_left c.args.jet.now c.requires.0 c.slice_known-1.given c.args.q.now c.requires.1
    c.copy_from_slice.ensures.after
    c.set_to.ensures
