-- `printer::state::StateBytes::are_jets_valid` meets its contract: the test of the rule, asked of each of the four jets.
use Prim.Native.Nat.{ℕ}
use mathlib.Core.Path.{refl, ◌∙◌}
use borrow.Author.Rules.{rules}
use Rattle.std.proofs.Common.{tests}
use Rattle.std.proofs.lemmas.Iterator.{YieldsList-from_range}
use Rattle.std.proofs.lemmas.Iterator.Search.{all_from_yields_List}
use Rattle.printer.specs.Jet.{Jet, has_jet, valid_jet}
use Rattle.printer.specs.State.{jet_at, printer_of}
use Rattle.printer.proofs.Memory.{four_asked}
use Rattle.printer.proofs.state.StateBytes.are_jets_valid.Goals as goal

pub returns : goal.returns
unfolding printer_of
returns c =
    let p = printer_of c.args.self.bytes.now in
    all_from_yields_List (λ (n : ℕ). valid_jet (has_jet p.model n) (jet_at p n)) _ _ c.all.result c.all.ensures.ran (YieldsList-from_range 1 5 4 refl refl)
    (λ x b q k. search (rules, tests))
    ∙ four_asked (λ (n : ℕ) (j : Jet). valid_jet (has_jet p.model n) j) c.args.self.bytes.now
