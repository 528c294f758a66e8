-- `printer::state::StateBytes::jet` meets its contract: the part that begins at the jet's place.
use Rattle.printer.proofs.Memory.{jet_lent}
use Rattle.printer.proofs.state.StateBytes.jet.Goals as goal

pub returns : goal.returns
returns c = jet_lent c.args.self.bytes.now c.args.n.0 c.jet_place-at.ensures.0 c.requires.0 c.requires.1
