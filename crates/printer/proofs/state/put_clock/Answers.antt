-- `printer::state::put_clock` meets its contract: six bytes, and every jet as it was.
use Rattle.printer.proofs.Memory.{clock_put}
use Rattle.printer.proofs.state.put_clock.Goals as goal

pub returns : goal.returns
returns c = clock_put c.args.state.now c.args.clock c.requires c.slice_known-1.given c.copy_from_slice.ensures.after
