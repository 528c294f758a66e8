-- `printer::jet::put_message` meets its contract: the two bytes of the length, then the message over the content; what stands behind it stays.
use mathlib.Core.Path.{◌∙◌}
use Rattle.printer.proofs.Jets.{laid_left}
use Rattle.printer.proofs.jet.put_message.Goals as goal

pub returns : goal.returns
returns c =
    laid_left c.args.jet.now c.requires.0 c.slice_known-1.given c.requires.1 (c.copy_from_slice.ensures.after ∙ c.to_be_bytes.ensures) c.copy_from_slice-2.ensures.after
