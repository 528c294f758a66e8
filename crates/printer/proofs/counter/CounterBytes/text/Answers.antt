-- `printer::counter::CounterBytes::text` meets its contract. The digits are those of the value, and the bytes those of the batch.
use mathlib.Core.Path.{◌∙◌, ap}
use Rattle.printer.specs.Number.{digits, in_bytes}
use Rattle.printer.specs.Counter.{counter_of}
use Rattle.printer.proofs.Counters.{text_put}
use Rattle.printer.proofs.counter.CounterBytes.text.Goals as goal

pub returns : goal.returns
returns c =
    text_put (counter_of c.args.self.bytes.now)
    (c.copy_from_slice.ensures.after ∙ c.digits.ensures ∙ ap digits c.value.ensures)
    (c.copy_from_slice-2.ensures.after ∙ c.batch_bytes.ensures ∙ ap (in_bytes 3) c.batch.ensures)
