-- `printer::counter::put_count` meets its contract. Seven bytes are written behind the flag, up to the end.
use mathlib.Core.Path.{◌≡◌, refl, ◌∙◌}
use Rattle.printer.specs.Number.{in_bytes}
use Rattle.printer.proofs.Counters.{figures_put}
use Rattle.printer.proofs.Numbers.{be_bytes}
use Rattle.printer.proofs.counter.put_count.Goals as goal

pub returns : goal.returns
returns c =
    let a = c.args in
    let value : c.copy_from_slice.new.self ≡ in_bytes 4 a.value = c.copy_from_slice.ensures.after ∙ c.to_be_bytes.ensures ∙ be_bytes a.value in
    rw (value, c.copy_from_slice-2.ensures.after ∙ c.batch_bytes.ensures) (figures_put a.c.now c.requires (in_bytes 4 a.value) (in_bytes 3 a.batch) refl refl)
