-- `printer::counter::count` meets its contract. A counter that is not set stays; one that is set is valid, so its settings are read and it lies where it can count.
use mathlib.Core.Path.{sym, ◌∙◌, ap, ap₂}
use borrow.Author.Rules.{rules}
use lib.ListN.{take}
use Rattle.printer.specs.Counter.{counter_of, next_batch, next_value}
use Rattle.printer.proofs.Counters.{counted_bytes, said_by, uncounted, valid_tells}
use Rattle.printer.proofs.counter.count.Goals as goal

pub returns-then-not-is_set : goal.returns-then-not-is_set
returns-then-not-is_set c = uncounted c.args.c.now c.requires.0 (search rules) (sym c.is_set.ensures ∙ c.if-not-is_set.true)

pub unwrap-settings-requires : goal.unwrap-settings-requires
unfolding counter_of
unwrap-settings-requires c =
    c.read.ensures.good ∙ (valid_tells _ c.requires.1 (sym c.is_set.ensures ∙ c.if-not-is_set.false)).good

pub next-value-requires : goal.next-value-requires
unfolding counter_of
next-value-requires c =
    let k = valid_tells _ c.requires.1 (sym c.is_set.ensures ∙ c.if-not-is_set.false) in
    let s = said_by c.read.ensures c.unwrap-settings.ensures in
    (rw (s.last, c.value.ensures) k.most, rw (s.lot, c.batch.ensures) k.below)

pub returns : goal.returns
unfolding counter_of
returns c =
    let q = take 26 c.args.c.now in
    let s = said_by c.read.ensures c.unwrap-settings.ensures in
    c.put_count.ensures
    ∙ counted_bytes c.args.c.now c.requires.0 (sym c.is_set.ensures ∙ c.if-not-is_set.false)
    (c.next-value.ensures.value q s ∙ ap₂ (next_value q) c.value.ensures c.batch.ensures)
    (c.next-value.ensures.batch q s ∙ ap (next_batch q) c.batch.ensures)
