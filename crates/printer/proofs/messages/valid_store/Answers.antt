-- `printer::messages::valid_store` meets its contract: the store's records first, and then their bodies.
use mathlib.Core.Path.{sym, ◌∙◌}
use Rattle.printer.specs.Messages.{valid_store}
use Rattle.printer.proofs.messages.valid_store.Goals as goal

pub returns-then-is_store : goal.returns-then-is_store
unfolding valid_store
returns-then-is_store c = rw (sym c.is_store.ensures ∙ c.if-is_store.true) c.good_bodies.ensures

pub returns-else-is_store : goal.returns-else-is_store
unfolding valid_store
returns-else-is_store c = rw (sym c.is_store.ensures ∙ c.if-is_store.false) c.if-is_store.false
