-- `printer::jet::edit_jet` meets its contract: the edit's answer is the order's, and the message changes where it is done.
use borrow.Author.Rules.{rules}
use Rattle.printer.proofs.Jets.{edited_left}
use Rattle.printer.proofs.jet.edit_jet.Goals as goal

pub returns : goal.returns
returns c = edited_left c.args.jet.now c.requires.0 (search rules) c.edit.result c.message_length-end.ensures c.requires.1 c.edit.auto.s c.edit.ensures
