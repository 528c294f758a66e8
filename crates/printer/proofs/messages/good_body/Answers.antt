-- `printer::messages::good_body` meets its contract: its parameters are tested, then its content; with too few bytes there is no content.
use mathlib.Core.Path.{sym, ◌∙◌, ap}
use borrow.Author.Tests.{lt-leb}
use lib.ListN.{length}
use Rattle.frame.proofs.Ground.{lent_tail, never}
use Rattle.content.specs.Content.{is_content}
use Rattle.printer.specs.Messages.{good_body}
use Rattle.printer.proofs.Bodies.{short_bad}
use Rattle.printer.proofs.messages.good_body.Goals as goal
use Rattle.printer.proofs.messages.good_body.Goals.{then-body-ge-PARAMETERS, else-body-ge-PARAMETERS}

pub returns-then-good_parameters : goal.returns-then-good_parameters
unfolding good_body
returns-then-good_parameters c =
    elim c.if-body-ge-PARAMETERS.branch [
      | then-body-ge-PARAMETERS w ↦ rw (sym w.good_parameters.ensures ∙ sym w.value-is ∙ c.if-good_parameters.true) (c.is_content.ensures ∙ ap is_content (lent_tail 37 c.args.body.now))
      | else-body-ge-PARAMETERS w ↦ never (sym (lt-leb 37 (length c.args.body.now) w.if-body-ge-PARAMETERS.false) ∙ sym w.value-is ∙ c.if-good_parameters.true)
    ]

pub returns-else-good_parameters : goal.returns-else-good_parameters
unfolding good_body
returns-else-good_parameters c =
    c.if-good_parameters.false
    ∙ elim c.if-body-ge-PARAMETERS.branch [
      | then-body-ge-PARAMETERS w ↦ rw (sym w.good_parameters.ensures ∙ sym w.value-is ∙ c.if-good_parameters.false)
      | else-body-ge-PARAMETERS w ↦ sym (short_bad c.args.body.now w.if-body-ge-PARAMETERS.false)
    ]
