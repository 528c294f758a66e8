use mathlib.Core.Path.{refl, ◌∙◌}
use Rattle.content.proofs.Laying.{laid_past, laid_on, laid_all, taken}
use Rattle.content.proofs.Stretches.{found, found_none}
use Rattle.content.proofs.update.lay_text.Goals as goal

pub loop-run-preserved-then-is_field_position : goal.loop-run-preserved-then-is_field_position
loop-run-preserved-then-is_field_position c =
    let p = taken _ c.loop-run.rest.now c.min.ensures in
    laid_on c.loop-run.invariant (found c.loop-run.s c.loop-run.reader c.run_at.ensures c.in-Some.is) c.is_field_position.ensures c.if-is_field_position.true
    (c.split_at.ensures.front ∙ p.0) (c.split_at.ensures.back ∙ p.1) c.lay.ensures refl

pub loop-run-preserved : goal.loop-run-preserved
loop-run-preserved c =
    laid_past c.loop-run.invariant (found c.loop-run.s c.loop-run.reader c.run_at.ensures c.in-Some.is) c.is_field_position.ensures c.if-is_field_position.false

pub returns : goal.returns
returns c =
    laid_all c.loop-run.invariant (found_none c.loop-run.s c.loop-run.reader c.run_at.ensures c.in_default.is)
