use native.Mathlib.Omega.{arith}
use Rattle.content.specs.Position.{field_positions}
use Rattle.content.proofs.Stretches.{found, found_none, fields_taken, fields_left, fields_none}
use Rattle.content.proofs.position.field_positions.Goals as goal

pub loop-run-preserved-then-is_field_position : goal.loop-run-preserved-then-is_field_position
loop-run-preserved-then-is_field_position c =
    let r = found c.args.s.now c.loop-run.reader c.run_at.ensures c.in-Some.is in (
      omega (arith, r.ahead, r.some, c.loop-run.invariant.0),
      r.inside,
      fields_taken r c.loop-run.count (field_positions c.args.s.now) c.is_field_position.ensures c.loop-run.invariant.2 c.if-is_field_position.true,
    )

pub loop-run-preserved : goal.loop-run-preserved
loop-run-preserved c =
    let r = found c.args.s.now c.loop-run.reader c.run_at.ensures c.in-Some.is in (
      omega (arith, r.ahead, r.some, c.loop-run.invariant.0),
      r.inside,
      fields_left r c.loop-run.count (field_positions c.args.s.now) c.is_field_position.ensures c.loop-run.invariant.2 c.if-is_field_position.false,
    )

pub returns : goal.returns
returns c =
    let at = c.loop-run.reader in
    let none = found_none c.args.s.now at c.run_at.ensures c.in_default.is in
    omega (arith, fields_none c.args.s.now at.at at.place at.seen none, c.loop-run.invariant.2)
