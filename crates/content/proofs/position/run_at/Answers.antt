use Prim.Native.Nat.{◌<◌}
use native.Mathlib.Omega.{arith}
use Rattle.content.proofs.Stretches.{Walks, walks_on, walks_to, walked_none}
use Rattle.content.proofs.position.run_at.Goals as goal

pub returns-then-is_position : goal.returns-then-is_position
returns-then-is_position c =
    walks_to c.loop-item.invariant c.token_at.ensures c.in-Read.is c.past-reader.ensures c.item_mark-mark.ensures c.is_position.ensures c.if-is_position.true

-- A turn that finds structure goes on behind it.
turned : (c : goal.Else-is_position) →
    (c.loop-item.reader.at < c.past-reader.result.at) × Walks c.args.s.now c.args.start c.past-reader.result
turned c =
    walks_on c.loop-item.invariant c.token_at.ensures c.in-Read.is c.past-reader.ensures c.item_mark-mark.ensures c.is_position.ensures c.if-is_position.false

pub loop-item-smaller : goal.loop-item-smaller
loop-item-smaller c = omega (arith, (turned c).0, (turned c).1.inside)

pub loop-item-preserved : goal.loop-item-preserved
loop-item-preserved c = (turned c).1

pub returns : goal.returns
returns c = walked_none c.loop-item.invariant c.token_at.ensures c.in_default.not-Read
