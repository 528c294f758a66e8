-- `content::test::read` meets its contract. All three loops keep that what is left of the bytes gives the verdict: the outer two at the
-- expansion of a block, the inner one at an item. Each step of the code is a law of `Walk`, and at each break the law says that the byte
-- there can't stand there. The measure is what is left of the length. Of external
-- fields there are ten at most.
use Prim.Native.Nat.{◌≤◌, ◌-◌}
use lib.ListN.{length}
use Rattle.content.specs.declared.item.Place.TheVariants.{Line, Block}
use Rattle.content.proofs.Tokens.{here}
use Rattle.content.proofs.Walk.{At}
use Rattle.content.proofs.test.read.Given as goal

abbrev pub invariant-block : goal.invariant-block
invariant-block l = (l.initial.at ≤ l.at) × (l.seen.fields ≤ 10) × At l.s (here Block l.seen) l.at

abbrev pub decreases-block : goal.decreases-block
decreases-block l = length l.s - l.at

abbrev pub invariant-line : goal.invariant-line
invariant-line l = (l.initial.at ≤ l.at) × (l.seen.fields ≤ 10) × At l.s (here Line l.seen) l.at

abbrev pub decreases-line : goal.decreases-line
decreases-line l = length l.s - l.at

abbrev pub invariant-content : goal.invariant-content
invariant-content l = (l.seen.fields ≤ 10) × At l.s (here Line l.seen) l.at

abbrev pub decreases-content : goal.decreases-content
decreases-content l = length l.s - l.at
