use native.Mathlib.Omega.{arith}
use Rattle.content.proofs.Walk.{first_line, no_line, expansion, font, no_font, next_item, no_item, closed, next_block, ends, no_end, at_line, next_line, fifth_line}
use Rattle.content.proofs.test.read.Goals as goal

pub returns-then-byte_at-ne10 : goal.returns-then-byte_at-ne10
returns-then-byte_at-ne10 c = record { answer = no_line c.args.s.now c.byte_at.ensures c.if-byte_at-ne10.true }

pub content-init : goal.content-init
content-init c = (omega arith, first_line c.args.s.now c.byte_at.ensures c.if-byte_at-ne10.false)

pub block-init : goal.block-init
block-init c =
    (omega arith, c.line.invariant.1, font (expansion c.line.invariant.2 c.byte_at-in-line.ensures c.is_expansion.ensures c.if-not-is_expansion.false) c.byte_at-in-line-2.ensures c.is_count.ensures c.if-not-is_count.false)

pub block-smaller : goal.block-smaller
block-smaller c =
    let g = next_item c.block.invariant.2 c.block.invariant.1 c.item_at.ensures c.in-Read.is c.passed-seen.ensures in omega (arith, g.0, g.2.inside)

pub block-preserved : goal.block-preserved
block-preserved c =
    let g = next_item c.block.invariant.2 c.block.invariant.1 c.item_at.ensures c.in-Read.is c.passed-seen.ensures in (omega (arith, g.0), g.1, g.2)

pub line-preserved : goal.line-preserved
line-preserved c =
    (omega (arith, c.block.invariant.0, c.line.invariant.0), c.block.invariant.1, next_block (closed c.block.invariant.2 c.item_at.ensures c.in-Ends.is) c.byte_at-in-line-3.ensures c.is_expansion-in-line.ensures c.if-not-is_expansion-2.false)

pub returns-then-at-s : goal.returns-then-at-s
returns-then-at-s c =
    record { answer = ends (closed c.block.invariant.2 c.item_at.ensures c.in-Ends.is) c.byte_at-in-content.ensures c.if-byte_at-eq13.true c.if-at-s.true }

pub content-preserved : goal.content-preserved
content-preserved c =
    let shut = closed c.block.invariant.2 c.item_at.ensures c.in-Ends.is in
    (c.block.invariant.1, next_line shut (at_line shut c.byte_at-in-line-3.ensures c.is_expansion-in-line.ensures c.if-not-is_expansion-2.true c.byte_at-in-content.ensures c.if-byte_at-eq13.false) c.if-seen-ge-LINES.false)

pub returns-then-not-is_count : goal.returns-then-not-is_count
returns-then-not-is_count c =
    record { answer = no_font (expansion c.line.invariant.2 c.byte_at-in-line.ensures c.is_expansion.ensures c.if-not-is_expansion.false) c.byte_at-in-line-2.ensures c.is_count.ensures c.if-not-is_count.true }

pub returns-in-Unfit : goal.returns-in-Unfit
returns-in-Unfit c =
    record { answer = no_item c.block.invariant.2 c.item_at.ensures c.in-Unfit.is }

pub returns-else-at-s : goal.returns-else-at-s
returns-else-at-s c =
    record { answer = no_end (closed c.block.invariant.2 c.item_at.ensures c.in-Ends.is) c.byte_at-in-content.ensures c.if-byte_at-eq13.true c.if-at-s.false }

pub returns-then-seen-ge-LINES : goal.returns-then-seen-ge-LINES
returns-then-seen-ge-LINES c =
    let shut = closed c.block.invariant.2 c.item_at.ensures c.in-Ends.is in
    record { answer = fifth_line shut (at_line shut c.byte_at-in-line-3.ensures c.is_expansion-in-line.ensures c.if-not-is_expansion-2.true c.byte_at-in-content.ensures c.if-byte_at-eq13.false) c.if-seen-ge-LINES.true }
