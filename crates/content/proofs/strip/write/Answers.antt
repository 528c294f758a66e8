use mathlib.Core.Path.{refl}
use native.Mathlib.Omega.{arith}
use Rattle.content.proofs.Puts.{not_written, reads_ahead, room, wrote_past, end_fits, ended, unfit}
use Rattle.content.proofs.strip.write.Goals as goal

pub loop-item-init : goal.loop-item-init
loop-item-init c =
    let a = c.args in
    rw c.begin-reader.ensures (not_written a.values a.s.now a.out.now)

pub slice_bounds-put_item-count : goal.slice_bounds-put_item-count
slice_bounds-put_item-count c = let h = reads_ahead c.loop-item.invariant c.token_at.ensures c.in-Read.is in omega (arith, h.0, h.1)

pub slice_bounds-put_item-start : goal.slice_bounds-put_item-start
slice_bounds-put_item-start c = let h = reads_ahead c.loop-item.invariant c.token_at.ensures c.in-Read.is in omega (arith, h.0, h.1)

pub slice_bounds-put_item-end : goal.slice_bounds-put_item-end
slice_bounds-put_item-end c = let h = reads_ahead c.loop-item.invariant c.token_at.ensures c.in-Read.is in omega (arith, h.0, h.1)

pub put_item-to-requires : goal.put_item-to-requires
put_item-to-requires c =
    room c.loop-item.invariant c.token_at.ensures c.in-Read.is c.requires

pub loop-item-smaller : goal.loop-item-smaller
loop-item-smaller c =
    let h = reads_ahead c.loop-item.invariant c.token_at.ensures c.in-Read.is in
    rw c.past-reader.ensures (omega (arith, h.0, h.1))

pub loop-item-preserved : goal.loop-item-preserved
loop-item-preserved c =
    wrote_past c.loop-item.invariant c.token_at.ensures c.in-Read.is c.loop-item.reader refl c.past-reader.ensures c.put_item-to.ensures

pub bounds-out-to : goal.bounds-out-to
bounds-out-to c =
    end_fits c.loop-item.invariant c.token_at.ensures c.in-Ends.is c.requires

pub returns-in-Ends : goal.returns-in-Ends
returns-in-Ends c =
    ended c.loop-item.invariant c.token_at.ensures c.in-Ends.is c.requires

pub returns-in-Unfit : goal.returns-in-Unfit
returns-in-Unfit c =
    unfit c.loop-item.invariant c.token_at.ensures c.in-Unfit.is
