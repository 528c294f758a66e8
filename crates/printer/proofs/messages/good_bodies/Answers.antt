-- `printer::messages::good_bodies` meets its contract: the loop passes one record at each turn.
use mathlib.Core.Path.{◌≡◌, sym, ◌∙◌, ap}
use native.Mathlib.Omega.{arith}
use lib.ListN.{drop}
use Rattle.library.specs.Record.{records}
use Rattle.library.proofs.Walks.{walked, ended}
use Rattle.printer.specs.Messages.{good_bodies}
use Rattle.printer.proofs.messages.good_bodies.Goals as goal

pub slice_bounds-good_body-end : goal.slice_bounds-good_body-end
slice_bounds-good_body-end c = let w = walked c.args.store.now c.loop-found.at (sym c.in-Some.is ∙ c.record_at.ensures) in omega (arith, w.ahead, w.inside)

pub returns-then-not-good_body : goal.returns-then-not-good_body
returns-then-not-good_body c =
    sym (c.loop-found.invariant.1 ∙ ap good_bodies (walked c.args.store.now c.loop-found.at (sym c.in-Some.is ∙ c.record_at.ensures)).first ∙ rw (sym c.if-not-good_body.ensures))

pub loop-found-smaller : goal.loop-found-smaller
loop-found-smaller c =
    let w = walked c.args.store.now c.loop-found.at (sym c.in-Some.is ∙ c.record_at.ensures) in omega (arith, w.ahead, w.inside)

pub loop-found-preserved : goal.loop-found-preserved
loop-found-preserved c =
    let s = c.args.store.now in
    let w = walked s c.loop-found.at (sym c.in-Some.is ∙ c.record_at.ensures) in
    let behind : good_bodies (records s) ≡ good_bodies (records (drop c.in-Some.found.end s)) =
    c.loop-found.invariant.1 ∙ ap good_bodies w.first ∙ rw (sym c.if-not-good_body.ensures) in
    (w.inside, behind)

pub returns : goal.returns
returns c =
    sym (c.loop-found.invariant.1 ∙ ap good_bodies (ended c.args.store.now c.loop-found.at (sym c.in_default.is ∙ c.record_at.ensures)).none)
