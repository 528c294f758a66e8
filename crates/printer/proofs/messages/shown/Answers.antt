-- `printer::messages::shown` meets its contract: the two tests are the rule's, and by the length of the body that is found there is a record or none.
use mathlib.Core.Path.{sym, ◌∙◌, ap}
use native.Mathlib.Omega.{arith}
use Rattle.frame.proofs.Ground.{lent_tail}
use Rattle.printer.specs.Messages.{body_content}
use Rattle.printer.proofs.Bodies.{held_none, held_some, some_good}
use Rattle.printer.proofs.messages.shown.Goals as goal

pub returns-then-is_empty : goal.returns-then-is_empty
returns-then-is_empty c =
    let v = sym c.if-not-valid_store.ensures in
    let k = sym c.if-not-is_number.ensures in
    record { gives = rw (v, k); bytes = rw (v, k, held_none c.args.store.now c.args.n v c.body-found.ensures c.if-is_empty.ensures) }

pub slice_bounds-result-count : goal.slice_bounds-result-count
slice_bounds-result-count c = omega (arith, (some_good c.args.store.now c.args.n (sym c.if-not-valid_store.ensures) c.body-found.ensures c.if-is_empty.ensures).long)

pub slice_bounds-result-start : goal.slice_bounds-result-start
slice_bounds-result-start c = omega (arith, (some_good c.args.store.now c.args.n (sym c.if-not-valid_store.ensures) c.body-found.ensures c.if-is_empty.ensures).long)

pub returns : goal.returns
returns c =
    let v = sym c.if-not-valid_store.ensures in
    let k = sym c.if-not-is_number.ensures in
    record {
      gives = rw (v, k);
      bytes = rw (v, k, held_some c.args.store.now c.args.n v c.body-found.ensures c.if-is_empty.ensures) (lent_tail 37 c.body-found.result.now ∙ ap body_content c.body-found.ensures);
    }
