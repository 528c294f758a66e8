use native.Mathlib.Omega.{arith}
use mathlib.Core.Path.{sym, ◌∙◌, ap}
use lib.ListN.{drop_of_length-le, get_or}
use Rattle.printer.specs.Number.{value_from}
use Rattle.printer.proofs.Numbers.{digit_next, is_digit_true, value_grows, value_nine, value_on, value_small}
use Rattle.printer.proofs.counter.value_of.Goals as goal

pub overflow_mul-n : goal.overflow_mul-n
overflow_mul-n c = omega (arith, value_small c.loop-b.n c.loop-b.b-index (omega arith) c.loop-b.invariant.0)

pub overflow_sub-b : goal.overflow_sub-b
overflow_sub-b c = (is_digit_true _ (digit_next c.args.s.now c.loop-b.b-index c.loop-b-test.true c.loop-b.invariant.1).0).0

pub overflow_add-n : goal.overflow_add-n
overflow_add-n c =
    let l = c.loop-b in
    let d = digit_next c.args.s.now l.b-index c.loop-b-test.true l.invariant.1 in
    omega (arith, value_small l.n l.b-index (omega arith) l.invariant.0, is_digit_true _ d.0)

pub loop-b-preserved : goal.loop-b-preserved
loop-b-preserved c =
    let s = c.args.s.now in
    let l = c.loop-b in
    let d = digit_next s l.b-index c.loop-b-test.true l.invariant.1 in (
      rw c.from.ensures (value_grows l.n l.b-index (get_or s l.b-index 0) l.invariant.0 d.0),
      d.1,
      l.invariant.2 ∙ value_on s l.n l.b-index c.loop-b-test.true c.from.ensures,
    )

pub returns : goal.returns
returns c =
    let l = c.loop-b in (
      sym (l.invariant.2 ∙ ap (value_from l.n) (drop_of_length-le c.args.s.now {i = l.b-index} (omega arith))),
      value_nine l.n l.b-index (omega arith) l.invariant.0,
    )
