use mathlib.Core.Path.{sym}
use native.Mathlib.Omega.{arith}
use Rattle.std.proofs.Common.{rules}
use Rattle.content.proofs.Stretches.{found, found_none, behind_strays, lands_not, lands_whole, lands_next, lands_nowhere}
use Rattle.content.proofs.edit.strayed.Goals as goal

pub returns-then-s-address : goal.returns-then-s-address
returns-then-s-address c = let a = c.args in sym (behind_strays a.s.now a.address a.symbols.now (search rules) c.if-s-address.true)

pub returns-then-from-run : goal.returns-then-from-run
returns-then-from-run c =
    lands_not c.loop-run.invariant (found c.args.s.now c.loop-run.reader c.run_at.ensures c.in-Some.is) c.if-from-run.true

pub returns-then-end-reader : goal.returns-then-end-reader
returns-then-end-reader c =
    lands_whole c.loop-run.invariant (found c.args.s.now c.loop-run.reader c.run_at.ensures c.in-Some.is) c.if-from-run.false c.if-end-reader.true

pub loop-run-preserved : goal.loop-run-preserved
loop-run-preserved c =
    lands_next c.loop-run.invariant (found c.args.s.now c.loop-run.reader c.run_at.ensures c.in-Some.is) (omega arith) (omega arith) c.max-from.ensures

pub returns : goal.returns
returns c =
    lands_nowhere c.loop-run.invariant (found_none c.args.s.now c.loop-run.reader c.run_at.ensures c.in_default.is)
