-- `console::run` meets its contract. Whether a call has a line is left to `grind`, with the law that none is empty.
use Prim.Native.Nat.{ℕ, ◌≤◌}
use mathlib.Core.Path.{◌≡◌}
use native.Mathlib.Omega.{arith}
use Rattle.std.specs.Prelude.{Some, None}
use Rattle.console.proofs.Laws.{at_start, goes, stops, fails, moves, turned, has_bytes, consumed_inside}
use Rattle.console.proofs.run.Goals as goal

pub loop-at-init : goal.loop-at-init
loop-at-init c = (omega arith, at_start _ _ _ c.requires.0 c.requires.1)

pub returns-in_default : goal.returns-in_default
returns-in_default c =
    let a = c.loop-at.invariant.1 in
    let t = turned c.loop-at.at c.args.s.now c.call-turn.ensures in
    let long : (n : ℕ) → c.call-turn.result.size ≡ Some n → 1 ≤ n = has_bytes a t in
    stops a t (grind arith)

pub overflow_add-at : goal.overflow_add-at
overflow_add-at c =
    let h = consumed_inside c.args.s.now c.loop-at.at (turned c.loop-at.at c.args.s.now c.call-turn.ensures) (omega arith) in omega arith

pub returns-then-not-write_all : goal.returns-then-not-write_all
returns-then-not-write_all c =
    let there : c.call-turn.result.size ≡ None → ⊥ = grind arith in
    fails (goes c.loop-at.invariant.1 (turned c.loop-at.at c.args.s.now c.call-turn.ensures) (omega arith) there)

pub loop-at-smaller : goal.loop-at-smaller
loop-at-smaller c =
    let there : c.call-turn.result.size ≡ None → ⊥ = grind arith in
    let h = moves c.loop-at.invariant.1 (turned c.loop-at.at c.args.s.now c.call-turn.ensures) (omega arith) there in omega arith

pub loop-at-preserved : goal.loop-at-preserved
loop-at-preserved c =
    let t = turned c.loop-at.at c.args.s.now c.call-turn.ensures in
    let there : c.call-turn.result.size ≡ None → ⊥ = grind arith in
    (consumed_inside c.args.s.now c.loop-at.at t (omega arith), goes c.loop-at.invariant.1 t (omega arith) there)
