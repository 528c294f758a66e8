use Prim.Native.Nat.{ℕ}
use mathlib.Core.List.{List}
use mathlib.Core.Path.{◌≡◌, ◌∙◌, ap}
use native.Mathlib.Omega.{arith}
use borrow.Author.Rules.{rules}
use lib.ListN.{drop, take}
use Rattle.printer.specs.Number.{digits}
use Rattle.printer.proofs.Powers.{none_yet, at_most_9, some, subtracted, goes_on, all_ten}
use Rattle.printer.proofs.number.digits.Goals as goal

pub loop-i-init : goal.loop-i-init
loop-i-init c = none_yet c.args.n (omega arith)

pub overflow_add-row : goal.overflow_add-row
overflow_add-row c = let h = at_most_9 (omega arith) c.loop-i.invariant in omega arith

pub loop-i-smaller-then-power-left : goal.loop-i-smaller-then-power-left
loop-i-smaller-then-power-left c = let h = some c.loop-i.i (omega arith) in omega arith

pub loop-i-preserved-then-power-left : goal.loop-i-preserved-then-power-left
loop-i-preserved-then-power-left c = subtracted (omega arith) (omega arith) c.loop-i.invariant

pub loop-i-smaller : goal.loop-i-smaller
loop-i-smaller c = omega arith

pub loop-i-preserved : goal.loop-i-preserved
loop-i-preserved c = goes_on (omega arith) (omega arith) c.loop-i.invariant

pub returns : goal.returns
unfolding digits
returns c =
    let behind : c.unwrap.result ≡ take 9 (drop 1 c.loop-i.row) = search rules in
    behind ∙ ap (λ (l : List ℕ). take 9 (drop 1 l)) (all_ten (omega arith) c.loop-i.invariant)
