-- What makes a tree good, each part by its name.
use Prim.Native.Nat.{◌≤◌}
use mathlib.Core.Bool.{true}
use mathlib.Core.Path.{◌≡◌}
use borrow.Author.Tests.{le-leb, leb-true}
use lib.ListN.{length}
use Rattle.frame.specs.Ground.{within}
use Rattle.content.specs.Grammar.{Tree, good_lines, good_tree, lines_fields}
use Rattle.frame.proofs.Ground.{both_true, true_both, within_true, true_within}

pub record GoodTree (t : Tree) : Type 0 where
  pub some_lines : 1 ≤ length t
  pub few_lines : length t ≤ 4
  pub lines : good_lines t ≡ true
  pub few_fields : lines_fields t ≤ 10

pub good_tree_tells : (t : Tree) → good_tree t ≡ true → GoodTree t
unfolding good_tree
good_tree_tells t g =
    let h = both_true (within 1 4 (length t)) _ g in
    let k = within_true 1 4 (length t) h.0 in
    let n = both_true (good_lines t) _ h.1 in
    record { some_lines = k.0; few_lines = k.1; lines = n.0; few_fields = leb-true _ _ n.1 }

pub tree_is_good : (t : Tree) → GoodTree t → good_tree t ≡ true
unfolding good_tree
tree_is_good t g =
    true_both _ _ (true_within 1 4 (length t) g.some_lines g.few_lines) (true_both _ _ g.lines (le-leb _ 10 g.few_fields))
