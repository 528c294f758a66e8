-- `library::store::close` meets its contract. The loop keeps that the records that stay are those before the lower place and those that are
-- still to come, which stand as they were; moving one down brings it from the second to the first.
use Prim.Native.Nat.{ℕ, ◌-◌, ◌≤◌}
use mathlib.Core.List.{List, ◌++◌}
use mathlib.Core.Path.{◌≡◌}
use lib.ListN.{length, take, drop}
use Rattle.library.specs.Record.{records, written}
use Rattle.library.specs.Store.{without}
use Rattle.library.specs.StoreLaws.{AllBytes}
use Rattle.library.proofs.store.close.Given as goal

-- What is known at a place: from there on the store is as it was, and the records that stay are those before the lower place and those
-- that are still to come.
pub record Closing (s : List ℕ) (n : ℕ) (now : List ℕ) (at to : ℕ) : Type 0 where
  pub bytes : AllBytes s
  pub size : length now ≡ length s
  pub below : to ≤ at
  pub inside : at ≤ length s
  pub same : drop at now ≡ drop at s
  pub kept : written (without n (records s)) ≡ take to now ++ written (without n (records (drop at s)))

abbrev pub invariant-loop-found : goal.invariant-loop-found
invariant-loop-found l = Closing l.initial.store l.n l.store l.at l.to

abbrev pub decreases-loop-found : goal.decreases-loop-found
decreases-loop-found l = length l.initial.store - l.at
