-- `library::store::is_store` meets its contract. The loop keeps which numbers stand before its place, and that what stands from it on gives
-- the answer; each record then passes or fails by its number, and behind the last all bytes must be 00h.
use Prim.Native.Nat.{ℕ, ◌-◌, ◌≤◌, ◌<◌}
use mathlib.Core.Bool.{Bool, false}
use mathlib.Core.List.{List}
use mathlib.Core.Path.{◌≡◌}
use lib.ListN.{length, get_or, drop}
use Rattle.frame.specs.Ground.{has}
use Rattle.library.specs.Record.{records, rest}
use Rattle.library.specs.Store.{fit, fit_behind, store_size}
use Rattle.library.proofs.store.is_store.Given as goal

-- What is known at a place: the numbers seen are those before it, and what stands from it on gives the answer.
pub record Sifted (s : List ℕ) (seen : List Bool) (at : ℕ) : Type 0 where
  pub before : List ℕ
  pub inside : at ≤ length s
  pub size : length s ≡ store_size
  pub count : length seen ≡ 80
  pub told : (k : ℕ) → k < 80 → get_or seen k false ≡ has k before
  pub numbers : fit (records s) ≡ fit_behind before (records (drop at s))
  pub behind : rest s ≡ rest (drop at s)

abbrev pub invariant-loop-found : goal.invariant-loop-found
invariant-loop-found l = Sifted l.store l.seen l.at

abbrev pub decreases-loop-found : goal.decreases-loop-found
decreases-loop-found l = length l.store - l.at
