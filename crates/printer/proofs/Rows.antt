-- What is true of a row, a list whose members are numbered from n on: of every member, of each member changed, and of one replaced.
use Prim.Native.Nat.{ℕ, zero, suc, ◌+◌, ◌*◌, ◌≤◌}
use mathlib.Core.Bool.{Bool, true}
use mathlib.Core.List.{List, [], ◌∷◌}
use mathlib.Core.Path.{◌≡◌, refl, subst}
use native.Mathlib.Omega.{arith}
use lib.ListN.{length, get_or, set, replicate, length-append}
use Rattle.frame.specs.Ground.{every, each, joined}
use Rattle.frame.proofs.Ground.{both_true, true_both}

module _ {A : Type 0} (f : ℕ → A → Bool) where
  -- Where every member passes a test, so it is with one that passes it put in any place.
  pub every_set : (n i : ℕ) (l : List A) (a : A) → every f n l ≡ true → f (n + i) a ≡ true → every f n (set l i a) ≡ true
  every_set n i [] a e h = refl
  every_set n zero (x ∷ l) a e h =
      true_both _ _ (subst (λ (k : ℕ). f k a ≡ true) (omega arith) h) (both_true (f n x) (every f (n + 1) l) e).1
  every_set n (suc i) (x ∷ l) a e h =
      let b = both_true (f n x) (every f (n + 1) l) e in
      true_both _ _ b.0 (every_set (n + 1) i l a b.1 (subst (λ (k : ℕ). f k a ≡ true) (omega arith) h))

  -- So it is with every member changed, if what passes the test still passes it then.
  pub every_each : (g : ℕ → A → A) → ((n : ℕ) (a : A) → f n a ≡ true → f n (g n a) ≡ true)
      → (n : ℕ) (l : List A) → every f n l ≡ true → every f n (each g n l) ≡ true
  every_each g keep n [] e = refl
  every_each g keep n (x ∷ l) e =
      let b = both_true (f n x) (every f (n + 1) l) e in
      true_both _ _ (keep n x b.0) (every_each g keep (n + 1) l b.1)

  -- So it is with one and the same member, so many times.
  pub every_replicate : (a : A) → ((k : ℕ) → f k a ≡ true) → (n count : ℕ) → every f n (replicate count a) ≡ true
  every_replicate a h n zero = refl
  every_replicate a h n (suc count) = true_both _ _ (h n) (every_replicate a h (n + 1) count)

  -- All that members are written as, where none is longer than k.
  pub joined_short : {B : Type 0} (k : ℕ) (g : ℕ → A → List B) → ((n : ℕ) (a : A) → f n a ≡ true → length (g n a) ≤ k)
      → (n : ℕ) (l : List A) → every f n l ≡ true → length (joined (each g n l)) ≤ length l * k
  joined_short k g short n [] e = omega arith
  joined_short k g short n (x ∷ l) e =
      let b = both_true (f n x) (every f (n + 1) l) e in
      simp length-append (omega (arith, short n x b.0, joined_short k g short (n + 1) l b.1))

module _ {A B : Type 0} (g : ℕ → A → B) where
  -- What is true of a member beside what it becomes is true at every place, if it is true of what stands for none.
  pub each_beside : (R : A → B → Type 0) (d : A) (e : B) → R d e → ((n : ℕ) (a : A) → R a (g n a))
      → (n i : ℕ) (l : List A) → R (get_or l i d) (get_or (each g n l) i e)
  each_beside R d e none some n i [] = none
  each_beside R d e none some n zero (x ∷ l) = some n x
  each_beside R d e none some n (suc i) (x ∷ l) = each_beside R d e none some (n + 1) i l

module _ {A : Type 0} where
  -- What is true of a new member and of the one at a place is true of the one at that place when the new one is put anywhere.
  pub set_any : (P : A → Type 0) (l : List A) (i k : ℕ) (a d : A) → P a → P (get_or l k d) → P (get_or (set l i a) k d)
  set_any P [] i k a d new old = old
  set_any P (x ∷ l) zero zero a d new old = new
  set_any P (x ∷ l) zero (suc k) a d new old = old
  set_any P (x ∷ l) (suc i) zero a d new old = old
  set_any P (x ∷ l) (suc i) (suc k) a d new old = set_any P l i k a d new old

  pub replicate_at : (count i : ℕ) (a : A) → get_or (replicate count a) i a ≡ a
  replicate_at zero i a = refl
  replicate_at (suc count) zero a = refl
  replicate_at (suc count) (suc i) a = replicate_at count i a
