-- Of tests in the order of their numbers the first that fails has the least rank, since no later one stands before it.
use Prim.Native.Nat.{ℕ, ◌≤◌}
use mathlib.Core.Bool.{Bool, true, false}
use mathlib.Core.List.{List, [], ◌∷◌}
use mathlib.Core.Path.{◌≡◌, refl, sym, ◌∙◌, ap, subst}
use native.Mathlib.Omega.{arith}
use borrow.Author.Tests.{leb-true}
use lib.Dec.{leb}
use lib.ListN.{length}
use Rattle.frame.specs.Ground.{has, plain, Test, given, first_failing}
use Rattle.frame.specs.Numbers.{numbers, rank, with_place, has_place, same, is_given, leads, in_order, Applies, here, later, FirstGiven, GivesFirst}
use Rattle.frame.specs.declared.given.Given.{Given}
use Rattle.frame.proofs.Ground.{both_true, never, placeless, plain_given}

-- Of no tests none applies.
empty : {g : Given} {ts : List Test} → length ts ≡ 0 → Applies g ts → ⊥
empty e (here h) = omega arith
empty e (later a) = omega arith

-- Whatever applies behind a test has a rank no earlier than its number.
behind : {g : Given} (k : ℕ) (ts : List Test) → leads k ts ≡ true → Applies g ts → rank k ≤ rank g.number
behind {g = g} k [] l x = elim x [ ]
behind k (t ∷ ts) l (here e) = leb-true _ _ (both_true (leb (rank k) (rank t.otherwise.number)) (leads k ts) l).0
behind k (t ∷ ts) l (later a) = behind k ts (both_true (leb (rank k) (rank t.otherwise.number)) (leads k ts) l).1 a

-- 0 is none of the numbers.
not_zero : (n : ℕ) → has n numbers ≡ true → n ≡ 0 → ⊥
not_zero n h e = never (subst (λ (k : ℕ). has k numbers ≡ true) e h)

same_is : (a b : Bool) → same a b ≡ true → b ≡ a
same_is true b e = e
same_is false true e = never e
same_is false false e = refl

-- One more test in front, which holds or fails.
in_front : (b : Bool) (r : Given) (ts : List Test) → is_given r ≡ true → leads r.number ts ≡ true → FirstGiven ts (given ts)
    → let more : List Test = record { holds = b; otherwise = r } ∷ ts in FirstGiven more (given more)
in_front true r ts h l f =
    record { none = f.none; applies = λ a. later (f.applies a); first = passed; with_place_exactly = f.with_place_exactly }
  where
    passed : (other : Given) → Applies other (record { holds = true; otherwise = r } ∷ ts) → rank (given ts).number ≤ rank other.number
    passed other (here e) = never (sym e)
    passed other (later a) = f.first other a
in_front false r ts h l f =
    let k = both_true (has r.number numbers) _ h in
    record {
      none = (λ e. absurd (not_zero r.number k.0 e), λ a. never a);
      applies = λ a. here refl;
      first = refused;
      with_place_exactly = same_is (has r.number with_place) (has_place r.place) k.1;
    }
  where
    refused : (other : Given) → Applies other (record { holds = false; otherwise = r } ∷ ts) → rank r.number ≤ rank other.number
    refused other (here e) = omega arith
    refused other (later a) = behind r.number ts l a

pub gives_first : GivesFirst
gives_first [] e =
    record { none = (λ _. refl, λ _. refl); applies = λ a. never (sym a); first = λ other a. absurd (empty refl a); with_place_exactly = refl }
gives_first (t ∷ ts) e =
    let h = both_true (is_given t.otherwise) _ e in
    let l = both_true (leads t.otherwise.number ts) (in_order ts) h.1 in
    in_front t.holds t.otherwise ts h.0 l.0 (gives_first ts l.1)

-- What tests give is the first that applies; and so is a number, where none of them has a place.
pub first_given : (ts : List Test) (g : Given) → in_order ts ≡ true → g ≡ given ts → FirstGiven ts g
first_given ts g o e = subst (FirstGiven ts) (sym e) (gives_first ts o)

pub first_number : (ts : List Test) (k : ℕ) → in_order ts ≡ true → placeless ts ≡ true → k ≡ first_failing ts → FirstGiven ts (plain k)
first_number ts k o p e = first_given ts (plain k) o (ap plain e ∙ plain_given ts p)
