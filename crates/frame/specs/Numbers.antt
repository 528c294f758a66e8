-- The order of the numbers, stated once for the calls of all crates, and what it means that the first that applies is given.
use Rattle.std.specs.Prelude.{ℕ, ◌+◌, ◌≤◌, Bool, true, false, not, Option, None, Some, List, [], ◌∷◌, ◌↔◌, ◌≡◌, eqb, leb}
use Rattle.frame.specs.Ground.{pick, both, has, Test, given, all}
use Rattle.frame.specs.declared.given.Given.{Given}

-- 01, Numbers, the table from top to bottom; then 01, Other calls. 02, Wish 1: 17 stands "after 8", 16 "after 10"; Wish 3: 18 "after 11 and
-- before 12". A number that is added later stands where its request says.
abbrev pub numbers : List ℕ
numbers = 1 ∷ 2 ∷ 3 ∷ 4 ∷ 5 ∷ 6 ∷ 7 ∷ 8 ∷ 17 ∷ 9 ∷ 10 ∷ 16 ∷ 11 ∷ 18 ∷ 12 ∷ 13 ∷ 14 ∷ 15 ∷ []

-- How many numbers of a list stand before one: its rank.
abbrev pub rank_in : List ℕ → ℕ → ℕ
rank_in [] n = 0
rank_in (k ∷ ks) n = pick (eqb n k) 0 (rank_in ks n + 1)

abbrev pub rank : ℕ → ℕ
rank n = rank_in numbers n

-- 02, Wish 4: 10 "shall carry a place", "12 and 13 carry the first offending address or symbol index"; no other number has one.
abbrev pub with_place : List ℕ
with_place = 10 ∷ 12 ∷ 13 ∷ []

abbrev pub has_place : Option ℕ → Bool
has_place None = false
has_place (Some i) = true

-- Both hold, or neither does.
abbrev pub same : Bool → Bool → Bool
same true b = b
same false b = not b

-- A number of the list, with a place exactly if it is one of those.
abbrev pub is_given : Given → Bool
is_given g = both (has g.number numbers) (same (has g.number with_place) (has_place g.place))

-- Tests in the order of their numbers: each number is one of the list, and no test stands behind one of a later rank.
abbrev pub leads : ℕ → List Test → Bool
leads n [] = true
leads n (t ∷ ts) = both (leb (rank n) (rank t.otherwise.number)) (leads n ts)

abbrev pub in_order : List Test → Bool
in_order [] = true
in_order (t ∷ ts) = both (is_given t.otherwise) (both (leads t.otherwise.number ts) (in_order ts))

-- What a test gives that fails.
pub data Applies : Given → List Test → Type 0 where
  here : {t : Test} {ts : List Test} → t.holds ≡ false → Applies t.otherwise (t ∷ ts)
  later : {g : Given} {t : Test} {ts : List Test} → Applies g ts → Applies g (t ∷ ts)

-- 01, Numbers: "the first that applies is given, and none otherwise"; 0, "done", is given exactly where none applies. 02, Wish 4: the place
-- is that of the same test, and stands with 10, 12 and 13 alone.
pub record FirstGiven (tests : List Test) (g : Given) : Type 0 where
  pub none : (g.number ≡ 0) ↔ (all tests ≡ true)
  pub applies : all tests ≡ false → Applies g tests
  pub first : (other : Given) → Applies other tests → rank g.number ≤ rank other.number
  pub with_place_exactly : has_place g.place ≡ has g.number with_place

abbrev pub GivesFirst : Type 0
GivesFirst = (tests : List Test) → in_order tests ≡ true → FirstGiven tests (given tests)
