-- Words that the rules of all crates share.
use Rattle.std.specs.Prelude.{ℕ, ◌+◌, Bool, true, false, ◌||◌, None, Some, List, [], ◌∷◌, ◌++◌, ◌≡◌, eqb, leb, length, drop}
use Rattle.frame.specs.declared.given.Given.{Given}

-- The first where the test holds, else the second.
abbrev pub pick : {A : Type 0} → Bool → A → A → A
pick true a b = a
pick false a b = b

-- The first where the test fails, else the second: a refusal stands right behind what it is a refusal of.
abbrev pub unless : {A : Type 0} → Bool → A → A → A
unless true a b = b
unless false a b = a

-- Both tests hold.
abbrev pub both : Bool → Bool → Bool
both true b = b
both false b = false

-- What is given of a call: a number alone, or 02, Wish 4, a number that "shall carry a place".
abbrev pub plain : ℕ → Given
plain number = record { number = number; place = None }

abbrev pub placed : ℕ → ℕ → Given
placed number i = record { number = number; place = Some i }

-- A test, and what is given where it fails: a number alone, or one with its place.
pub record Test : Type 0 where
  pub holds : Bool
  pub otherwise : Given

abbrev pub test : Bool → ℕ → Test
test holds number = record { holds = holds; otherwise = plain number }

abbrev pub test_at : Bool → ℕ → ℕ → Test
test_at holds number i = record { holds = holds; otherwise = placed number i }

-- 01, Numbers: "Checked in this order; the first that applies is given, and none otherwise."
abbrev pub checked : {A : Type 0} → List Test → (Given → A) → A → A
checked [] refuse accept = accept
checked (t ∷ ts) refuse accept = unless t.holds (refuse t.otherwise) (checked ts refuse accept)

-- What they give; 0, done, which has no place, where every test holds.
abbrev pub given : List Test → Given
given tests = checked tests (λ refusal. refusal) (plain 0)

-- The number alone.
abbrev pub first_failing : List Test → ℕ
first_failing tests = checked tests (λ refusal. refusal.number) 0

-- Every test holds, in no order.
abbrev pub all : List Test → Bool
all [] = true
all (t ∷ ts) = both t.holds (all ts)

-- What there are several of, numbered from n on: whether a test holds of every one, what each becomes, and all of them one behind the
-- other.
abbrev pub every : {A : Type 0} → (ℕ → A → Bool) → ℕ → List A → Bool
every f n [] = true
every f n (x ∷ xs) = both (f n x) (every f (n + 1) xs)

abbrev pub each : {A B : Type 0} → (ℕ → A → B) → ℕ → List A → List B
each f n [] = []
each f n (x ∷ xs) = f n x ∷ each f (n + 1) xs

abbrev pub joined : {A : Type 0} → List (List A) → List A
joined [] = []
joined (x ∷ xs) = x ++ joined xs

-- A number from the first to the second.
abbrev pub within : ℕ → ℕ → ℕ → Bool
within least most n = both (leb least n) (leb n most)

-- Whether n is among them.
abbrev pub has : ℕ → List ℕ → Bool
has n [] = false
has n (x ∷ xs) = eqb x n || has n xs

-- A list laid over the front of a buffer; every byte behind it stays as it was.
abbrev pub over : List ℕ → List ℕ → List ℕ
over xs before = xs ++ drop (length xs) before

-- 01, What the proofs owe us: "that no second outcome satisfies it is proved". Two answers that meet a contract are the same, and so are
-- the bytes after them.
abbrev pub OneAnswer : {A : Type 0} → (A → Type 0) → Type 0
OneAnswer {A} C = (r r' : A) → C r → C r' → r ≡ r'

abbrev pub OneOutcome : {A : Type 0} → (A → List ℕ → Type 0) → Type 0
OneOutcome {A} C = (r r' : A) (after after' : List ℕ) → C r after → C r' after' → (r ≡ r') × (after ≡ after')
