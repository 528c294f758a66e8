-- The tests of `keep` stand in the order of the numbers, so that of those that apply the first is given.
use Rattle.std.specs.Prelude.{ℕ, true, List, ◌≡◌}
use Rattle.frame.specs.declared.given.Given.{Given}
use Rattle.frame.specs.Numbers.{FirstGiven, in_order}
use Rattle.library.specs.Store.{Keeps, keep_tests}

-- 01, Numbers: "Checked in this order; the first that applies is given, and none otherwise".
abbrev pub InOrder : Type 0
InOrder = (n : ℕ) (body s : List ℕ) → in_order (keep_tests n body s) ≡ true

abbrev pub KeepGivesFirst : Type 0
KeepGivesFirst =
    (s : List ℕ) (n : ℕ) (body : List ℕ) (r : Given) (s' : List ℕ) →
    Keeps s n body r s' →
    FirstGiven (keep_tests n body s) r
