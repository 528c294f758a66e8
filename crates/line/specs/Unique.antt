-- The contract has one outcome: two that meet it for the same inputs have the same answer and the same bytes after.
use Rattle.std.specs.Prelude.{ℕ, Option, List, ◌≡◌}
use Rattle.frame.specs.declared.given.Given.{Given}
use Rattle.line.specs.Line.{Writes}

abbrev pub WritesUnique : Type 0
WritesUnique =
    (before : List ℕ) (g : Given) (answer : List ℕ) (r r' : Option ℕ) (after after' : List ℕ) →
    Writes before g answer r after →
    Writes before g answer r' after' →
    (r ≡ r') × (after ≡ after')
