-- Every contract has one outcome: two that meet it for the same inputs have the same answer and the same bytes after.
use Rattle.std.specs.Prelude.{ℕ, Bool, Option, Result, List, ◌≡◌}
use Rattle.frame.specs.Ground.{OneAnswer, OneOutcome}
use Rattle.frame.specs.Given.{given_in}
use Rattle.frame.specs.declared.given.Refusal.{Refusal}
use Rattle.library.specs.Record.{records, step_at}
use Rattle.library.specs.Store.{Keeps, body_of, is_number, is_store}
use Rattle.library.specs.declared.record.Found.{Found}

abbrev pub RecordAtUnique : Type 0
RecordAtUnique = (s : List ℕ) (at : ℕ) → OneAnswer (λ (r : Option Found). r ≡ step_at s at)

abbrev pub IsNumberUnique : Type 0
IsNumberUnique = (n : ℕ) → OneAnswer (λ (r : Bool). r ≡ is_number n)

abbrev pub IsStoreUnique : Type 0
IsStoreUnique = (s : List ℕ) → OneAnswer (λ (r : Bool). r ≡ is_store s)

abbrev pub BodyUnique : Type 0
BodyUnique = (s : List ℕ) (n : ℕ) → OneAnswer (λ (r : List ℕ). r ≡ body_of n (records s))

abbrev pub KeepUnique : Type 0
KeepUnique = (s : List ℕ) (n : ℕ) (body : List ℕ) → OneOutcome (Keeps s n body)

-- The same of the answer that the code hands back.
abbrev pub KeepAnswerUnique : Type 0
KeepAnswerUnique = (s : List ℕ) (n : ℕ) (body : List ℕ) → OneOutcome (λ (r : Result Unit Refusal). Keeps s n body (given_in r))
