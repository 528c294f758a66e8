-- Every contract has one outcome: two that meet it for the same inputs have the same answer and the same bytes after.
use Rattle.std.specs.Prelude.{ℕ, Bool, Result, List, ◌≡◌}
use Rattle.frame.specs.Ground.{OneAnswer, OneOutcome, placed, plain}
use Rattle.frame.specs.Given.{given_in, given_of, numbered}
use Rattle.frame.specs.declared.given.Given.{Given}
use Rattle.frame.specs.declared.given.Refusal.{Refusal}
use Rattle.frame.specs.Wire.{Words}
use Rattle.frame.specs.Receive.{Receives}
use Rattle.frame.specs.Build.{Lays, Wraps, Answers, Builds}
use Rattle.frame.specs.Holding.{is_holding, silenced}
use Rattle.frame.specs.declared.holding.Holding.{Holding}

-- `plain` and `placed` have their rule's value as their contract.
abbrev pub PlainUnique : Type 0
PlainUnique = (number : ℕ) → OneAnswer (λ (r : Given). r ≡ plain number)

abbrev pub PlacedUnique : Type 0
PlacedUnique = (number place : ℕ) → OneAnswer (λ (r : Given). r ≡ placed number place)

-- What is given tells the refusal, and so the whole answer: where a contract speaks of what is given, the code's answer has no second value.
abbrev pub RefusalUnique : Type 0
RefusalUnique = (g : Given) → OneAnswer (λ (r : Refusal). given_of r ≡ g)

abbrev pub OutcomeUnique : Type 0
OutcomeUnique = (g : Given) → OneAnswer (λ (r : Result Unit Refusal). given_in r ≡ g)

abbrev pub NumberedUnique : Type 1
NumberedUnique = (A : Type 0) (b : Result A Given) → OneAnswer (λ (r : Result A Refusal). numbered r ≡ b)

-- So a contract over what is given that has one outcome has one in the code's answer too, whichever it is.
abbrev pub NumberedOutcomeUnique : Type 1
NumberedOutcomeUnique =
    (A : Type 0) (C : Result A Given → List ℕ → Type 0) → OneOutcome C → OneOutcome (λ (r : Result A Refusal) after. C (numbered r) after)

abbrev pub GivenOutcomeUnique : Type 1
GivenOutcomeUnique = (C : Given → List ℕ → Type 0) → OneOutcome C → OneOutcome (λ (r : Result Unit Refusal) after. C (given_in r) after)

abbrev pub GivenAnswerUnique : Type 1
GivenAnswerUnique = (C : Given → Type 0) → OneAnswer C → OneAnswer (λ (r : Result Unit Refusal). C (given_in r))

abbrev pub WordsUnique : Type 0
WordsUnique = (high low : ℕ) → OneAnswer (Words high low)

abbrev pub ReceivesUnique : Type 0
ReceivesUnique = (s : List ℕ) → OneAnswer (Receives s)

abbrev pub LaysUnique : Type 0
LaysUnique = (before bytes : List ℕ) → OneOutcome (Lays before bytes)

abbrev pub WrapsUnique : Type 0
WrapsUnique = (before : List ℕ) (identifier n : ℕ) → OneOutcome (Wraps before identifier n)

abbrev pub AnswersUnique : Type 0
AnswersUnique = (before : List ℕ) (identifier : ℕ) (d : List ℕ) → OneOutcome (Answers before identifier d)

abbrev pub BuildsUnique : Type 0
BuildsUnique = (before : List ℕ) (identifier : ℕ) (d : List ℕ) → OneOutcome (Builds before identifier d)

-- The same of what the code hands back, which has a refusal in the place of what is given.
abbrev pub WrapUnique : Type 0
WrapUnique = (before : List ℕ) (identifier n : ℕ) → OneOutcome (λ (r : Result ℕ Refusal) after. Wraps before identifier n (numbered r) after)

abbrev pub AnswerUnique : Type 0
AnswerUnique = (before : List ℕ) (identifier : ℕ) (d : List ℕ) → OneOutcome (λ (r : Result ℕ Refusal) after. Answers before identifier d (numbered r) after)

abbrev pub BuildUnique : Type 0
BuildUnique = (before : List ℕ) (identifier : ℕ) (d : List ℕ) → OneOutcome (λ (r : Result ℕ Refusal) after. Builds before identifier d (numbered r) after)

-- `is_holding` and `silence`.
abbrev pub IsHoldingUnique : Type 0
IsHoldingUnique = (h : Holding) (buffer : List ℕ) → OneAnswer (λ (r : Bool). r ≡ is_holding h buffer)

abbrev pub SilenceUnique : Type 0
SilenceUnique = (h : Holding) → OneAnswer (λ (r : Holding). r ≡ silenced h)
