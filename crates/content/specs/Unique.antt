-- Every contract has one outcome: two that meet it for the same inputs have the same answer and the same bytes after.
use Rattle.std.specs.Prelude.{ℕ, Bool, Result, List, ◌≡◌}
use Rattle.frame.specs.Ground.{OneAnswer, OneOutcome, within}
use Rattle.frame.specs.Given.{given_in, numbered}
use Rattle.frame.specs.declared.given.Refusal.{Refusal}
use Rattle.content.specs.Byte.{characters_in_front}
use Rattle.content.specs.Content.{Reads, Tests, is_content}
use Rattle.content.specs.Edit.{Edits}
use Rattle.content.specs.Machine.{start}
use Rattle.content.specs.Update.{Updates, laid}
use Rattle.content.specs.Position.{field_positions}
use Rattle.content.specs.Strip.{Puts, Strips}
use Rattle.content.specs.declared.strip.Values.{Values}

abbrev pub ReadsUnique : Type 0
ReadsUnique = (s : List ℕ) → OneAnswer (Reads s)

abbrev pub TestsUnique : Type 0
TestsUnique = (s : List ℕ) → OneAnswer (Tests s)

-- `within`, `characters_in_front`, `is_content`, `field_positions` and `lay_text` have their rule's value as their contract.
abbrev pub WithinUnique : Type 0
WithinUnique = (least most b : ℕ) → OneAnswer (λ (r : Bool). r ≡ within least most b)

abbrev pub CharactersInFrontUnique : Type 0
CharactersInFrontUnique = (s : List ℕ) → OneAnswer (λ (r : ℕ). r ≡ characters_in_front s)

abbrev pub IsContentUnique : Type 0
IsContentUnique = (s : List ℕ) → OneAnswer (λ (r : Bool). r ≡ is_content s)

abbrev pub FieldPositionsUnique : Type 0
FieldPositionsUnique = (s : List ℕ) → OneAnswer (λ (r : ℕ). r ≡ field_positions s)

abbrev pub LayTextUnique : Type 0
LayTextUnique = (before text : List ℕ) → OneAnswer (λ (after : List ℕ). after ≡ laid text start before)

abbrev pub EditsUnique : Type 0
EditsUnique = (before : List ℕ) (address : ℕ) (symbols : List ℕ) → OneOutcome (Edits before address symbols)

abbrev pub UpdatesUnique : Type 0
UpdatesUnique = (before text : List ℕ) → OneOutcome (Updates before text)

abbrev pub StripsUnique : Type 0
StripsUnique = (v : Values) (s before : List ℕ) → OneOutcome (Strips v s before)

abbrev pub PutsUnique : Type 0
PutsUnique = (v : Values) (s before : List ℕ) → OneOutcome (Puts v s before)

-- The calls hand back refusals by name, and their contracts speak of what is given of those. What is given tells the refusal, so a call
-- has no second answer either, and no second bytes.
abbrev pub TestAnswerUnique : Type 0
TestAnswerUnique = (s : List ℕ) → OneAnswer (λ (r : Result Unit Refusal). Tests s (given_in r))

abbrev pub EditAnswerUnique : Type 0
EditAnswerUnique =
    (before : List ℕ) (address : ℕ) (symbols : List ℕ) →
    OneOutcome (λ (r : Result Unit Refusal). Edits before address symbols (numbered r))

abbrev pub UpdateAnswerUnique : Type 0
UpdateAnswerUnique = (before text : List ℕ) → OneOutcome (λ (r : Result Unit Refusal). Updates before text (numbered r))

abbrev pub StripAnswerUnique : Type 0
StripAnswerUnique = (v : Values) (s before : List ℕ) → OneOutcome (λ (r : Result ℕ Refusal). Strips v s before (numbered r))

abbrev pub PutAnswerUnique : Type 0
PutAnswerUnique = (v : Values) (s before : List ℕ) → OneOutcome (λ (r : Result ℕ Refusal). Puts v s before (numbered r))
