-- Every contract has one outcome: the answer is the rule's, and the bytes after go by the answer.
use Rattle.std.proofs.Common.{ℕ}
use Rattle.frame.proofs.Unique.{numbered_outcome_unique, given_answer_unique}
use Rattle.content.specs.Content.{Tests}
use Rattle.content.specs.Edit.{Edits}
use Rattle.content.specs.Update.{Updates}
use Rattle.content.specs.Strip.{Strips, Puts}
use Rattle.content.specs.Unique.{ReadsUnique, TestsUnique, WithinUnique, CharactersInFrontUnique, IsContentUnique, FieldPositionsUnique, EditsUnique, LayTextUnique, UpdatesUnique, StripsUnique, PutsUnique, TestAnswerUnique, EditAnswerUnique, UpdateAnswerUnique, StripAnswerUnique, PutAnswerUnique}

pub reads_unique : ReadsUnique
reads_unique s r r' p q = cc

pub tests_unique : TestsUnique
tests_unique s r r' p q = cc

pub within_unique : WithinUnique
within_unique least most b r r' p q = cc

pub characters_in_front_unique : CharactersInFrontUnique
characters_in_front_unique s r r' p q = cc

pub is_content_unique : IsContentUnique
is_content_unique s r r' p q = cc

pub field_positions_unique : FieldPositionsUnique
field_positions_unique s r r' p q = cc

pub lay_text_unique : LayTextUnique
lay_text_unique before text after after' p q = cc

pub edits_unique : EditsUnique
edits_unique before address symbols r r' after after' p q = ((cc), (cc))

pub updates_unique : UpdatesUnique
updates_unique before text r r' after after' p q = ((cc), (cc))

pub strips_unique : StripsUnique
strips_unique v s before r r' after after' p q = ((cc), (cc))

pub puts_unique : PutsUnique
puts_unique v s before r r' after after' p q = ((cc), (cc))

-- ---- Of the answers that the calls hand back.
pub test_answer_unique : TestAnswerUnique
test_answer_unique s = given_answer_unique (Tests s) (tests_unique s)

pub edit_answer_unique : EditAnswerUnique
edit_answer_unique before address symbols = numbered_outcome_unique Unit (Edits before address symbols) (edits_unique before address symbols)

pub update_answer_unique : UpdateAnswerUnique
update_answer_unique before text = numbered_outcome_unique Unit (Updates before text) (updates_unique before text)

pub strip_answer_unique : StripAnswerUnique
strip_answer_unique v s before = numbered_outcome_unique ℕ (Strips v s before) (strips_unique v s before)

pub put_answer_unique : PutAnswerUnique
put_answer_unique v s before = numbered_outcome_unique ℕ (Puts v s before) (puts_unique v s before)
