-- No second outcome meets a contract of `library`: the answer is the rule's, and so are the bytes after it.
use mathlib.Core.Path.{sym, ◌∙◌}
use Rattle.frame.proofs.Unique.{given_outcome_unique}
use Rattle.library.specs.Store.{Keeps}
use Rattle.library.specs.Unique.{RecordAtUnique, IsNumberUnique, IsStoreUnique, BodyUnique, KeepUnique, KeepAnswerUnique}

pub record_at_unique : RecordAtUnique
record_at_unique s at r r' p q = p ∙ sym q

pub is_number_unique : IsNumberUnique
is_number_unique n r r' p q = p ∙ sym q

pub is_store_unique : IsStoreUnique
is_store_unique s r r' p q = p ∙ sym q

pub body_unique : BodyUnique
body_unique s n r r' p q = p ∙ sym q

pub keep_unique : KeepUnique
keep_unique s n body r r' after after' p q = (p.gives ∙ sym q.gives, p.store ∙ sym q.store)

pub keep_answer_unique : KeepAnswerUnique
keep_answer_unique s n body = given_outcome_unique (Keeps s n body) (keep_unique s n body)
