-- Every contract has one outcome: the answer is the rule's, and the bytes after go by the answer.
use mathlib.Core.Bool.{false}
use mathlib.Core.Path.{◌≡◌, refl, sym, ◌∙◌, ap}
use lib.Dec.{eqb}
use Rattle.std.proofs.Common.{ℕ, Option, None, Some, Result, Ok, Err}
use Rattle.frame.specs.Ground.{pick}
use Rattle.frame.specs.Build.{Wraps, Answers, Builds}
use Rattle.frame.specs.Given.{given_in, given_of, numbered}
use Rattle.frame.specs.declared.given.Given.{Given}
use Rattle.frame.specs.declared.given.Refusal.{Refusal}
use Rattle.frame.specs.declared.given.Refusal.TheVariants.{BadState, ShortBuffer, NotWhole, TooLong, WrongCheck, UnknownIdentifier, WrongLength, NoSuchJet, NoSuchMessage, BadParameters, NoContent, NoRoom, Missing, WrongCount, NoPosition, NoCharacter, NoSuchType, NoSuchMoment}
use Rattle.frame.specs.Unique.{PlainUnique, PlacedUnique, RefusalUnique, OutcomeUnique, NumberedUnique, NumberedOutcomeUnique, GivenOutcomeUnique, GivenAnswerUnique, WordsUnique, ReceivesUnique, LaysUnique, WrapsUnique, AnswersUnique, BuildsUnique, WrapUnique, AnswerUnique, BuildUnique, IsHoldingUnique, SilenceUnique}

pub plain_unique : PlainUnique
plain_unique number r r' p q = cc

pub placed_unique : PlacedUnique
placed_unique number place r r' p q = cc

-- ---- What is given tells the refusal.
abbrev place_of : Option ℕ → ℕ
place_of None = 0
place_of (Some i) = i

abbrev named : ℕ → ℕ → Refusal
named n i =
    (pick (eqb n 1) BadState
    (pick (eqb n 2) ShortBuffer
    (pick (eqb n 3) NotWhole
    (pick (eqb n 4) TooLong
    (pick (eqb n 5) WrongCheck
    (pick (eqb n 6) UnknownIdentifier
    (pick (eqb n 7) WrongLength
    (pick (eqb n 8) NoSuchJet
    (pick (eqb n 17) NoSuchMessage
    (pick (eqb n 9) BadParameters
    (pick (eqb n 10) (NoContent i)
    (pick (eqb n 16) NoRoom
    (pick (eqb n 11) Missing
    (pick (eqb n 18) WrongCount
    (pick (eqb n 12) (NoPosition i)
    (pick (eqb n 13) (NoCharacter i)
    (pick (eqb n 14) NoSuchType
    NoSuchMoment)))))))))))))))))

abbrev refusal_of : Given → Refusal
refusal_of g = named g.number (place_of g.place)

refusal_back : (why : Refusal) → refusal_of (given_of why) ≡ why
refusal_back BadState = refl
refusal_back ShortBuffer = refl
refusal_back NotWhole = refl
refusal_back TooLong = refl
refusal_back WrongCheck = refl
refusal_back UnknownIdentifier = refl
refusal_back WrongLength = refl
refusal_back NoSuchJet = refl
refusal_back NoSuchMessage = refl
refusal_back BadParameters = refl
refusal_back (NoContent i) = refl
refusal_back NoRoom = refl
refusal_back Missing = refl
refusal_back WrongCount = refl
refusal_back (NoPosition i) = refl
refusal_back (NoCharacter i) = refl
refusal_back NoSuchType = refl
refusal_back NoSuchMoment = refl

-- No refusal is given as 0, done.
not_done : (why : Refusal) → eqb (given_of why).number 0 ≡ false
not_done BadState = refl
not_done ShortBuffer = refl
not_done NotWhole = refl
not_done TooLong = refl
not_done WrongCheck = refl
not_done UnknownIdentifier = refl
not_done WrongLength = refl
not_done NoSuchJet = refl
not_done NoSuchMessage = refl
not_done BadParameters = refl
not_done (NoContent i) = refl
not_done NoRoom = refl
not_done Missing = refl
not_done WrongCount = refl
not_done (NoPosition i) = refl
not_done (NoCharacter i) = refl
not_done NoSuchType = refl
not_done NoSuchMoment = refl

abbrev outcome_of : Given → Result Unit Refusal
outcome_of g = pick (eqb g.number 0) (Ok tt) (Err (refusal_of g))

outcome_back : (r : Result Unit Refusal) → outcome_of (given_in r) ≡ r
outcome_back (Ok u) = refl
outcome_back (Err why) = rw (not_done why, refusal_back why)

abbrev unnumbered : {A : Type 0} → Result A Given → Result A Refusal
unnumbered (Ok n) = Ok n
unnumbered (Err g) = Err (refusal_of g)

numbered_back : {A : Type 0} (r : Result A Refusal) → unnumbered (numbered r) ≡ r
numbered_back (Ok n) = refl
numbered_back (Err why) = ap Err (refusal_back why)

pub refusal_unique : RefusalUnique
refusal_unique g r r' p q = sym (refusal_back r) ∙ ap refusal_of (p ∙ sym q) ∙ refusal_back r'

pub outcome_unique : OutcomeUnique
outcome_unique g r r' p q = sym (outcome_back r) ∙ ap outcome_of (p ∙ sym q) ∙ outcome_back r'

pub numbered_unique : NumberedUnique
numbered_unique A b r r' p q = sym (numbered_back r) ∙ ap unnumbered (p ∙ sym q) ∙ numbered_back r'

pub numbered_outcome_unique : NumberedOutcomeUnique
numbered_outcome_unique A C one r r' after after' p q =
    let same = one (numbered r) (numbered r') after after' p q in
    (numbered_unique A (numbered r') r r' same.0 refl, same.1)

pub given_outcome_unique : GivenOutcomeUnique
given_outcome_unique C one r r' after after' p q =
    let same = one (given_in r) (given_in r') after after' p q in
    (outcome_unique (given_in r') r r' same.0 refl, same.1)

pub given_answer_unique : GivenAnswerUnique
given_answer_unique C one r r' p q = outcome_unique (given_in r') r r' (one (given_in r) (given_in r') p q) refl

-- ---- Of the other contracts.
pub words_unique : WordsUnique
words_unique high low r r' p q = cc

pub receives_unique : ReceivesUnique
receives_unique s r r' p q = cc

pub lays_unique : LaysUnique
lays_unique before bytes r r' after after' p q = ((cc), (cc))

pub wraps_unique : WrapsUnique
wraps_unique before identifier n r r' after after' p q = ((cc), (cc))

pub answers_unique : AnswersUnique
answers_unique before identifier d r r' after after' p q = ((cc), (cc))

pub builds_unique : BuildsUnique
builds_unique before identifier d r r' after after' p q = ((cc), (cc))

pub wrap_unique : WrapUnique
wrap_unique before identifier n = numbered_outcome_unique ℕ (Wraps before identifier n) (wraps_unique before identifier n)

pub answer_unique : AnswerUnique
answer_unique before identifier d = numbered_outcome_unique ℕ (Answers before identifier d) (answers_unique before identifier d)

pub build_unique : BuildUnique
build_unique before identifier d = numbered_outcome_unique ℕ (Builds before identifier d) (builds_unique before identifier d)

pub is_holding_unique : IsHoldingUnique
is_holding_unique h buffer r r' p q = cc

pub silence_unique : SilenceUnique
silence_unique h r r' p q = cc
