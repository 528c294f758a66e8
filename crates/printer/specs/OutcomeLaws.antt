-- What document 01 promises of every outcome, as statements over the rules: a refusal keeps the state and the store, what is accepted is
-- acknowledged, an answer fits the buffer that the box asks for, and the lengths handed back find answer and strips.
use Rattle.std.specs.Prelude.{ℕ, ◌+◌, ◌<◌, ◌≤◌, List, [], ◌∷◌, ◌≡◌, length, get_or, take, drop}
use Rattle.printer.specs.State.{printer_of}
use Rattle.printer.specs.Order.{unchanged, no_strips}
use Rattle.printer.specs.Answer.{ack, nack}
use Rattle.printer.specs.Receive.{Handed, Outcome, outcome, kept, answer_size, handed, Receives}
use Rattle.printer.specs.declared.answer.Answered.{Answered}

-- 01, Numbers: "For 1 to 13 the state stays, as for a number added later, which consumes and answers like 13". 1, 2 and 3 consume
-- nothing and answer nothing, the others answer 15h alone; none writes a strip.
pub record Refuses (m : List ℕ) (o : Outcome) : Type 0 where
  pub printer : o.printer ≡ printer_of m
  pub state : kept o m ≡ m
  pub store : o.store ≡ unchanged
  pub strips : o.strips ≡ no_strips
  pub consumes_nothing : o.number < 4 → o.consumed ≡ 0
  pub answers_nothing : o.number < 4 → o.answer ≡ []
  pub answers_nack : 4 ≤ o.number → o.answer ≡ nack ∷ []

abbrev pub RefusalKeeps : Type 0
RefusalKeeps = (m : List ℕ) (h : Handed) → ((outcome m h).number ≡ 0 → ⊥) → Refuses m (outcome m h)

-- 01, Numbers: consumed is "0", "all handed in", or "the frame, update or 05h": never more than was handed in.
abbrev pub ConsumesHandedIn : Type 0
ConsumesHandedIn = (m : List ℕ) (h : Handed) → (outcome m h).consumed ≤ length h.bytes

-- 01, Numbers: 0 "06h and any frame".
abbrev pub AcceptedAnswers : Type 0
AcceptedAnswers = (m : List ℕ) (h : Handed) → (outcome m h).number ≡ 0 → take 1 (outcome m h).answer ≡ ack ∷ []

-- 01, Numbers, 2: an answer buffer of 554 bytes is enough for every answer.
abbrev pub AnswerFits : Type 0
AnswerFits = (m : List ℕ) (h : Handed) → length (outcome m h).answer ≤ answer_size

-- 01, On the wire: what is handed back has "the answer's length and the length of each jet's strip (0 where none)", and the strips stand
-- "one behind the other from the start of the strip buffer": so many bytes there are the answer, and the strip of each jet.
abbrev pub total : List ℕ → ℕ
total [] = 0
total (n ∷ ns) = n + total ns

pub record Finds (o : Outcome) (r : Answered) (answer strips : List ℕ) : Type 0 where
  pub answer_there : take r.answer answer ≡ o.answer
  pub strip_there :
      (i : ℕ) → take (get_or r.strips i 0) (drop (total (take i r.strips)) strips) ≡ get_or o.strips i []

abbrev pub LengthsTell : Type 0
LengthsTell =
    (m store s answer strips : List ℕ) (r : Answered) (m' store' answer' strips' : List ℕ) →
    Receives m store s answer strips r m' store' answer' strips' →
    Finds (outcome m (handed store s answer strips)) r answer' strips'
