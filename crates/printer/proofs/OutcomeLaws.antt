-- What document 01 promises of every outcome, read off the three kinds that there are.
use Prim.Native.Nat.{ℕ, zero, suc, ◌+◌, ◌-◌, ◌≤◌}
use mathlib.Core.Bool.{true}
use mathlib.Core.List.{List, [], ◌∷◌, ◌++◌, append_assoc, map}
use mathlib.Core.Path.{◌≡◌, refl, ◌∙◌, ap}
use native.Mathlib.Omega.{arith}
use borrow.Author.Tests.{ne_eqb}
use lib.Dec.{leb}
use lib.ListN.{length, get_or, take, drop, length-append, length-take}
use lib.Seq.{take_at, drop-append-add}
use Rattle.frame.specs.Ground.{checked, joined, Test}
use Rattle.frame.specs.declared.given.Given.{Given}
use Rattle.frame.specs.Build.{frame}
use Rattle.frame.specs.Receive.{received}
use Rattle.frame.specs.declared.receive.Received.{Received}
use Rattle.frame.specs.declared.receive.Received.TheVariants.{Partial, Refused, Misfit, Enquiry, Update, Frame}
use Rattle.frame.proofs.Ground.{unless_case, unless_tells}
use Rattle.frame.proofs.Told.{frame_length}
use Rattle.frame.proofs.Laws.{consumed_inside}
use Rattle.calendar.specs.Clock.{clock_text}
use Rattle.calendar.specs.DateChange.{table_text}
use Rattle.calendar.proofs.ClockLaws.{texts_long}
use Rattle.calendar.proofs.DateChangeLaws.{table_long}
use Rattle.printer.specs.Number.{digits}
use Rattle.printer.specs.Counter.{counter_of}
use Rattle.printer.specs.Jet.{Jet, message, parameters, jet_size, jet_of}
use Rattle.printer.specs.State.{Printer, jets_place, empty_jet, jet_at, jets_of, valid_state, printer_of}
use Rattle.printer.specs.Order.{Order, jet_number}
use Rattle.printer.specs.Answer.{ack}
use Rattle.printer.specs.Change.{set_message, set_parameters, set_both, edit_message, update_fields}
use Rattle.printer.specs.Messages.{valid_store, store_message, select_message}
use Rattle.printer.specs.Request.{ask_counter, ask_message, ask_table, ask_clock}
use Rattle.printer.specs.Print.{print}
use Rattle.printer.specs.Receive.{Outcome, outcome, handled, obeyed, order, enquire, kept, refusal, done, answer_size, strips_size, Meets}
use Rattle.printer.specs.OutcomeLaws.{Refuses, RefusalKeeps, ConsumesHandedIn, AcceptedAnswers, AnswerFits, total, Finds, LengthsTell}
use Rattle.printer.specs.declared.answer.Answered.{Answered}
use Rattle.printer.proofs.Outcomes.{Kind, silence, refused, accepted, outcome_kind}
use Rattle.printer.proofs.OrderLaws.{printer_order_case, order_case}
use Rattle.printer.proofs.Valid.{valid_printer, valid_at, jet_short}

-- ---- A refusal keeps the state and the store, and what is accepted is acknowledged.
stays : (m : List ℕ) (o : Outcome) → (o.number ≡ 0 → ⊥) → kept o m ≡ m
stays m o z = rw (ne_eqb o.number 0 z)

refuses : (m : List ℕ) {c : ℕ} {o : Outcome} → Kind (printer_of m) c o → (o.number ≡ 0 → ⊥) → Refuses m o
refuses m {o = o} (silence n h g) z =
    record { printer = refl; state = stays m o z; store = refl; strips = refl; consumes_nothing = λ _. refl; answers_nothing = λ _. refl; answers_nack = λ e. absurd (omega arith) }
refuses m {o = o} (refused n h) z =
    record { printer = refl; state = stays m o z; store = refl; strips = refl; consumes_nothing = λ e. absurd (omega arith); answers_nothing = λ e. absurd (omega arith); answers_nack = λ _. refl }
refuses m (accepted o) z = absurd (z refl)

pub refusal_keeps : RefusalKeeps
refusal_keeps m h = refuses m (outcome_kind m h)

acknowledges : {p : Printer} {c : ℕ} {o : Outcome} → Kind p c o → o.number ≡ 0 → take 1 o.answer ≡ ack ∷ []
acknowledges (silence n h g) e = absurd (omega arith)
acknowledges (refused n h) e = absurd (omega arith)
acknowledges (accepted o) e = refl

pub accepted_answers : AcceptedAnswers
accepted_answers m h = acknowledges (outcome_kind m h)

consumes : {p : Printer} {c n : ℕ} {o : Outcome} → Kind p c o → c ≤ n → o.consumed ≤ n
consumes (silence n h g) e = omega arith
consumes (refused n h) e = e
consumes (accepted o) e = e

pub consumes_handed_in : ConsumesHandedIn
consumes_handed_in m h = consumes (outcome_kind m h) (consumed_inside h.bytes)

-- ---- The longest answer is that of 43h: 06h, and a frame of 37 and at most 512 bytes.
-- What holds of every 559 bytes read as a jet, and of the empty jet, holds of every jet of a state.
row_case : (P : Jet → Type 0) → ((b : List ℕ) → P (jet_of b)) → P empty_jet → (k i : ℕ) (b : List ℕ) → P (get_or (jets_of k b) i empty_jet)
row_case P f e zero i b = e
row_case P f e (suc k) zero b = f (take jet_size b)
row_case P f e (suc k) (suc i) b = row_case P f e k i (drop jet_size b)

pub jet_case : (P : Jet → Type 0) → ((b : List ℕ) → P (jet_of b)) → P empty_jet → (m : List ℕ) (n : ℕ) → P (jet_at (printer_of m) n)
unfolding printer_of
jet_case P f e m n = row_case P f e 4 (n - 1) (drop jets_place m)

read_short : (b : List ℕ) → length (parameters (jet_of b)) ≤ 37
unfolding jet_of counter_of
read_short b = simp (length-append, length-take) (omega arith)

empty_short : length (parameters empty_jet) ≤ 37
unfolding empty_jet
empty_short = omega arith

parameters_short : (m : List ℕ) (n : ℕ) → length (parameters (jet_at (printer_of m) n)) ≤ 37
parameters_short m n = jet_case (λ (j : Jet). length (parameters j) ≤ 37) read_short empty_short m n

abbrev Short : Order → Type 0
Short o = length o.frame ≤ 553

told_short : (identifier : ℕ) (d : List ℕ) → length d ≤ 549 → length (frame identifier d) ≤ 553
told_short identifier d h = omega (arith, frame_length identifier d)

counter_short : (p : Printer) (d : List ℕ) → Short (ask_counter p d)
unfolding ask_counter digits
counter_short p d = told_short 0x39 _ (omega arith)

-- Number 0 names the first jet of the row too.
at_short : (m : List ℕ) (n : ℕ) → valid_state m ≡ true → (jet_at (printer_of m) n).length ≤ 512
at_short m zero v = jet_short _ (jet_at (printer_of m) 1) (valid_at (printer_of m) 1 (valid_printer m v) (omega arith))
at_short m (suc n) v = jet_short _ (jet_at (printer_of m) (suc n)) (valid_at (printer_of m) (suc n) (valid_printer m v) (omega arith))

message_short : (m d : List ℕ) → valid_state m ≡ true → Short (ask_message (printer_of m) d)
unfolding ask_message
message_short m d v =
    let j : Jet = jet_at (printer_of m) (jet_number d) in
    told_short 0x43 (parameters j ++ message j)
    (omega (arith, length-append (parameters j) (message j), length-take j.length j.content, parameters_short m (jet_number d), at_short m (jet_number d) v))

table_short : (p : Printer) → Short (ask_table p)
unfolding ask_table
table_short p = told_short 0x52 (table_text p.date_change) (omega (arith, table_long p.date_change))

clock_short : (p : Printer) → Short (ask_clock p)
unfolding ask_clock
clock_short p = told_short 0x9C (clock_text p.clock) (omega (arith, (texts_long p.clock).1))

order_short : (m store : List ℕ) (i : ℕ) (d : List ℕ) → valid_state m ≡ true → Short (order (printer_of m) store i d)
unfolding set_message set_parameters set_both edit_message print store_message select_message
order_short m store i d v =
    let p : Printer = printer_of m in
    order_case Short p store i d (λ _. omega arith) (λ _. omega arith) (λ _.
    printer_order_case Short p i d
    (λ _. omega arith) (λ _. omega arith) (λ _. omega arith) (λ _. counter_short p d) (λ _. omega arith) (λ _. message_short m d v)
    (λ _. table_short p) (λ _. omega arith) (λ _ _. clock_short p))

abbrev Fits : Outcome → Type 0
Fits o = length o.answer ≤ answer_size

tests_fit : (p : Printer) (o : Order) (c : ℕ) (ts : List Test) → Short o → Fits (checked ts (λ (r : Given). refusal p r c) (done o c))
tests_fit p o c [] h = omega arith
tests_fit p o c (t ∷ ts) h = unless_case Fits t.holds _ _ (omega arith) (tests_fit p o c ts h)

obeyed_fits : (p : Printer) (o : Order) (c : ℕ) → Short o → Fits (obeyed p o c)
unfolding obeyed
obeyed_fits p o c h = tests_fit p o c o.tests h

update_short : (p : Printer) (text : List ℕ) → Short (update_fields p text)
unfolding update_fields
update_short p text = omega arith

handled_fits : (m store s : List ℕ) (r : Received) → valid_state m ≡ true → Fits (handled (printer_of m) store s r)
handled_fits m store s Partial v = omega arith
handled_fits m store s (Refused k c) v = omega arith
handled_fits m store s (Misfit k i n c) v = omega arith
handled_fits m store s Enquiry v = obeyed_fits (printer_of m) (enquire (printer_of m)) 1 (omega arith)
handled_fits m store s (Update n c) v = obeyed_fits (printer_of m) (update_fields (printer_of m) (take n (drop 1 s))) c (update_short (printer_of m) (take n (drop 1 s)))
handled_fits m store s (Frame i n c) v = obeyed_fits (printer_of m) (order (printer_of m) store i (take n (drop 3 s))) c (order_short m store i (take n (drop 3 s)) v)

pub answer_fits : AnswerFits
unfolding outcome
answer_fits m h =
    unless_tells Fits (valid_state m) _ _ (λ _. omega arith)
    (λ v. unless_case Fits (valid_store h.store) _ _ (omega arith)
    (unless_case Fits (leb answer_size h.answer_room) _ _ (omega arith)
    (unless_case Fits (leb strips_size h.strip_room) _ _ (omega arith) (handled_fits m h.store h.bytes (received h.bytes) v))))

-- ---- What is laid over a buffer is found there again: the answer at the front, and each strip behind those before it.
strip_found : (xs : List (List ℕ)) (rest : List ℕ) (i : ℕ)
    → take (get_or (map length xs) i 0) (drop (total (take i (map length xs))) (joined xs ++ rest)) ≡ get_or xs i []
strip_found [] rest zero = refl
strip_found [] rest (suc i) = refl
strip_found (x ∷ xs) rest zero = ap (take (length x)) (append_assoc x (joined xs) rest) ∙ take_at x (joined xs ++ rest) (length x) refl
strip_found (x ∷ xs) rest (suc i) =
    ap (take (get_or (map length xs) i 0))
    (ap (drop (length x + total (take i (map length xs)))) (append_assoc x (joined xs) rest)
    ∙ drop-append-add x (joined xs ++ rest) (total (take i (map length xs))))
    ∙ strip_found xs rest i

found : {o : Outcome} {m answer strips : List ℕ} {r : Answered} {m' answer' strips' : List ℕ} → Meets o m answer strips r m' answer' strips' → Finds o r answer' strips'
found {o} {answer = answer} {strips = strips} x =
    rw (x.answers, x.prints, x.answer_bytes, x.strip_bytes)
    (record {
      answer_there = take_at o.answer (drop (length o.answer) answer) (length o.answer) refl;
      strip_there = strip_found o.strips (drop (length (joined o.strips)) strips);
    })

pub lengths_tell : LengthsTell
lengths_tell m store s answer strips r m' store' answer' strips' h = found h.fulfils.meets
