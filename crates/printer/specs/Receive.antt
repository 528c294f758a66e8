-- What the box makes of the bytes handed in: one outcome for every state, every buffer and all bytes.
use Rattle.std.specs.Prelude.{ℕ, ◌≤◌, true, Option, None, List, [], ◌∷◌, map, ◌≡◌, eqb, leb, length, take, drop}
use Rattle.frame.specs.Ground.{Test, pick, test, checked, joined, over}
use Rattle.frame.specs.declared.given.Given.{Given}
use Rattle.frame.specs.Given.{given_in, given_of}
use Rattle.frame.specs.Receive.{received}
use Rattle.frame.specs.declared.receive.Received.{Received}
use Rattle.frame.specs.declared.receive.Received.TheVariants.{Partial, Refused, Misfit, Enquiry, Update, Frame}
use Rattle.printer.specs.State.{Printer, printer_of, bytes_of, valid_state}
use Rattle.printer.specs.Order.{Order, StoreChange, unchanged, store_after, change, no_strips}
use Rattle.printer.specs.Answer.{ack, nack}
use Rattle.printer.specs.Change.{set_message, set_parameters, set_both, edit_message, update_fields}
use Rattle.printer.specs.Messages.{valid_store, store_message, select_message}
use Rattle.printer.specs.Request.{ask_counter, ask_message, ask_table, ask_clock}
use Rattle.printer.specs.Print.{print}
use Rattle.printer.specs.declared.answer.Answered.{Answered}

-- 01, Numbers: "answer buffer under 554 or strip buffer under 6,144 bytes".
abbrev pub answer_size : ℕ
answer_size = 554

abbrev pub strips_size : ℕ
strips_size = 6144

-- What is handed in besides the state: the bytes, the store, and the room of the two buffers.
pub record Handed : Type 0 where
  pub bytes : List ℕ
  pub store : List ℕ
  pub answer_room : ℕ
  pub strip_room : ℕ

-- 01, On the wire: "gets back a number, the count consumed, the answer's length and the length of each jet's strip (0 where none)". 02,
-- Wish 4: a number "shall carry a place", where it has one.
pub record Outcome : Type 0 where
  pub number : ℕ
  pub place : Option ℕ
  pub consumed : ℕ
  pub answer : List ℕ
  pub strips : List (List ℕ)
  pub printer : Printer
  pub store : StoreChange

abbrev pub given_by : Outcome → Given
given_by o = record { number = o.number; place = o.place }

-- 01, Numbers, 1 to 3: nothing consumed, no answer.
abbrev pub silent : Printer → ℕ → Outcome
silent p number =
    record { number = number; place = None; consumed = 0; answer = []; strips = no_strips; printer = p; store = unchanged }

-- 01, Numbers, 4 to 13: "15h", and "the state stays, as for a number added later".
abbrev pub refusal : Printer → Given → ℕ → Outcome
refusal p g consumed =
    record {
      number = g.number;
      place = g.place;
      consumed = consumed;
      answer = nack ∷ [];
      strips = no_strips;
      printer = p;
      store = unchanged;
    }

-- 01, Numbers, 0: "06h and any frame".
abbrev pub done : Order → ℕ → Outcome
done o consumed =
    record {
      number = 0;
      place = None;
      consumed = consumed;
      answer = ack ∷ o.frame;
      strips = o.strips;
      printer = o.after;
      store = o.store;
    }

-- An order is refused at its first test that fails, or done.
unfoldable pub obeyed : Printer → Order → ℕ → Outcome
obeyed p o consumed = checked o.tests (λ (r : Given). refusal p r consumed) (done o consumed)

-- 01, On the wire, the table: the order of each identifier, in the table's order; the last row is D6h.
unfoldable pub printer_order : Printer → ℕ → List ℕ → Order
printer_order p identifier d =
    pick (eqb identifier 0x0A) (set_message p d)
    (pick (eqb identifier 0x0B) (set_parameters p d)
    (pick (eqb identifier 0x0C) (set_both p d)
    (pick (eqb identifier 0x39) (ask_counter p d)
    (pick (eqb identifier 0x42) (edit_message p d)
    (pick (eqb identifier 0x43) (ask_message p d)
    (pick (eqb identifier 0x52) (ask_table p)
    (pick (eqb identifier 0x94) (print p)
    (ask_clock p))))))))

-- 02, Wish 1: 1Ch and 40h, which need the store; all others are the printer's own.
unfoldable pub order : Printer → List ℕ → ℕ → List ℕ → Order
order p store identifier d =
    pick (eqb identifier 0x1C) (store_message p store d)
    (pick (eqb identifier 0x40) (select_message p store d)
    (printer_order p identifier d))

-- 01, On the wire: a 05h "is complete and answered 06h".
abbrev pub enquire : Printer → Order
enquire p = change [] p

-- What was received, in a valid state, with a well-formed store and buffers of the stated size.
abbrev pub handled : Printer → List ℕ → List ℕ → Received → Outcome
handled p store s Partial = silent p 3
handled p store s (Refused why consumed) = refusal p (given_of why) consumed
handled p store s (Misfit why identifier n consumed) = refusal p (given_of why) consumed
handled p store s Enquiry = obeyed p (enquire p) 1
handled p store s (Update n consumed) = obeyed p (update_fields p (take n (drop 1 s))) consumed
handled p store s (Frame identifier n consumed) = obeyed p (order p store identifier (take n (drop 3 s))) consumed

-- 01, Numbers: 1 "state not valid", then 2 "answer buffer under 554 or strip buffer under 6,144 bytes", then the rest. 02, Wish 1: "a store
-- that isn't well formed is a state not valid".
abbrev pub handing_tests : List ℕ → Handed → List Test
handing_tests m h =
    test (valid_state m) 1
    ∷ test (valid_store h.store) 1
    ∷ test (leb answer_size h.answer_room) 2
    ∷ test (leb strips_size h.strip_room) 2
    ∷ []

unfoldable pub outcome : List ℕ → Handed → Outcome
outcome m h =
    checked
    (handing_tests m h)
    (λ (r : Given). silent (printer_of m) r.number)
    (handled (printer_of m) h.store h.bytes (received h.bytes))

-- Where none of these applies, what was received is handled, and nothing of this is tested again.
pub record Ready (m store answer strips : List ℕ) : Type 0 where
  pub valid : valid_state m ≡ true
  pub formed : valid_store store ≡ true
  pub answer_room : answer_size ≤ length answer
  pub strip_room : strips_size ≤ length strips

-- The bytes of the state behind an outcome: "For 1 to 13 the state stays".
abbrev pub kept : Outcome → List ℕ → List ℕ
kept o m = pick (eqb o.number 0) (bytes_of o.printer) m

-- What is handed back says what an outcome is; the state holds what the outcome left; the answer buffer holds the answer, the strip
-- buffer the strips one behind the other, and behind them each holds what it held.
pub record Meets (o : Outcome) (m answer strips : List ℕ) (r : Answered) (m' answer' strips' : List ℕ) : Type 0 where
  pub gives : given_in r.outcome ≡ given_by o
  pub consumes : r.consumed ≡ o.consumed
  pub answers : r.answer ≡ length o.answer
  pub prints : r.strips ≡ map length o.strips
  pub leaves : m' ≡ kept o m
  pub answer_bytes : answer' ≡ over o.answer answer
  pub strip_bytes : strips' ≡ over (joined o.strips) strips

-- The same, and what becomes of the store.
pub record Fulfils (o : Outcome) (m store answer strips : List ℕ) (r : Answered) (m' store' answer' strips' : List ℕ) : Type 0 where
  pub meets : Meets o m answer strips r m' answer' strips'
  pub stores : store' ≡ store_after o.store store

-- The contract of `receive`.
abbrev pub handed : List ℕ → List ℕ → List ℕ → List ℕ → Handed
handed store s answer strips =
    record { bytes = s; store = store; answer_room = length answer; strip_room = length strips }

pub record Receives (m store s answer strips : List ℕ) (r : Answered) (m' store' answer' strips' : List ℕ) : Type 0 where
  pub fulfils : Fulfils (outcome m (handed store s answer strips)) m store answer strips r m' store' answer' strips'
