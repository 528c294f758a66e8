-- The receiver for single bytes: what the box makes of a byte, of what is held before it, and what is held behind it.
use Rattle.std.specs.Prelude.{ℕ, List, [], ◌∷◌, ◌++◌, ◌≡◌, leb, length, take}
use Rattle.frame.specs.Ground.{Test, test, checked}
use Rattle.frame.specs.declared.given.Given.{Given}
use Rattle.frame.specs.declared.given.Refusal.{Refusal}
use Rattle.frame.specs.Receive.{received}
use Rattle.frame.specs.Holding.{buffer_behind, holding_behind, is_holding}
use Rattle.frame.specs.declared.holding.Holding.{Holding}
use Rattle.frame.specs.declared.holding.Holding.TheVariants.{Held, Dropping}
use Rattle.printer.specs.State.{printer_of, valid_state}
use Rattle.printer.specs.Messages.{valid_store}
use Rattle.printer.specs.Receive.{Fulfils, Outcome, answer_size, handled, silent, strips_size}
use Rattle.printer.specs.Answer.{Silent}
use Rattle.printer.specs.declared.answer.Answered.{Answered}
use Rattle.printer.specs.declared.single.Taken.{Taken}

-- What is handed in with a byte besides the state: what is held and the buffer that it stands in, the store, and the room of the two
-- buffers.
pub record HandedByte : Type 0 where
  pub byte : ℕ
  pub holding : Holding
  pub buffer : List ℕ
  pub store : List ℕ
  pub answer_room : ℕ
  pub strip_room : ℕ

-- 02, Wish 6: "Refusals: 1 also for a holding that no burst leaves, then 2".
abbrev pub byte_tests : List ℕ → HandedByte → List Test
byte_tests m h =
    test (valid_state m) 1
    ∷ test (valid_store h.store) 1
    ∷ test (is_holding h.holding h.buffer) 1
    ∷ test (leb answer_size h.answer_room) 2
    ∷ test (leb strips_size h.strip_room) 2
    ∷ []

-- A byte that is taken is consumed, also where it is held or dropped.
abbrev pub taken : Outcome → Outcome
taken o =
    record {
      number = o.number;
      place = o.place;
      consumed = 1;
      answer = o.answer;
      strips = o.strips;
      printer = o.printer;
      store = o.store;
    }

-- What is held, and the byte behind it.
abbrev pub joined_by : ℕ → List ℕ → ℕ → List ℕ
joined_by n buffer byte = take n buffer ++ (byte ∷ [])

-- 02, Wish 6: its numbers and answers "are those that the first receiver gives"; "After 4 it drops all until silence", with "a 3 at each
-- byte that completes nothing or is dropped".
abbrev pub byte_handled : List ℕ → HandedByte → Holding → Outcome
byte_handled m h (Held n) =
    let s = joined_by n h.buffer h.byte in taken (handled (printer_of m) h.store s (received s))
byte_handled m h Dropping = taken (silent (printer_of m) 3)

unfoldable pub single : List ℕ → HandedByte → Outcome
single m h =
    checked (byte_tests m h) (λ (r : Given). silent (printer_of m) r.number) (byte_handled m h h.holding)

-- The contract of `counted`: what is handed back of a byte that is taken.
abbrev pub counted : Answered → Answered
counted a =
    record { outcome = a.outcome; consumed = 1; answer = a.answer; strips = a.strips }

-- The contract of `untaken`: 1 and 2 "leave the byte untaken", and what was held stays.
pub record Untaken (why : Refusal) (holding : Holding) (r : Taken) : Type 0 where
  pub answered : Silent why r.answered
  pub holds : r.holding ≡ holding

-- The contracts of `take_held` and `take_byte`: what the first receiver's answer is of an outcome, what is held behind the byte, and the
-- buffer that it stands in.
pub record Takes
    (o : Outcome) (m store : List ℕ) (holding : Holding) (buffer : List ℕ) (byte : ℕ) (answer strips : List ℕ) (r : Taken)
    (m' store' buffer' answer' strips' : List ℕ) : Type 0 where
  pub fulfils : Fulfils o m store answer strips r.answered m' store' answer' strips'
  pub holds : r.holding ≡ holding_behind holding o.number
  pub buffer_bytes : buffer' ≡ buffer_behind holding buffer byte o.number

abbrev pub handed_byte : List ℕ → Holding → List ℕ → ℕ → List ℕ → List ℕ → HandedByte
handed_byte store holding buffer byte answer strips =
    record {
      byte = byte;
      holding = holding;
      buffer = buffer;
      store = store;
      answer_room = length answer;
      strip_room = length strips;
    }

pub record TakesByte
    (m store : List ℕ) (holding : Holding) (buffer : List ℕ) (byte : ℕ) (answer strips : List ℕ) (r : Taken)
    (m' store' buffer' answer' strips' : List ℕ) : Type 0 where
  pub takes :
      Takes (single m (handed_byte store holding buffer byte answer strips)) m store holding buffer byte answer strips r m' store' buffer' answer' strips'
