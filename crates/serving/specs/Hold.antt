-- A byte of a line: what the box makes of it where it is called only once what is held is whole, and what is held behind it.
use Rattle.std.specs.Prelude.{ℕ, Err, List, ◌≡◌, eqb, leb, length, set, replicate}
use Rattle.frame.specs.Ground.{pick, within}
use Rattle.frame.specs.Holding.{holding_behind}
use Rattle.frame.specs.Receive.{number, received}
use Rattle.frame.specs.Given.{given_in}
use Rattle.frame.specs.declared.given.Refusal.{Refusal}
use Rattle.frame.specs.declared.holding.Holding.{Holding}
use Rattle.frame.specs.declared.holding.Holding.TheVariants.{Held, Dropping}
use Rattle.printer.specs.State.{printer_of}
use Rattle.printer.specs.Receive.{Fulfils, Handed, Outcome, outcome, silent}
use Rattle.printer.specs.Single.{HandedByte, counted, handed_byte, joined_by, taken}
use Rattle.printer.specs.declared.answer.Answered.{Answered}
use Rattle.printer.specs.declared.single.Taken.{Taken}

-- What is held and the byte behind it, handed in to the box.
abbrev pub handed_in : HandedByte → List ℕ → Handed
handed_in h s = record { bytes = s; store = h.store; answer_room = h.answer_room; strip_room = h.strip_room }

-- 02, Wish 6: "a 3 at each byte that completes nothing": the box is not called. What is whole is handed in to it.
abbrev pub asked : List ℕ → HandedByte → List ℕ → Outcome
asked m h s = pick (eqb (number (received s)) 3) (silent (printer_of m) 3) (outcome m (handed_in h s))

-- 02, Wish 6: 1 and 2 "leave the byte untaken"; else it is consumed.
abbrev pub taken_unless : Outcome → Outcome
taken_unless o = pick (within 1 2 o.number) o (taken o)

-- 02, Wish 6: "After 4 it drops all until silence", with a 3 at each byte that "is dropped"; "1 also for a holding that no burst leaves":
-- here one without room for a byte.
abbrev pub served_by : List ℕ → HandedByte → Holding → Outcome
served_by m h (Held n) =
    pick (leb (length h.buffer) n) (silent (printer_of m) 1)
    (taken_unless (asked m h (joined_by n h.buffer h.byte)))
served_by m h Dropping = taken (silent (printer_of m) 3)

unfoldable pub served : List ℕ → HandedByte → Outcome
served m h = served_by m h h.holding

-- In the buffer the byte stands behind those that were held, also where it is left untaken.
abbrev pub left_buffer : Holding → List ℕ → ℕ → List ℕ
left_buffer (Held n) buffer byte = set buffer n byte
left_buffer Dropping buffer byte = buffer

-- The contract of `uncalled`: a refusal and nothing else.
abbrev pub uncalled : Refusal → ℕ → Answered
uncalled why consumed = record { outcome = Err why; consumed = consumed; answer = 0; strips = replicate 4 0 }

-- The contract of `behind`.
abbrev pub behind : ℕ → Answered → Taken
behind n a =
    record {
      answered = pick (within 1 2 (given_in a.outcome).number) a (counted a);
      holding = holding_behind (Held n) (given_in a.outcome).number;
    }

-- The contract of `serve`: all that the box gave, what is held behind the byte, and the buffer that it stands in.
pub record Serves
    (m store : List ℕ) (holding : Holding) (buffer : List ℕ) (byte : ℕ) (answer strips : List ℕ) (r : Taken)
    (m' store' buffer' answer' strips' : List ℕ) : Type 0 where
  pub fulfils :
      Fulfils (served m (handed_byte store holding buffer byte answer strips)) m store answer strips r.answered m' store' answer' strips'
  pub holds : r.holding ≡ holding_behind holding (served m (handed_byte store holding buffer byte answer strips)).number
  pub buffer_bytes : buffer' ≡ left_buffer holding buffer byte
