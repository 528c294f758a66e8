-- The tests of every frame and call of the printer stand in the order of the numbers, so that of those that apply the first is given.
use Rattle.std.specs.Prelude.{ℕ, true, false, List, [], ◌++◌, ◌≡◌, take, drop}
use Rattle.frame.specs.Ground.{Test, all}
use Rattle.frame.specs.declared.given.Given.{Given}
use Rattle.frame.specs.Numbers.{FirstGiven, in_order}
use Rattle.frame.specs.NumberLaws.{receive_tests}
use Rattle.frame.specs.Receive.{received}
use Rattle.frame.specs.declared.receive.Received.{Received}
use Rattle.frame.specs.declared.receive.Received.TheVariants.{Partial, Refused, Misfit, Enquiry, Update, Frame}
use Rattle.printer.specs.State.{Printer, printer_of}
use Rattle.printer.specs.Order.{Obeys}
use Rattle.printer.specs.Change.{update_fields}
use Rattle.printer.specs.Receive.{Handed, given_by, handing_tests, order, outcome}
use Rattle.printer.specs.Single.{HandedByte, byte_tests, single}
use Rattle.printer.specs.Messages.{Shows, show_tests}
use Rattle.printer.specs.Call.{Freshens, set_clock, set_date_change, size_tests, tick_clock}
use Rattle.calendar.specs.declared.clock.Clock.{Clock}
use Rattle.calendar.specs.declared.date_change.TimeOfDay.{TimeOfDay}

-- 01, Numbers: "Checked in this order". Of each frame, an update, the bytes handed in, a single byte, a fresh printer, setting the clock and the date
-- change, a tick, and what the approval screen asks for.
pub record InOrder : Type 0 where
  pub frames : (p : Printer) (store : List ℕ) (identifier : ℕ) (d : List ℕ) → in_order (order p store identifier d).tests ≡ true
  pub updates : (p : Printer) (text : List ℕ) → in_order (update_fields p text).tests ≡ true
  pub handing : (m : List ℕ) (h : Handed) → in_order (handing_tests m h) ≡ true
  pub bytes : (m : List ℕ) (h : HandedByte) → in_order (byte_tests m h) ≡ true
  pub fresh : (m : List ℕ) (model : ℕ) (clock : Clock) → in_order (size_tests m model clock) ≡ true
  pub clock : (m : List ℕ) (clock : Clock) → in_order (set_clock m clock).tests ≡ true
  pub date_change : (m : List ℕ) (time : TimeOfDay) → in_order (set_date_change m time).tests ≡ true
  pub tick : (m : List ℕ) → in_order (tick_clock m).tests ≡ true
  pub show : (store : List ℕ) (n : ℕ) → in_order (show_tests store n) ≡ true

-- What the box asks of what is handed in, from the state to the last byte: 1 and 2 of the state, the store and the buffers, 3 to 7 of the bytes
-- received, and then the tests of the update or of the frame.
abbrev pub asked_tests : Printer → List ℕ → List ℕ → Received → List Test
asked_tests p store s Partial = []
asked_tests p store s (Refused why consumed) = []
asked_tests p store s (Misfit why identifier n consumed) = []
asked_tests p store s Enquiry = []
asked_tests p store s (Update n consumed) = (update_fields p (take n (drop 1 s))).tests
asked_tests p store s (Frame identifier n consumed) = (order p store identifier (take n (drop 3 s))).tests

abbrev pub outcome_tests : List ℕ → Handed → List Test
outcome_tests m h =
    handing_tests m h
    ++ (receive_tests h.bytes ++ asked_tests (printer_of m) h.store h.bytes (received h.bytes))

-- 01, Numbers: "Checked in this order; the first that applies is given, and none otherwise". Of each call that gives a number; a single byte
-- that passes its own tests is received with what is held before it (`ByteAsWhole`).
pub record CallsGiveFirst : Type 0 where
  pub receive : (m : List ℕ) (h : Handed) → FirstGiven (outcome_tests m h) (given_by (outcome m h))
  pub byte : (m : List ℕ) (h : HandedByte) → all (byte_tests m h) ≡ false → FirstGiven (byte_tests m h) (given_by (single m h))
  pub fresh :
      (m : List ℕ) (model : ℕ) (clock : Clock) (r : Given) (m' : List ℕ) →
      Freshens m model clock r m' →
      FirstGiven (size_tests m model clock) r
  pub clock :
      (m : List ℕ) (clock : Clock) (r : Given) (m' : List ℕ) →
      Obeys (set_clock m clock) m r m' →
      FirstGiven (set_clock m clock).tests r
  pub date_change :
      (m : List ℕ) (time : TimeOfDay) (r : Given) (m' : List ℕ) →
      Obeys (set_date_change m time) m r m' →
      FirstGiven (set_date_change m time).tests r
  pub tick : (m : List ℕ) (r : Given) (m' : List ℕ) → Obeys (tick_clock m) m r m' → FirstGiven (tick_clock m).tests r
  pub show :
      (store current : List ℕ) (n : ℕ) (g : Given) (r : List ℕ) → Shows store current n g r → FirstGiven (show_tests store n) g
