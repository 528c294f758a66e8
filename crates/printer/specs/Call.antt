-- The other calls of the box: a fresh printer, setting the clock and the date change, and a tick.
use Rattle.std.specs.Prelude.{ℕ, List, [], ◌∷◌, ◌≡◌, eqb, length}
use Rattle.frame.specs.Ground.{Test, given, within, pick, test, checked}
use Rattle.frame.specs.declared.given.Given.{Given}
use Rattle.calendar.specs.Clock.{is_real, date, moment, tick}
use Rattle.calendar.specs.DateChange.{is_time}
use Rattle.printer.specs.State.{Printer, valid_state, printer_of, bytes_of, state_size, fresh_printer, with_clock, with_date_change}
use Rattle.printer.specs.Order.{Order, change}
use Rattle.calendar.specs.declared.clock.Clock.{Clock}
use Rattle.calendar.specs.declared.date_change.TimeOfDay.{TimeOfDay}

-- 01, Other calls: "both give the fresh type 1 at 1 January 2000, midnight".
abbrev pub first_printer : Printer
first_printer = fresh_printer 1 (moment 0 0 0 (date 1 1 0))

-- 01, Other calls: "a fresh printer (14 type not 1 to 4, then 15 clock not a real moment [..])". Bytes that are no state's size get 1
-- and stay.
abbrev pub fresh_tests : ℕ → Clock → List Test
fresh_tests model clock = test (within 1 4 model) 14 ∷ test (is_real clock) 15 ∷ []

abbrev pub fresh : ℕ → Clock → Printer
fresh model clock = checked (fresh_tests model clock) (λ (r : Given). first_printer) (fresh_printer model clock)

abbrev pub size_tests : List ℕ → ℕ → Clock → List Test
size_tests m model clock = test (eqb (length m) state_size) 1 ∷ fresh_tests model clock

-- 01, Other calls: "set the clock (1, 15) and tick (1), state unchanged when refused".
unfoldable pub set_clock : List ℕ → Clock → Order
set_clock m clock =
    change (test (valid_state m) 1 ∷ test (is_real clock) 15 ∷ []) (with_clock (printer_of m) clock)

-- 02, Wish 5: "A call sets HHMM"; "15 also for an HHMM that is no time of day, state unchanged".
unfoldable pub set_date_change : List ℕ → TimeOfDay → Order
set_date_change m time =
    change (test (valid_state m) 1 ∷ test (is_time time) 15 ∷ []) (with_date_change (printer_of m) time)

unfoldable pub tick_clock : List ℕ → Order
tick_clock m = change (test (valid_state m) 1 ∷ []) (with_clock (printer_of m) (tick (printer_of m).clock))

-- The contracts: the number handed back, and the state's bytes behind the call.
pub record Freshens (m : List ℕ) (model : ℕ) (clock : Clock) (r : Given) (m' : List ℕ) : Type 0 where
  pub gives : r ≡ given (size_tests m model clock)
  pub state : m' ≡ pick (eqb (length m) state_size) (bytes_of (fresh model clock)) m
