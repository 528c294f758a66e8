-- The state of the box: its type, its clock, its date change and its four jets, and the bytes that hold them.
use Rattle.std.specs.Prelude.{ℕ, zero, suc, ◌+◌, ◌*◌, ◌-◌, Bool, List, [], ◌∷◌, ◌++◌, map, eqb, length, get_or, set, take, drop, replicate}
use Rattle.frame.specs.Ground.{both, within, every, joined}
use Rattle.content.specs.Content.{longest_message}
use Rattle.calendar.specs.Clock.{is_real, date, moment}
use Rattle.calendar.specs.DateChange.{is_time, midnight, time_of_day}
use Rattle.printer.specs.Counter.{settings_size}
use Rattle.printer.specs.Jet.{Jet, has_jet, valid_jet, general_size, jet_size, jet_of, jet_bytes}
use Rattle.calendar.specs.declared.clock.Clock.{Clock}
use Rattle.calendar.specs.declared.date_change.TimeOfDay.{TimeOfDay}

-- A printer's type is its model here; its jets are 1 to 4 in order, also those that it lacks.
pub record Printer : Type 0 where
  pub model : ℕ
  pub clock : Clock
  pub date_change : TimeOfDay
  pub jets : List Jet

-- A jet without a message and without parameters.
unfoldable pub empty_jet : Jet
empty_jet =
    record {
      length = 0;
      content = replicate longest_message 0;
      general = replicate general_size 0;
      counter = record { settings = replicate settings_size 0; set = 0; value = 0; batch = 0 };
    }

-- The state with other jets, another clock or another date change.
abbrev pub with_jets : Printer → List Jet → Printer
with_jets p jets = record { model = p.model; clock = p.clock; date_change = p.date_change; jets = jets }

abbrev pub with_clock : Printer → Clock → Printer
with_clock p c = record { model = p.model; clock = c; date_change = p.date_change; jets = p.jets }

abbrev pub with_date_change : Printer → TimeOfDay → Printer
with_date_change p t = record { model = p.model; clock = p.clock; date_change = t; jets = p.jets }

-- The jet of a number from 1 to 4, and the state with another in its place.
abbrev pub jet_at : Printer → ℕ → Jet
jet_at p n = get_or p.jets (n - 1) empty_jet

abbrev pub with_jet : Printer → ℕ → Jet → Printer
with_jet p n j = with_jets p (set p.jets (n - 1) j)

-- Whether a test holds of every jet; it is told whether the printer has that jet.
abbrev pub every_jet : (Bool → Jet → Bool) → Printer → Bool
every_jet f p = every (λ (n : ℕ) (j : Jet). f (has_jet p.model n) j) 1 p.jets

-- 01, Numbers: "A state is valid if its type is 1 to 4, its clock a real moment, jets it lacks are empty, contents and parameters are
-- good where present, and the counter lies from initial to final with batch below lot." 02, Wish 5: 1 "for a state that holds" an HHMM
-- "that is no time of day".
abbrev pub valid_jets : Printer → Bool
valid_jets p = every_jet valid_jet p

unfoldable pub valid : Printer → Bool
valid p = both (within 1 4 p.model) (both (is_real p.clock) (both (is_time p.date_change) (valid_jets p)))

-- 01, Other calls: "a fresh printer". 02, Wish 5: HHMM is "0000 at the start".
abbrev pub fresh_printer : ℕ → Clock → Printer
fresh_printer model clock = record { model = model; clock = clock; date_change = midnight; jets = replicate 4 empty_jet }

-- The 2,245 bytes of a state: type (1), seconds, minutes, hours, day, month, year (1 each), the hour and the minute of the date change (1
-- each), and four jets of 559.
abbrev pub jets_place : ℕ
jets_place = 9

abbrev pub state_size : ℕ
state_size = jets_place + 4 * jet_size

abbrev pub clock_of : List ℕ → Clock
clock_of b = moment (get_or b 0 0) (get_or b 1 0) (get_or b 2 0) (date (get_or b 3 0) (get_or b 4 0) (get_or b 5 0))

abbrev pub clock_bytes : Clock → List ℕ
clock_bytes c =
    c.second ∷ c.minute ∷ c.hour ∷ c.date.day ∷ c.date.month ∷ c.date.year ∷ []

abbrev pub time_of : List ℕ → TimeOfDay
time_of b = time_of_day (get_or b 0 0) (get_or b 1 0)

abbrev pub time_bytes : TimeOfDay → List ℕ
time_bytes t = t.hour ∷ t.minute ∷ []

abbrev pub jets_of : ℕ → List ℕ → List Jet
jets_of zero b = []
jets_of (suc count) b = jet_of (take jet_size b) ∷ jets_of count (drop jet_size b)

-- Where the jet of a number begins.
abbrev pub jet_place : ℕ → ℕ
jet_place n = jets_place + jet_size * (n - 1)

unfoldable pub printer_of : List ℕ → Printer
printer_of m =
    record {
      model = get_or m 0 0;
      clock = clock_of (drop 1 m);
      date_change = time_of (drop 7 m);
      jets = jets_of 4 (drop jets_place m);
    }

-- The bytes before the jets.
abbrev pub front_bytes : Printer → List ℕ
front_bytes p = p.model ∷ (clock_bytes p.clock ++ time_bytes p.date_change)

unfoldable pub bytes_of : Printer → List ℕ
bytes_of p = front_bytes p ++ joined (map jet_bytes p.jets)

-- Bytes of another size are no state.
unfoldable pub valid_state : List ℕ → Bool
valid_state m = both (eqb (length m) state_size) (valid (printer_of m))
