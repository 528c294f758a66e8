-- What is true of states: a fresh printer is valid, setting the clock or the date change and a tick keep a valid state valid, and what replaces a jet, its
-- message or its parameters leaves the rest as it was.
use Rattle.std.specs.Prelude.{ℕ, ◌≤◌, true, List, ◌≡◌, length}
use Rattle.content.specs.Content.{is_content}
use Rattle.calendar.specs.Clock.{is_real, tick}
use Rattle.calendar.specs.DateChange.{is_time}
use Rattle.printer.specs.Jet.{Jet, has_jet, has_message, message, valid_jet, good_parameters, with_message, with_parameters}
use Rattle.printer.specs.State.{Printer, jet_at, with_jet, with_clock, with_date_change, valid}
use Rattle.printer.specs.Call.{first_printer, fresh}
use Rattle.calendar.specs.declared.clock.Clock.{Clock}
use Rattle.calendar.specs.declared.date_change.TimeOfDay.{TimeOfDay}

-- 01, Other calls: "both give the fresh type 1 at 1 January 2000, midnight", which is valid.
abbrev pub FirstValid : Type 0
FirstValid = valid first_printer ≡ true

-- So whatever is asked for, a fresh printer is valid.
abbrev pub FreshValid : Type 0
FreshValid = (model : ℕ) (clock : Clock) → valid (fresh model clock) ≡ true

-- A real moment, a time of day and a tick lead from a valid state to a valid state.
abbrev pub ClockValid : Type 0
ClockValid = (p : Printer) (clock : Clock) → valid p ≡ true → is_real clock ≡ true → valid (with_clock p clock) ≡ true

abbrev pub DateChangeValid : Type 0
DateChangeValid = (p : Printer) (time : TimeOfDay) → valid p ≡ true → is_time time ≡ true → valid (with_date_change p time) ≡ true

abbrev pub TickValid : Type 0
TickValid = (p : Printer) → valid p ≡ true → valid (with_clock p (tick p.clock)) ≡ true

-- A jet that is replaced is the new one; every other jet, the type, the clock and the date change are as they were.
abbrev pub JetAtWithJet : Type 0
JetAtWithJet = (p : Printer) (n : ℕ) (j : Jet) → 1 ≤ n → n ≤ length p.jets → jet_at (with_jet p n j) n ≡ j

abbrev pub JetAtOther : Type 0
JetAtOther =
    (p : Printer) (n m : ℕ) (j : Jet) → 1 ≤ n → 1 ≤ m → (m ≡ n → ⊥) → jet_at (with_jet p n j) m ≡ jet_at p m

-- A valid jet in the place of one that the printer has leaves the state valid.
abbrev pub WithJetValid : Type 0
WithJetValid =
    (p : Printer) (n : ℕ) (j : Jet) →
    valid p ≡ true →
    has_jet p.model n ≡ true →
    valid_jet true j ≡ true →
    valid (with_jet p n j) ≡ true

-- A jet that gets a message holds it and no byte more, and a content is never empty.
abbrev pub MessageOf : Type 0
MessageOf = (j : Jet) (c : List ℕ) → message (with_message j c) ≡ c

abbrev pub MessageThere : Type 0
MessageThere = (j : Jet) (c : List ℕ) → is_content c ≡ true → has_message (with_message j c) ≡ true

-- A valid jet stays valid with another content, and with other parameters that are good.
abbrev pub MessageStays : Type 0
MessageStays =
    (j : Jet) (c : List ℕ) → valid_jet true j ≡ true → is_content c ≡ true → valid_jet true (with_message j c) ≡ true

abbrev pub ParametersStay : Type 0
ParametersStay =
    (j : Jet) (q : List ℕ) →
    valid_jet true j ≡ true →
    good_parameters q ≡ true →
    valid_jet true (with_parameters j q) ≡ true
