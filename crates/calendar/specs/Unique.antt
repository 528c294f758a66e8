-- No second outcome meets a contract of `calendar`: every public call hands back what the rule says, and touches no bytes.
use Rattle.std.specs.Prelude.{ℕ, Bool, List, ◌≡◌}
use Rattle.frame.specs.Ground.{OneAnswer}
use Rattle.calendar.specs.Clock.{clock_text, date, entries, is_real, moment, tick}
use Rattle.calendar.specs.DateChange.{change_text, is_time, printed, time_of_day}
use Rattle.calendar.specs.declared.clock.Clock.{Clock}
use Rattle.calendar.specs.declared.clock.Date.{Date}
use Rattle.calendar.specs.declared.date_change.TimeOfDay.{TimeOfDay}

abbrev pub DateOfUnique : Type 0
DateOfUnique = (day month year : ℕ) → OneAnswer (λ (r : Date). r ≡ date day month year)

abbrev pub MomentUnique : Type 0
MomentUnique = (second minute hour : ℕ) (d : Date) → OneAnswer (λ (r : Clock). r ≡ moment second minute hour d)

abbrev pub ClockIsRealUnique : Type 0
ClockIsRealUnique = (c : Clock) → OneAnswer (λ (r : Bool). r ≡ is_real c)

abbrev pub ClockTickUnique : Type 0
ClockTickUnique = (c : Clock) → OneAnswer (λ (r : Clock). r ≡ tick c)

abbrev pub EntriesUnique : Type 0
EntriesUnique = (c : Clock) → OneAnswer (λ (r : List ℕ). r ≡ entries c)

abbrev pub ClockTextUnique : Type 0
ClockTextUnique = (c : Clock) → OneAnswer (λ (r : List ℕ). r ≡ clock_text c)

abbrev pub TimeOfDayUnique : Type 0
TimeOfDayUnique = (hour minute : ℕ) → OneAnswer (λ (r : TimeOfDay). r ≡ time_of_day hour minute)

abbrev pub IsTimeUnique : Type 0
IsTimeUnique = (t : TimeOfDay) → OneAnswer (λ (r : Bool). r ≡ is_time t)

abbrev pub ChangeTextUnique : Type 0
ChangeTextUnique = (t : TimeOfDay) → OneAnswer (λ (r : List ℕ). r ≡ change_text t)

abbrev pub PrintedUnique : Type 0
PrintedUnique = (t : TimeOfDay) (c : Clock) → OneAnswer (λ (r : Clock). r ≡ printed t c)
