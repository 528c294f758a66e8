-- What is true of the date change: the day before is undone by the next day, and what is printed changes exactly at HH:MM:00.
use Rattle.std.specs.Prelude.{ℕ, ◌+◌, ◌*◌, ◌≤◌, ◌<◌, true, List, [], ◌∷◌, map, ◌↔◌, ◌≡◌, length, take, drop}
use Rattle.calendar.specs.Clock.{date, is_date, is_real, moment, next_date, previous_date, tick}
use Rattle.calendar.specs.DateChange.{is_before, is_time, midnight, printed, printed_date, table_text, time_of_day}
use Rattle.calendar.specs.declared.clock.Clock.{Clock}
use Rattle.calendar.specs.declared.clock.Date.{Date}
use Rattle.calendar.specs.declared.date_change.TimeOfDay.{TimeOfDay}

-- 02, Wish 5: "the preceding calendar day", for all 36,525 days: a real day, which the next day undoes, and which undoes the next.
pub record Precedes (d : Date) : Type 0 where
  pub real : is_date (previous_date d) ≡ true
  pub undone : next_date (previous_date d) ≡ d
  pub undoes : previous_date (next_date d) ≡ d

abbrev pub PreviousUndone : Type 0
PreviousUndone = (d : Date) → is_date d ≡ true → Precedes d

-- 02, Wish 5: "At times before HHMM": by the seconds since midnight, so that HH:MM:00 itself is not before.
abbrev pub seconds : ℕ → ℕ → ℕ → ℕ
seconds hour minute second = hour * 3600 + minute * 60 + second

abbrev pub BeforeBySeconds : Type 0
BeforeBySeconds =
    (t : TimeOfDay) (c : Clock) → is_time t ≡ true → is_real c ≡ true →
    (is_before c t ≡ true) ↔ (seconds c.hour c.minute c.second < seconds t.hour t.minute 0)

-- The moment that date items stand for has the clock's hour and minute. "At times before HHMM, the day and month in date items are those of
-- the preceding calendar day", which is the day that the clock's day follows; from HH:MM:00 on they are the clock's.
pub record StandsFor (t : TimeOfDay) (c d : Clock) : Type 0 where
  pub hour : d.hour ≡ c.hour
  pub minute : d.minute ≡ c.minute
  pub real : is_real d ≡ true
  pub before :
      seconds c.hour c.minute c.second < seconds t.hour t.minute 0 → next_date d.date ≡ c.date
  pub behind :
      seconds t.hour t.minute 0 ≤ seconds c.hour c.minute c.second → d.date ≡ c.date

abbrev pub PrintedStands : Type 0
PrintedStands = (t : TimeOfDay) (c : Clock) → is_time t ≡ true → is_real c ≡ true → StandsFor t c (printed t c)

-- "0000 at the start" never shifts.
abbrev pub MidnightPrints : Type 0
MidnightPrints = (c : Clock) → printed midnight c ≡ c

-- The clock passes HHMM: it stands at HH:MM:00.
pub record Passes (t : TimeOfDay) (c : Clock) : Type 0 where
  pub hour : c.hour ≡ t.hour
  pub minute : c.minute ≡ t.minute
  pub second : c.second ≡ 0

-- The day that is printed changes with a tick exactly when the clock then passes HHMM, and it changes to the next.
pub record Turns (t : TimeOfDay) (c : Clock) : Type 0 where
  pub exactly : (printed_date t (tick c) ≡ printed_date t c → ⊥) ↔ Passes t (tick c)
  pub next : Passes t (tick c) → printed_date t (tick c) ≡ next_date (printed_date t c)

abbrev pub PrintedDayTurns : Type 0
PrintedDayTurns = (t : TimeOfDay) (c : Clock) → is_time t ≡ true → is_real c ≡ true → Turns t c

-- 01, On the wire: 52h's data has 258 bytes, whatever the date change is.
abbrev pub TableLong : Type 0
TableLong = (t : TimeOfDay) → length (table_text t) ≡ 258

-- 02, Wish 5: "52h answers HHMM": its first four bytes are digits, two that come to the hour and two that come to the minute.
abbrev pub digits_of : ℕ → ℕ → List ℕ
digits_of tens ones = (0x30 + tens) ∷ (0x30 + ones) ∷ []

pub record Tells (n : ℕ) (text : List ℕ) : Type 0 where
  pub tens : ℕ
  pub ones : ℕ
  pub digits : text ≡ digits_of tens ones
  pub single : ones < 10
  pub number : 10 * tens + ones ≡ n

pub record TellsTime (t : TimeOfDay) (text : List ℕ) : Type 0 where
  pub hour : Tells t.hour (take 2 text)
  pub minute : Tells t.minute (take 2 (drop 2 text))

abbrev pub TableTells : Type 0
TableTells = (t : TimeOfDay) → is_time t ≡ true → TellsTime t (table_text t)

-- At first it tells "0000", as document 01 has it, and with 0630 it tells "0630".
abbrev pub TableSample : Type 0
TableSample =
    (take 4 (table_text midnight) ≡ 0x30 ∷ 0x30 ∷ 0x30 ∷ 0x30 ∷ [])
    × (take 4 (table_text (time_of_day 6 30)) ≡ 0x30 ∷ 0x36 ∷ 0x33 ∷ 0x30 ∷ [])
    × (drop 4 (table_text (time_of_day 6 30)) ≡ drop 4 (table_text midnight))

-- The day before the first of each month, in 2023; before 1 March of the leap years 2024 and 2000; and "the day before 1 January 2000 is
-- 31 December 2099". And within a month.
abbrev pub PreviousSamples : Type 0
PreviousSamples =
    map previous_date
    (date 1 1 23 ∷ date 1 2 23 ∷ date 1 3 23 ∷ date 1 4 23 ∷ date 1 5 23 ∷ date 1 6 23 ∷ date 1 7 23 ∷ date 1 8 23
    ∷ date 1 9 23 ∷ date 1 10 23 ∷ date 1 11 23 ∷ date 1 12 23 ∷ date 1 3 24 ∷ date 1 3 0 ∷ date 1 1 0 ∷ date 29 2 24 ∷ [])
    ≡ date 31 12 22 ∷ date 31 1 23 ∷ date 28 2 23 ∷ date 31 3 23 ∷ date 30 4 23 ∷ date 31 5 23 ∷ date 30 6 23 ∷ date 31 7 23
    ∷ date 31 8 23 ∷ date 30 9 23 ∷ date 31 10 23 ∷ date 30 11 23 ∷ date 29 2 24 ∷ date 29 2 0 ∷ date 31 12 99 ∷ date 28 2 24 ∷ []

-- "Jars filled at one in the morning belong to the day before": with 0630, what is printed of 1 March 2024 at 01:00:00, at 05:59:59, at
-- 06:00:00, at 06:29:59, at 06:30:00 and at 23:59:59.
abbrev pub PrintedSamples : Type 0
PrintedSamples =
    map (printed_date (time_of_day 6 30))
    (moment 0 0 1 (date 1 3 24) ∷ moment 59 59 5 (date 1 3 24) ∷ moment 0 0 6 (date 1 3 24) ∷ moment 59 29 6 (date 1 3 24)
    ∷ moment 0 30 6 (date 1 3 24) ∷ moment 59 59 23 (date 1 3 24) ∷ [])
    ≡ date 29 2 24 ∷ date 29 2 24 ∷ date 29 2 24 ∷ date 29 2 24 ∷ date 1 3 24 ∷ date 1 3 24 ∷ []
