-- The date change: the time of day, HHMM, from which on date items stand for the calendar's day, and before which for the day before.
use Rattle.std.specs.Prelude.{ℕ, Bool, List, ◌++◌, eqb, leb, ltb}
use Rattle.frame.specs.Ground.{pick, both}
use Rattle.calendar.specs.Clock.{codes_text, moment, previous_date, two}
use Rattle.calendar.specs.declared.clock.Clock.{Clock}
use Rattle.calendar.specs.declared.clock.Date.{Date}
use Rattle.calendar.specs.declared.date_change.TimeOfDay.{TimeOfDay}

abbrev pub time_of_day : ℕ → ℕ → TimeOfDay
time_of_day hour minute = record { hour = hour; minute = minute }

-- 02, Wish 5: "0000 at the start".
abbrev pub midnight : TimeOfDay
midnight = time_of_day 0 0

-- 02, Wish 5: 15 "for an HHMM that is no time of day".
unfoldable pub is_time : TimeOfDay → Bool
is_time t = both (leb t.hour 23) (leb t.minute 59)

-- 02, Wish 5: "At times before HHMM": an earlier hour, or in that hour an earlier minute. At HH:MM:00 it is not before any more.
unfoldable pub is_before : Clock → TimeOfDay → Bool
is_before c t = pick (eqb c.hour t.hour) (ltb c.minute t.minute) (ltb c.hour t.hour)

-- 02, Wish 5: then "the day and month in date items are those of the preceding calendar day".
unfoldable pub printed_date : TimeOfDay → Clock → Date
printed_date t c = pick (is_before c t) (previous_date c.date) c.date

-- The moment that date items stand for: the hour and minute are the clock's.
unfoldable pub printed : TimeOfDay → Clock → Clock
printed t c = moment c.second c.minute c.hour (printed_date t c)

-- 02, Wish 5: "52h answers HHMM" (document 000: "Date change time HHMM, 4 ASCII"), where document 01 has "0000".
unfoldable pub change_text : TimeOfDay → List ℕ
change_text t = two t.hour ++ two t.minute

abbrev pub table_text : TimeOfDay → List ℕ
table_text t = change_text t ++ codes_text
