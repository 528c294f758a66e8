-- The clock: what a real moment is, the next moment, and the texts of a moment.
use Rattle.std.specs.Prelude.{ℕ, zero, suc, ◌+◌, ◌-◌, ◌*◌, ◌/◌, ◌%◌, Bool, true, false, List, [], ◌∷◌, ◌++◌, eqb, leb, ltb, take, drop}
use Rattle.frame.specs.Ground.{pick, both, within}
use Rattle.calendar.specs.declared.clock.Clock.{Clock}
use Rattle.calendar.specs.declared.clock.Date.{Date}

-- 01, Parameters, counter, clock: "00 to 99 for 2000 to 2099, Gregorian".
unfoldable pub is_leap : ℕ → Bool
is_leap year =
    pick (eqb ((2000 + year) % 4) 0) (pick (eqb ((2000 + year) % 100) 0) (eqb ((2000 + year) % 400) 0) true) false

unfoldable pub days_in : ℕ → ℕ → ℕ
days_in month year =
    pick (eqb month 2) (pick (is_leap year) 29 28)
    (pick (eqb month 4) 30 (pick (eqb month 6) 30 (pick (eqb month 9) 30 (pick (eqb month 11) 30 31))))

-- A date is a real day of those years.
abbrev pub date : ℕ → ℕ → ℕ → Date
date day month year = record { day = day; month = month; year = year }

unfoldable pub is_date : Date → Bool
is_date d =
    both (within 1 12 d.month) (both (within 1 (days_in d.month d.year) d.day) (leb d.year 99))

-- 01, Parameters, counter, clock: "The clock has seconds to years"; a state's clock is "a real moment".
abbrev pub moment : ℕ → ℕ → ℕ → Date → Clock
moment second minute hour date = record { second = second; minute = minute; hour = hour; date = date }

unfoldable pub is_real : Clock → Bool
is_real c =
    both (leb c.second 59) (both (leb c.minute 59) (both (leb c.hour 23) (is_date c.date)))

-- 01, Parameters, counter, clock: "It moves by a call per second; 31 December 2099 23:59:59 is followed by 1 January 2000 00:00:00."
unfoldable pub next_year : Date → Date
next_year d = pick (ltb d.year 99) (date 1 1 (d.year + 1)) (date 1 1 0)

unfoldable pub next_month : Date → Date
next_month d = pick (ltb d.month 12) (date 1 (d.month + 1) d.year) (next_year d)

unfoldable pub next_date : Date → Date
next_date d =
    pick (ltb d.day (days_in d.month d.year)) (date (d.day + 1) d.month d.year) (next_month d)

-- 02, Wish 5: "the preceding calendar day; the day before 1 January 2000 is 31 December 2099, as the clock runs".
unfoldable pub previous_year : Date → Date
previous_year d = pick (ltb 0 d.year) (date 31 12 (d.year - 1)) (date 31 12 99)

unfoldable pub previous_month : Date → Date
previous_month d =
    pick (ltb 1 d.month) (date (days_in (d.month - 1) d.year) (d.month - 1) d.year) (previous_year d)

unfoldable pub previous_date : Date → Date
previous_date d = pick (ltb 1 d.day) (date (d.day - 1) d.month d.year) (previous_month d)

unfoldable pub next_hour : Clock → Clock
next_hour c = pick (ltb c.hour 23) (moment 0 0 (c.hour + 1) c.date) (moment 0 0 0 (next_date c.date))

unfoldable pub next_minute : Clock → Clock
next_minute c = pick (ltb c.minute 59) (moment 0 (c.minute + 1) c.hour c.date) (next_hour c)

unfoldable pub tick : Clock → Clock
tick c = pick (ltb c.second 59) (moment (c.second + 1) c.minute c.hour c.date) (next_minute c)

-- Two digits of a number below 100.
abbrev pub tens : ℕ → ℕ
tens n = n / 10 % 10 + 0x30

abbrev pub ones : ℕ → ℕ
ones n = n % 10 + 0x30

-- 01, What a content is: "Hour, minute and day entries are two digits and 00h".
abbrev pub entry : ℕ → List ℕ
entry n = tens n ∷ ones n ∷ 0x00 ∷ []

-- 01, What a content is: "Month entries are JAN FEV MAR AVR MAI JUN JUI AOU SEP OCT NOV DEC".
abbrev pub months : List ℕ
months =
    0x4A ∷ 0x41 ∷ 0x4E ∷ 0x46 ∷ 0x45 ∷ 0x56 ∷ 0x4D ∷ 0x41 ∷ 0x52 ∷ 0x41 ∷ 0x56 ∷ 0x52
    ∷ 0x4D ∷ 0x41 ∷ 0x49 ∷ 0x4A ∷ 0x55 ∷ 0x4E ∷ 0x4A ∷ 0x55 ∷ 0x49 ∷ 0x41 ∷ 0x4F ∷ 0x55
    ∷ 0x53 ∷ 0x45 ∷ 0x50 ∷ 0x4F ∷ 0x43 ∷ 0x54 ∷ 0x4E ∷ 0x4F ∷ 0x56 ∷ 0x44 ∷ 0x45 ∷ 0x43 ∷ []

-- Three 00h, which print nothing.
abbrev pub no_entry : List ℕ
no_entry = 0x00 ∷ 0x00 ∷ 0x00 ∷ []

-- What is no month has no letters.
abbrev pub month_entry : ℕ → List ℕ
month_entry month = pick (within 1 12 month) (take 3 (drop (3 * (month - 1)) months)) no_entry

-- 01, What a content is: "Codes 55h 56h 57h are the three characters of the hour's entry, 58h to 5Ah the minute's, 5Bh to 5Dh the
-- month's, 61h to 63h the day of month's". What the codes 55h to 6Ch stand for at a moment, one behind the other; a code that document 01
-- doesn't have stands for nothing.
unfoldable pub entries : Clock → List ℕ
entries c =
    entry c.hour ++ entry c.minute ++ month_entry c.date.month ++ no_entry ++ entry c.date.day
    ++ no_entry ++ no_entry ++ no_entry

-- 01, Parameters, counter, clock: "D6h's data: seconds, minutes, hours (2 digits each), 2 spaces, day (2), 5 spaces, month (2), month
-- letters (3), year (2)."
abbrev pub two : ℕ → List ℕ
two n = tens n ∷ ones n ∷ []

unfoldable pub clock_text : Clock → List ℕ
clock_text c =
    two c.second ++ two c.minute ++ two c.hour ++ (0x20 ∷ 0x20 ∷ []) ++ two c.date.day
    ++ (0x20 ∷ 0x20 ∷ 0x20 ∷ 0x20 ∷ 0x20 ∷ []) ++ two c.date.month ++ month_entry c.date.month ++ two c.date.year

-- 01, Parameters, counter, clock: "52h's data: "0000", "01" to "96", A to Z, the twelve months." What stands behind the four digits, which
-- are the date change's.
abbrev pub numbers : ℕ → ℕ → List ℕ
numbers zero from = []
numbers (suc count) from = two from ++ numbers count (from + 1)

abbrev pub letters : ℕ → ℕ → List ℕ
letters zero from = []
letters (suc count) from = from ∷ letters count (from + 1)

unfoldable pub codes_text : List ℕ
codes_text = numbers 96 1 ++ letters 26 0x41 ++ months
