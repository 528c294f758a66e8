-- The laws of the date change that specs/DateChangeLaws states. The day before and the next day each undo the other; and the day that is printed
-- is told by the seconds since midnight, before a tick and behind it.
use Prim.Native.Nat.{ℕ, ◌+◌, ◌/◌, ◌%◌, ◌≤◌, ◌<◌}
use mathlib.Core.Bool.{true, false}
use mathlib.Core.Path.{◌≡◌, refl}
use native.Mathlib.Omega.{arith}
use Rattle.std.proofs.lemmas.Bool.Decides.{nat_tests}
use Rattle.frame.specs.Ground.{pick}
use lib.Dec.{eqb, ltb}
use Rattle.calendar.specs.Clock.{codes_text, days_in, is_leap, next_date, next_hour, next_minute, next_month, next_year, previous_date, previous_month, previous_year, tick, two}
use Rattle.calendar.specs.DateChange.{change_text, is_before, is_time, printed, printed_date}
use Rattle.calendar.specs.DateChangeLaws.{BeforeBySeconds, MidnightPrints, Passes, PreviousSamples, PreviousUndone, PrintedDayTurns, PrintedSamples, PrintedStands, TableLong, TableSample, TableTells, Tells, seconds}
use Rattle.calendar.specs.declared.clock.Clock.{Clock}
use Rattle.calendar.specs.declared.clock.Date.{Date}
use Rattle.calendar.specs.declared.date_change.TimeOfDay.{TimeOfDay}
use Rattle.calendar.proofs.Moments.{Dated, Real, dated_tells, real_tells, tells_dated, tells_real}
use Rattle.calendar.proofs.ClockLaws.{first_day, second_real}

-- ---- The day before.
-- December's last day is the 31st of every year.
december : (year : ℕ) → days_in 12 year ≡ 31
unfolding days_in
december year = refl

undone : (d : Date) → Dated d → next_date (previous_date d) ≡ d
unfolding previous_date previous_month previous_year next_date next_month next_year
undone d r = grind (arith, nat_tests, december)

undoes : (d : Date) → Dated d → previous_date (next_date d) ≡ d
unfolding previous_date previous_month previous_year next_date next_month next_year
undoes d r = grind (arith, nat_tests, december)

-- And it is a day.
previous_dated : (d : Date) → Dated d → Dated (previous_date d)
unfolding previous_date previous_month previous_year
previous_dated d r = grind (arith, nat_tests, first_day, december)

pub previous_undone : PreviousUndone
previous_undone d e =
    let r = dated_tells d e in
    record { real = tells_dated (previous_date d) (previous_dated d r); undone = undone d r; undoes = undoes d r }

-- ---- Before HHMM, by the seconds since midnight.
abbrev now : Clock → ℕ
now c = seconds c.hour c.minute c.second

abbrev then : TimeOfDay → ℕ
then t = seconds t.hour t.minute 0

pub time_tells : (t : TimeOfDay) → is_time t ≡ true → (t.hour ≤ 23) × (t.minute ≤ 59)
unfolding is_time
time_tells t e = grind (arith, nat_tests)

before_true : (t : TimeOfDay) (c : Clock) → t.minute ≤ 59 → Real c → now c < then t → is_before c t ≡ true
unfolding is_before
before_true t c m r h = grind (arith, nat_tests)

before_false : (t : TimeOfDay) (c : Clock) → t.minute ≤ 59 → Real c → then t ≤ now c → is_before c t ≡ false
unfolding is_before
before_false t c m r h = grind (arith, nat_tests)

pub before_by_seconds : BeforeBySeconds
before_by_seconds t c e f = let m = time_tells t e in let r = real_tells c f in grind (arith, nat_tests, before_true, before_false)

-- ---- The printed date.
-- By the seconds since midnight.
printed_at : (t : TimeOfDay) (c : Clock) → t.minute ≤ 59 → Real c → printed_date t c ≡ pick (ltb (now c) (then t)) (previous_date c.date) c.date
unfolding printed_date
printed_at t c m r = grind (arith, nat_tests, before_true, before_false)

printed_dated : (t : TimeOfDay) (c : Clock) → Real c → Dated (printed_date t c)
unfolding printed_date
printed_dated t c r = grind (arith, nat_tests, previous_dated)

pub printed_stands : PrintedStands
unfolding printed
printed_stands t c e f =
    let r = real_tells c f in
    let m = (time_tells t e).1 in
    record {
      hour = refl;
      minute = refl;
      real = tells_real (printed t c) (record { second = r.second; minute = r.minute; hour = r.hour; date = printed_dated t c r });
      before = λ h. grind (arith, nat_tests, printed_at t c m r, undone c.date r.date);
      behind = λ h. grind (arith, nat_tests, printed_at t c m r);
    }

-- No time is before midnight.
pub midnight_prints : MidnightPrints
unfolding printed printed_date is_before
midnight_prints c = grind (arith, nat_tests)

-- ---- A tick goes on by a second, within the day or into the next.
tick_now : (c : Clock) → Real c → now (tick c) ≡ pick (eqb (now c) 86399) 0 (now c + 1)
unfolding tick next_minute next_hour
tick_now c r = grind (arith, nat_tests)

tick_date : (c : Clock) → Real c → (tick c).date ≡ pick (eqb (now c) 86399) (next_date c.date) c.date
unfolding tick next_minute next_hour
tick_date c r = grind (arith, nat_tests)

-- No day is its own next.
differs : (d : Date) → next_date d ≡ d → ⊥
unfolding next_date next_month next_year
differs d = grind (arith, nat_tests)

then_passes : (t : TimeOfDay) (c : Clock) → t.minute ≤ 59 → Real c → now c ≡ then t → Passes t c
then_passes t c m r e = grind arith

pub printed_day_turns : PrintedDayTurns
printed_day_turns t c e f =
    let time = time_tells t e in
    let r = real_tells c f in
    let r' = second_real c r in
    let n = tick_now c r in
    let d = tick_date c r in
    let here = printed_at t c time.1 r in
    let there = printed_at t (tick c) time.1 r' in
    let back = undone c.date r.date in
    let forth = undoes c.date r.date in
    let other = differs (printed_date t c) in
    record {
      exactly = ((λ x. grind (arith, nat_tests, then_passes t (tick c) time.1 r')), (λ x y. grind (arith, nat_tests)));
      next = λ x. grind (arith, nat_tests);
    }

-- ---- The samples, computed.
pub table_long : TableLong
unfolding change_text codes_text
table_long t = refl

-- Two digits of a number below 100 come to it.
two_tell : (n : ℕ) → n < 100 → Tells n (two n)
two_tell n h = record { tens = n / 10; ones = n % 10; digits = grind arith; single = omega arith; number = omega arith }

pub table_tells : TableTells
unfolding change_text
table_tells t e =
    let h = time_tells t e in
    record { hour = two_tell t.hour (omega arith); minute = two_tell t.minute (omega arith) }

pub table_sample : TableSample
unfolding change_text
table_sample = (refl, refl, refl)

pub previous_samples : PreviousSamples
unfolding previous_date previous_month previous_year days_in is_leap
previous_samples = refl

pub printed_samples : PrintedSamples
unfolding printed_date is_before previous_date previous_month previous_year days_in is_leap
printed_samples = refl
