-- The laws of the clock that specs/ClockLaws states: each part of a moment moves within its bounds, and every entry is of digits, letters and 00h.
use Prim.Native.Nat.{ℕ, zero, suc, ◌+◌, ◌*◌, ◌-◌, ◌%◌, ◌≤◌}
use mathlib.Core.Bool.{true}
use mathlib.Core.List.{List, [], ◌∷◌, ◌++◌}
use mathlib.Core.Path.{◌≡◌, refl}
use native.Mathlib.Omega.{arith}
use lib.ListN.{take, drop, length-append}
use Rattle.frame.specs.Ground.{within}
use Rattle.frame.proofs.Ground.{pick_case}
use Rattle.content.specs.Byte.{is_character}
use Rattle.content.specs.StripLaws.{printable}
use Rattle.calendar.specs.Clock.{clock_text, days_in, entries, is_leap, months, next_date, next_hour, next_minute, next_month, next_year, no_entry, tick}
use Rattle.calendar.specs.ClockLaws.{EntriesPlaced, EntriesPrint, EntriesSample, EntryPrints, TextsLong, TickReal, TimeSamples}
use Rattle.calendar.specs.declared.clock.Clock.{Clock}
use Rattle.calendar.specs.declared.clock.Date.{Date}
use Rattle.std.proofs.lemmas.Grind.{common_steps}
use Rattle.std.proofs.lemmas.Bool.Decides.{nat_tests}
use Rattle.calendar.proofs.Moments.{Dated, Real, month_long, real_tells, tells_real}

-- ---- A real moment and the next.
-- No month is without a first day.
pub first_day : (month year : ℕ) → 1 ≤ days_in month year
unfolding days_in
first_day month year = grind (arith, nat_tests)

date_dated : (d : Date) → Dated d → Dated (next_date d)
unfolding next_date next_month next_year
date_dated d r = grind (arith, nat_tests, first_day)

pub second_real : (c : Clock) → Real c → Real (tick c)
unfolding tick next_minute next_hour
second_real c r = grind (arith, nat_tests, date_dated)

pub tick_real : TickReal
tick_real c e = tells_real (tick c) (second_real c (real_tells c e))

-- ---- The texts of a moment.
pub digit_character : (n : ℕ) → is_character (n % 10 + 0x30) ≡ true
unfolding is_character
digit_character n = grind (arith, nat_tests)

prints_take : (n : ℕ) (s : List ℕ) → printable s ≡ true → printable (take n s) ≡ true
prints_take zero s e = refl
prints_take (suc n) [] e = refl
prints_take (suc n) (b ∷ s) e = grind (arith, nat_tests, prints_take n s)

prints_drop : (n : ℕ) (s : List ℕ) → printable s ≡ true → printable (drop n s) ≡ true
prints_drop zero s e = e
prints_drop (suc n) [] e = refl
prints_drop (suc n) (b ∷ s) e = grind (arith, nat_tests, prints_drop n s)

prints_append : (s t : List ℕ) → printable s ≡ true → printable t ≡ true → printable (s ++ t) ≡ true
prints_append [] t e f = f
prints_append (b ∷ s) t e f = grind (arith, nat_tests, prints_append s t)

months_print : printable months ≡ true
unfolding is_character
months_print = refl

pub entry_prints : EntryPrints
entry_prints n =
    let letters = prints_take 3 (drop (3 * (n - 1)) months) (prints_drop (3 * (n - 1)) months months_print) in
    (grind (arith, nat_tests, digit_character), pick_case (λ (s : List ℕ). printable s ≡ true) (within 1 12 n) _ no_entry (λ _. letters) (λ _. refl))

pub entries_print : EntriesPrint
unfolding entries
entries_print c =
    let hour = (entry_prints c.hour).0 in
    let minute = (entry_prints c.minute).0 in
    let month = (entry_prints c.date.month).1 in
    let day = (entry_prints c.date.day).0 in
    grind (arith, nat_tests, prints_append)

pub entries_placed : EntriesPlaced
unfolding entries
entries_placed c = let long = month_long c.date.month in (refl, refl, grind (arith, common_steps), grind (arith, common_steps))

pub texts_long : TextsLong
unfolding entries clock_text
texts_long c = let m = month_long c.date.month in (simp length-append (omega arith), simp length-append (omega arith))

-- ---- The samples, computed.
pub time_samples : TimeSamples
unfolding tick next_minute next_hour next_date next_month next_year days_in is_leap
time_samples = refl

pub entries_sample : EntriesSample
unfolding entries
entries_sample = refl
