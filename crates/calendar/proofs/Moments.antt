-- The laws of a moment: what a real one tells, part by part, and that a month's entry has three letters.
use Prim.Native.Nat.{ℕ, ◌≤◌}
use mathlib.Core.Bool.{true}
use mathlib.Core.Path.{◌≡◌}
use native.Mathlib.Omega.{arith}
use lib.ListN.{length}
use Rattle.std.proofs.lemmas.Grind.{common_steps}
use Rattle.std.proofs.lemmas.Bool.Decides.{nat_tests}
use Rattle.calendar.specs.Clock.{days_in, is_date, is_real, month_entry}
use Rattle.calendar.specs.declared.clock.Clock.{Clock}
use Rattle.calendar.specs.declared.clock.Date.{Date}

-- ---- A real moment, part by part.
pub record Dated (d : Date) : Type 0 where
  pub month : (1 ≤ d.month) × (d.month ≤ 12)
  pub day : (1 ≤ d.day) × (d.day ≤ days_in d.month d.year)
  pub year : d.year ≤ 99

pub record Real (c : Clock) : Type 0 where
  pub second : c.second ≤ 59
  pub minute : c.minute ≤ 59
  pub hour : c.hour ≤ 23
  pub date : Dated c.date

pub dated_tells : (d : Date) → is_date d ≡ true → Dated d
unfolding is_date
dated_tells d e = grind (arith, nat_tests)

pub tells_dated : (d : Date) → Dated d → is_date d ≡ true
unfolding is_date
tells_dated d r = grind (arith, nat_tests)

pub real_tells : (c : Clock) → is_real c ≡ true → Real c
unfolding is_real
real_tells c e = grind (arith, nat_tests, dated_tells c.date)

pub tells_real : (c : Clock) → Real c → is_real c ≡ true
unfolding is_real
tells_real c r = grind (arith, nat_tests, tells_dated)

-- ---- The texts of a moment.
pub month_long : (month : ℕ) → length (month_entry month) ≡ 3
month_long month = grind (arith, common_steps, nat_tests)
