-- Why a call sets what it is for and nothing else: its tests hold, so the state's bytes are those of the printer with that part in its place,
-- and what is read of them is that printer.
use Prim.Native.Nat.{ℕ}
use mathlib.Core.Bool.{true}
use mathlib.Core.List.{List}
use mathlib.Core.Path.{◌≡◌, refl, ap, subst, sym, ◌∙◌}
use Rattle.calendar.specs.Clock.{is_real, tick}
use Rattle.calendar.specs.DateChange.{is_time}
use Rattle.calendar.proofs.ClockLaws.{tick_real}
use Rattle.printer.specs.State.{Printer, with_clock, with_date_change, printer_of, bytes_of, valid_state}
use Rattle.printer.specs.Order.{left}
use Rattle.printer.specs.Call.{set_clock, set_date_change, tick_clock}
use Rattle.printer.specs.BytesLaws.{Sized}
use Rattle.printer.specs.Demands.{SetsAlone, CallsSet}
use Rattle.calendar.specs.declared.clock.Clock.{Clock}
use Rattle.calendar.specs.declared.date_change.TimeOfDay.{TimeOfDay}
use Rattle.printer.proofs.Valid.{valid_size, valid_printer, valid_clock}
use Rattle.printer.proofs.BytesLaws.{printer_back, sized_of, sized_clock, sized_date_change}

clock_left : (m : List ℕ) (c : Clock) → valid_state m ≡ true → is_real c ≡ true → left (set_clock m c) m ≡ bytes_of (with_clock (printer_of m) c)
unfolding set_clock
clock_left m c v r = rw (v, r) refl

date_change_left : (m : List ℕ) (t : TimeOfDay) → valid_state m ≡ true → is_time t ≡ true
    → left (set_date_change m t) m ≡ bytes_of (with_date_change (printer_of m) t)
unfolding set_date_change
date_change_left m t v r = rw (v, r) refl

tick_left : (m : List ℕ) → valid_state m ≡ true → left (tick_clock m) m ≡ bytes_of (with_clock (printer_of m) (tick (printer_of m).clock))
unfolding tick_clock
tick_left m v = rw v refl

-- What is read behind a call is what it led to.
read_back : {p : Printer} {l : List ℕ} {c : Clock} {t : TimeOfDay} (q : Printer) → l ≡ bytes_of q → Sized q → SetsAlone p q c t
    → SetsAlone p (printer_of l) c t
read_back {p} {l} {c} {t} q e z s = subst (λ (x : Printer). SetsAlone p x c t) (sym (ap printer_of e ∙ printer_back q z)) s

pub calls_set : CallsSet
calls_set m v f =
    let p = printer_of m in
    let z = sized_of m (valid_size m v) f in
    let real = tick_real p.clock (valid_clock p (valid_printer m v)) in
    record {
      clock_set =
          λ c r. read_back (with_clock p c) (clock_left m c v r) (sized_clock p c z r)
          (record { model = refl; clock = refl; date_change = refl; jets = refl });
      date_change_set =
          λ t r. read_back (with_date_change p t) (date_change_left m t v r) (sized_date_change p t z r)
          (record { model = refl; clock = refl; date_change = refl; jets = refl });
      second_passes =
          read_back (with_clock p (tick p.clock)) (tick_left m v) (sized_clock p (tick p.clock) z real)
          (record { model = refl; clock = refl; date_change = refl; jets = refl });
    }
