-- The time on a line, in milliseconds of the machine's clock.
use Rattle.std.specs.Prelude.{ℕ, zero, suc, ◌+◌, ◌-◌, ◌*◌, ◌/◌, Bool, Option, None, Some, List, leb, ltb, ℤ, pos, negsuc}
use Rattle.frame.specs.Ground.{pick}
use Rattle.printer.specs.Order.{left}
use Rattle.printer.specs.Call.{tick_clock}

-- The machine's clock counts seconds, and nanoseconds below 1,000,000,000. What is below 0 counts nothing; more than 30,000 years are no
-- moment either.
abbrev pub milliseconds : ℕ → ℕ → ℕ
milliseconds seconds nanoseconds = seconds * 1000 + nanoseconds / 1000000

unfoldable pub instant_at : ℕ → ℕ → Option ℕ
instant_at seconds nanoseconds =
    pick (ltb 1000000000000 seconds) None
    (pick (leb 1000000000 nanoseconds) None (Some (milliseconds seconds nanoseconds)))

abbrev pub instant_of : ℤ → ℤ → Option ℕ
instant_of (pos seconds) (pos nanoseconds) = instant_at seconds nanoseconds
instant_of (pos seconds) (negsuc nanoseconds) = None
instant_of (negsuc seconds) nanoseconds = None

-- From an earlier moment to a later one.
abbrev pub since : ℕ → ℕ → ℕ
since earlier later = later - earlier

-- The box: "Nothing received for the watchdog's time is silence." The watchdog is in seconds.
abbrev pub is_silence : ℕ → ℕ → Bool
is_silence waited watchdog = leb (watchdog * 1000) waited

-- The box "ticks once for each second of the machine's clock": so many have gone by since the start, and so many ticks were made.
abbrev pub due : ℕ → ℕ → ℕ
due gone made = since made (gone / 1000)

-- "Seconds missed are made up": the state behind so many ticks.
abbrev pub ticked : ℕ → List ℕ → List ℕ
ticked zero m = m
ticked (suc n) m = ticked n (left (tick_clock m) m)
