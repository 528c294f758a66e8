-- What is true of the clock: every real moment has a real successor, and what date items stand for prints.
use Rattle.std.specs.Prelude.{ℕ, ◌-◌, true, List, [], ◌∷◌, map, ◌≡◌, length, take, drop}
use Rattle.content.specs.StripLaws.{printable}
use Rattle.calendar.specs.Clock.{clock_text, date, entries, entry, is_real, moment, month_entry, tick}
use Rattle.calendar.specs.declared.clock.Clock.{Clock}

-- 01, Parameters, counter, clock: "It moves by a call per second": every real moment has a real successor.
abbrev pub TickReal : Type 0
TickReal = (c : Clock) → is_real c ≡ true → is_real (tick c) ≡ true

-- Every entry of an hour, a minute, a day or a month is of characters and 00h.
abbrev pub EntryPrints : Type 0
EntryPrints = (n : ℕ) → (printable (entry n) ≡ true) × (printable (month_entry n) ≡ true)

-- So what the codes of date items stand for prints at every moment.
abbrev pub EntriesPrint : Type 0
EntriesPrint = (c : Clock) → printable (entries c) ≡ true

-- 01, What a content is: "Codes 55h 56h 57h are the three characters of the hour's entry, 58h to 5Ah the minute's, 5Bh to 5Dh the
-- month's, 61h to 63h the day of month's". Each entry stands where its codes look.
abbrev pub entry_from : ℕ → Clock → List ℕ
entry_from code c = take 3 (drop (code - 0x55) (entries c))

abbrev pub EntriesPlaced : Type 0
EntriesPlaced =
    (c : Clock) →
    (entry_from 0x55 c ≡ entry c.hour)
    × (entry_from 0x58 c ≡ entry c.minute)
    × (entry_from 0x5B c ≡ month_entry c.date.month)
    × (entry_from 0x61 c ≡ entry c.date.day)

-- Codes 55h to 6Ch: 24 of them; 01, On the wire: D6h's data has 22 bytes.
abbrev pub TextsLong : Type 0
TextsLong = (c : Clock) → (length (entries c) ≡ 24) × (length (clock_text c) ≡ 22)

-- The last second of a day.
abbrev pub eve : ℕ → ℕ → ℕ → Clock
eve day month year = moment 59 59 23 (date day month year)

-- The first second of a day.
abbrev pub morrow : ℕ → ℕ → ℕ → Clock
morrow day month year = moment 0 0 0 (date day month year)

-- 01, Samples: "28 February 2024 is followed by the 29th, 28 February 2023 by 1 March", and in 2000, a leap year too, by the 29th;
-- 01, Parameters, counter, clock: "31 December 2099 23:59:59 is followed by 1 January 2000 00:00:00".
abbrev pub TimeSamples : Type 0
TimeSamples =
    map tick (eve 28 2 24 ∷ eve 28 2 23 ∷ eve 28 2 0 ∷ eve 31 12 99 ∷ [])
    ≡ morrow 29 2 24 ∷ morrow 1 3 23 ∷ morrow 29 2 0 ∷ morrow 1 1 0 ∷ []

-- What the codes stand for on 29 February 2024 at 23:59: "23", "59", "FEV" and "29", each at its code's place.
abbrev pub EntriesSample : Type 0
EntriesSample =
    entries (moment 58 59 23 (date 29 2 24))
    ≡ 0x32 ∷ 0x33 ∷ 0x00 ∷ 0x35 ∷ 0x39 ∷ 0x00 ∷ 0x46 ∷ 0x45 ∷ 0x56 ∷ 0x00 ∷ 0x00 ∷ 0x00
    ∷ 0x32 ∷ 0x39 ∷ 0x00 ∷ 0x00 ∷ 0x00 ∷ 0x00 ∷ 0x00 ∷ 0x00 ∷ 0x00 ∷ 0x00 ∷ 0x00 ∷ 0x00 ∷ []
