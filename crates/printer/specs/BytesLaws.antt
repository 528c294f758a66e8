-- What is true of the bytes of a state: they are the printer that they hold, no more and no less.
-- 01, What the proofs owe us: "Every public call's contract determines [..] state and every byte of every buffer". The contracts say the
-- state's bytes; by these laws they say the printer as well, and the printer says them.
use Rattle.std.specs.Prelude.{ℕ, ◌≤◌, ◌<◌, true, List, [], ◌∷◌, ◌≡◌, length, get_or}
use Rattle.frame.specs.Ground.{within, each}
use Rattle.content.specs.Content.{longest_message}
use Rattle.calendar.specs.Clock.{is_real}
use Rattle.calendar.specs.DateChange.{is_time}
use Rattle.printer.specs.Counter.{Counter}
use Rattle.printer.specs.Jet.{Jet, good_parameters, with_message, with_parameters}
use Rattle.printer.specs.State.{Printer, state_size, with_jet, with_jets, with_clock, with_date_change, fresh_printer, printer_of, bytes_of, valid, valid_state}
use Rattle.printer.specs.Print.{counted_jets}
use Rattle.calendar.specs.declared.clock.Clock.{Clock}
use Rattle.calendar.specs.declared.date_change.TimeOfDay.{TimeOfDay}

-- Lists of bytes are lists of numbers here; each is a byte.
abbrev pub AllBytes : List ℕ → Type 0
AllBytes m = (i : ℕ) → get_or m i 0 < 256

-- A printer that its bytes have room for: a byte for the type, each part of the moment and of the date change; in each of the four jets 2 bytes for the
-- length, 512 of content, 11 general ones, and in its counter 26 of settings, 1 for whether it is set, 4 for the value, 3 for the batch.
pub record SizedCounter (c : Counter) : Type 0 where
  pub settings : length c.settings ≡ 26
  pub set : c.set < 256
  pub value : c.value < 4_294_967_296
  pub batch : c.batch < 16_777_216

pub record SizedJet (j : Jet) : Type 0 where
  pub message : j.length < 65_536
  pub content : length j.content ≡ longest_message
  pub general : length j.general ≡ 11
  pub counter : SizedCounter j.counter

-- What holds of each of a row.
abbrev pub AllOf : {A : Type 0} → (A → Type 0) → List A → Type 0
AllOf P [] = Unit {0}
AllOf P (x ∷ xs) = P x × AllOf P xs

abbrev pub SizedJets : List Jet → Type 0
SizedJets js = AllOf SizedJet js

pub record SizedMoment (c : Clock) : Type 0 where
  pub second : c.second < 256
  pub minute : c.minute < 256
  pub hour : c.hour < 256
  pub day : c.date.day < 256
  pub month : c.date.month < 256
  pub year : c.date.year < 256

pub record SizedTime (t : TimeOfDay) : Type 0 where
  pub hour : t.hour < 256
  pub minute : t.minute < 256

pub record Sized (p : Printer) : Type 0 where
  pub model : p.model < 256
  pub clock : SizedMoment p.clock
  pub date_change : SizedTime p.date_change
  pub four : length p.jets ≡ 4
  pub jets : SizedJets p.jets

-- Reading 2,245 bytes and writing what was read gives the same bytes, whatever they are.
abbrev pub StateBack : Type 0
StateBack = (m : List ℕ) → length m ≡ state_size → AllBytes m → bytes_of (printer_of m) ≡ m

-- So two states that hold the same printer are the same bytes.
abbrev pub SameBytes : Type 0
SameBytes =
    (m m' : List ℕ) →
    length m ≡ state_size → AllBytes m →
    length m' ≡ state_size → AllBytes m' →
    printer_of m ≡ printer_of m' →
    m ≡ m'

-- Writing a printer and reading its bytes gives the same printer.
abbrev pub PrinterBack : Type 0
PrinterBack = (p : Printer) → Sized p → printer_of (bytes_of p) ≡ p

-- It has 2,245 bytes, which are a valid state where the printer is valid.
abbrev pub BytesFull : Type 0
BytesFull = (p : Printer) → Sized p → length (bytes_of p) ≡ state_size

abbrev pub ValidBytes : Type 0
ValidBytes = (p : Printer) → Sized p → valid_state (bytes_of p) ≡ valid p

-- What is read of bytes has room there again, and so has a fresh printer, and a printer with another jet, with another moment or date
-- change, or with each of its jets changed.
abbrev pub SizedOf : Type 0
SizedOf = (m : List ℕ) → length m ≡ state_size → AllBytes m → Sized (printer_of m)

abbrev pub SizedFresh : Type 0
SizedFresh =
    (model : ℕ) (clock : Clock) → within 1 4 model ≡ true → is_real clock ≡ true → Sized (fresh_printer model clock)

abbrev pub SizedWithJet : Type 0
SizedWithJet = (p : Printer) (n : ℕ) (j : Jet) → Sized p → SizedJet j → Sized (with_jet p n j)

abbrev pub SizedClock : Type 0
SizedClock = (p : Printer) (clock : Clock) → Sized p → is_real clock ≡ true → Sized (with_clock p clock)

abbrev pub SizedDateChange : Type 0
SizedDateChange = (p : Printer) (time : TimeOfDay) → Sized p → is_time time ≡ true → Sized (with_date_change p time)

abbrev pub SizedEach : Type 0
SizedEach =
    (p : Printer) (f : ℕ → Jet → Jet) →
    ((n : ℕ) (j : Jet) → SizedJet j → SizedJet (f n j)) →
    Sized p →
    Sized (with_jets p (each f 1 p.jets))

-- So has a jet with another message or with other parameters, and a valid state behind a print.
abbrev pub SizedMessage : Type 0
SizedMessage = (j : Jet) (c : List ℕ) → SizedJet j → length c ≤ longest_message → SizedJet (with_message j c)

abbrev pub SizedParameters : Type 0
SizedParameters =
    (j : Jet) (q : List ℕ) → SizedJet j → length q ≡ 37 → good_parameters q ≡ true → SizedJet (with_parameters j q)

abbrev pub SizedPrint : Type 0
SizedPrint = (m : List ℕ) → valid_state m ≡ true → AllBytes m → Sized (counted_jets (printer_of m))
