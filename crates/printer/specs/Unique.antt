-- Every contract has one outcome: two that meet it for the same inputs have the same answer and the same bytes after.
use denote.Ref.{Bor}
use Rattle.std.specs.Prelude.{ℕ, Result, Ok, Err, List, ◌≡◌}
use Rattle.frame.specs.Ground.{OneOutcome}
use Rattle.frame.specs.Given.{given_in}
use Rattle.frame.specs.declared.given.Refusal.{Refusal}
use Rattle.printer.specs.Order.{Order, Obeys}
use Rattle.printer.specs.Messages.{Shows, bytes_shown}
use Rattle.printer.specs.Receive.{Receives}
use Rattle.printer.specs.Call.{Freshens, set_clock, set_date_change, tick_clock}
use Rattle.calendar.specs.declared.clock.Clock.{Clock}
use Rattle.calendar.specs.declared.date_change.TimeOfDay.{TimeOfDay}
use Rattle.frame.specs.declared.holding.Holding.{Holding}
use Rattle.printer.specs.Single.{TakesByte}
use Rattle.printer.specs.declared.answer.Answered.{Answered}
use Rattle.printer.specs.declared.single.Taken.{Taken}

-- `fresh`.
abbrev pub FreshensUnique : Type 0
FreshensUnique = (m : List ℕ) (model : ℕ) (clock : Clock) → OneOutcome (λ (r : Result Unit Refusal). Freshens m model clock (given_in r))

-- The calls `set_clock`, `set_date_change` and `tick` obey the orders of `Call` that are named `set_clock`, `set_date_change` and `tick_clock`, and of
-- every order this is true.
abbrev pub ObeysUnique : Type 0
ObeysUnique = (o : Order) (m : List ℕ) → OneOutcome (Obeys o m)

abbrev pub SetClockUnique : Type 0
SetClockUnique = (m : List ℕ) (clock : Clock) → OneOutcome (λ (r : Result Unit Refusal). Obeys (set_clock m clock) m (given_in r))

abbrev pub SetDateChangeUnique : Type 0
SetDateChangeUnique = (m : List ℕ) (time : TimeOfDay) → OneOutcome (λ (r : Result Unit Refusal). Obeys (set_date_change m time) m (given_in r))

abbrev pub TickUnique : Type 0
TickUnique = (m : List ℕ) → OneOutcome (λ (r : Result Unit Refusal). Obeys (tick_clock m) m (given_in r))

-- `receive`: number, count, answer's length and strips' lengths are one answer; then the bytes of the state, of the store and of the two
-- buffers.
abbrev pub ReceivesUnique : Type 0
ReceivesUnique =
    (m store s answer strips : List ℕ) (r r' : Answered) (m' m'' store' store'' answer' answer'' strips' strips'' : List ℕ) →
    Receives m store s answer strips r m' store' answer' strips' →
    Receives m store s answer strips r' m'' store'' answer'' strips'' →
    (r ≡ r') × (m' ≡ m'') × (store' ≡ store'') × (answer' ≡ answer'') × (strips' ≡ strips'')

-- `take_byte`: the same, with what is held behind the byte and the buffer that it stands in.
abbrev pub TakesByteUnique : Type 0
TakesByteUnique =
    (m store : List ℕ) (holding : Holding) (buffer : List ℕ) (byte : ℕ) (answer strips : List ℕ) (r r' : Taken)
    (m' m'' store' store'' buffer' buffer'' answer' answer'' strips' strips'' : List ℕ) →
    TakesByte m store holding buffer byte answer strips r m' store' buffer' answer' strips' →
    TakesByte m store holding buffer byte answer strips r' m'' store'' buffer'' answer'' strips'' →
    (r ≡ r') × (m' ≡ m'') × (store' ≡ store'') × (buffer' ≡ buffer'') × (answer' ≡ answer'') × (strips' ≡ strips'')

-- `shown`: the number, and the bytes handed back.
abbrev pub ShowsUnique : Type 0
ShowsUnique = (store current : List ℕ) (n : ℕ) → OneOutcome (Shows store current n)

-- The same of the answer that the code hands back: two are both done, with the same bytes, or both refused, with the same refusal.
abbrev pub handed_back : Result (Bor (List ℕ)) Refusal → Result (List ℕ) Refusal
handed_back (Ok part) = Ok part.now
handed_back (Err why) = Err why

abbrev pub ShownUnique : Type 0
ShownUnique =
    (store current : List ℕ) (n : ℕ) (r r' : Result (Bor (List ℕ)) Refusal) →
    Shows store current n (given_in r) (bytes_shown r) →
    Shows store current n (given_in r') (bytes_shown r') →
    handed_back r ≡ handed_back r'
