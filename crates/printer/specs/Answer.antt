-- What the functions that answer promise: a silent number, the first byte of an answer, and a frame behind it.
use Rattle.std.specs.Prelude.{ℕ, ◌+◌, Result, Ok, Err, List, [], ◌≡◌, length, set, replicate}
use Rattle.frame.specs.Ground.{Test, pick, all, given, over}
use Rattle.frame.specs.Build.{Built, given_by, length_given}
use Rattle.frame.specs.declared.given.Refusal.{Refusal}
use Rattle.printer.specs.Order.{Order}
use Rattle.printer.specs.declared.answer.Answered.{Answered}

-- 01, On the wire: "ACK is 06h, NACK 15h."
abbrev pub ack : ℕ
ack = 0x06

abbrev pub nack : ℕ
nack = 0x15

abbrev pub none : List ℕ
none = replicate 4 0

-- What is handed back of a refusal that takes nothing in: numbers 1 to 3.
pub record Silent (why : Refusal) (r : Answered) : Type 0 where
  pub answered : r ≡ record { outcome = Err why; consumed = 0; answer = 0; strips = none }

-- What is handed back of a call that was done, with a frame of so many bytes behind the 06h, or refused, with 15h alone.
abbrev pub settled : Result ℕ Refusal → ℕ → Answered
settled (Ok frame) consumed = record { outcome = Ok tt; consumed = consumed; answer = frame + 1; strips = none }
settled (Err why) consumed = record { outcome = Err why; consumed = consumed; answer = 1; strips = none }

-- What is told of a change that is done: no frame is answered.
abbrev pub bare : Result Unit Refusal → Result ℕ Refusal
bare (Ok u) = Ok 0
bare (Err why) = Err why

abbrev pub first_byte : Result ℕ Refusal → ℕ
first_byte (Ok frame) = ack
first_byte (Err why) = nack

pub record Settles (told : Result ℕ Refusal) (consumed : ℕ) (before : List ℕ) (r : Answered) (after : List ℕ) : Type 0 where
  pub answered : r ≡ settled told consumed
  pub bytes : after ≡ set before 0 (first_byte told)

-- The frame that is told, where the tests before it all hold.
abbrev pub told : List Test → List ℕ → List ℕ
told tests frame = pick (all tests) frame []

pub record Tells (tests : List Test) (frame before : List ℕ) (r : Built) (after : List ℕ) : Type 0 where
  pub gives : given_by r ≡ given tests
  pub size : length_given r ≡ length (told tests frame)
  pub bytes : after ≡ over (told tests frame) before

-- The same of an order's tests and frame.
abbrev pub TellsOrder : Order → List ℕ → Built → List ℕ → Type 0
TellsOrder o before r after = Tells o.tests o.frame before r after
