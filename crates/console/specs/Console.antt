-- The console program of document 01, over the rules of the box and of a line.
use Rattle.std.specs.Prelude.{ℕ, ◌+◌, ◌<◌, ◌≤◌, Bool, true, false, List, [], ◌∷◌, ◌++◌, ◌⊎◌, ◌≡◌, Option, Some, None, Result, Ok, Err, IsOk, eqb, length, drop, replicate}
use Rattle.line.specs.Line.{line}
use Rattle.calendar.specs.Clock.{date, moment}
use Rattle.printer.specs.State.{bytes_of, state_size}
use Rattle.printer.specs.Call.{fresh}
use Rattle.printer.specs.Order.{store_after}
use Rattle.printer.specs.Receive.{Handed, Outcome, given_by, outcome, kept}
use Rattle.printer.specs.Demands.{Call, hand_in, after_all, full}
use Rattle.console.specs.declared.Turn.{Turn}

-- 01, Samples, the last paragraph: "The console program starts a fresh type 1 at 29 February 2024 23:59:58".
abbrev pub start_state : List ℕ
start_state = bytes_of (fresh 1 (moment 58 59 23 (date 29 2 24)))

-- An empty store, kept from call to call.
abbrev pub start_store : List ℕ
start_store = replicate 8192 0x00

-- 01, the same: it "prints one line a call: number, space, answer in capital hex without gaps [..]; 3 isn't printed". 02, Wish 4: a place
-- stands "after the number and a colon".
abbrev pub shown : Bool → List ℕ → List ℕ
shown true l = []
shown false l = l

abbrev pub line_of : Outcome → List ℕ
line_of o = shown (eqb o.number 3) (line (given_by o) o.answer)

-- How long it is, where there is one.
abbrev pub sized : List ℕ → Option ℕ
sized [] = None
sized (b ∷ l) = Some (length (b ∷ l))

-- A number of up to three digits, a colon, a place of up to twenty, a space, the longest answer's 554 bytes in hex, a newline.
abbrev pub line_size : ℕ
line_size = 1134

-- How far a walk has come: the calls that were made, the store behind them, and the place in the bytes.
pub record Stand : Type 0 where
  pub calls : List Call
  pub store : List ℕ
  pub place : ℕ

abbrev pub first_stand : Stand
first_stand = record { calls = []; store = start_store; place = 0 }

-- What is handed in there, what the box makes of it, and where that leads to.
abbrev pub left : List ℕ → Stand → Handed
left s w = full w.store (drop w.place s)

abbrev pub next : List ℕ → Stand → Outcome
next s w = outcome (after_all start_state w.calls) (left s w)

abbrev pub onward : List ℕ → Stand → Stand
onward s w =
    record {
      calls = w.calls ++ (hand_in (left s w) ∷ []);
      store = store_after (next s w).store w.store;
      place = w.place + (next s w).consumed;
    }

-- 01, the same: a line a call "until 3 or no bytes are left".
pub data Walks (s : List ℕ) : Stand → Type 0 where
  begins : Walks s first_stand
  goes_on : (w : Stand) → Walks s w → w.place < length s → ((next s w).number ≡ 3 → ⊥) → Walks s (onward s w)

abbrev pub Ended : List ℕ → Stand → Type 0
Ended s w = (length s ≤ w.place) ⊎ ((next s w).number ≡ 3)

-- The contract of `start`: bytes of a state's size become the start state, others stay.
pub record Starts (m m' : List ℕ) : Type 0 where
  pub state : length m ≡ state_size → m' ≡ start_state
  pub other : (length m ≡ state_size → ⊥) → m' ≡ m

-- The contract of `call`: how long the line is that lies over the text's front, and what the box consumed and left.
pub record Turns (m store s text : List ℕ) (r : Turn) (m' store' text' : List ℕ) : Type 0 where
  pub size : r.size ≡ sized (line_of (outcome m (full store s)))
  pub consumed : r.consumed ≡ (outcome m (full store s)).consumed
  pub state : m' ≡ kept (outcome m (full store s)) m
  pub stores : store' ≡ store_after (outcome m (full store s)).store store
  pub line : text' ≡ line_of (outcome m (full store s)) ++ drop (length (line_of (outcome m (full store s)))) text

-- The place that was come to, whether or not a write failed.
abbrev pub place_of : Result ℕ ℕ → ℕ
place_of (Ok place) = place
place_of (Err place) = place

-- The contract of `run`: the place was walked to, state and store are those behind the walk's calls, and unless a write failed nothing
-- follows.
pub record Runs (s : List ℕ) (r : Result ℕ ℕ) (m' store' : List ℕ) : Type 0 where
  pub stand : Stand
  pub walked : Walks s stand
  pub place : place_of r ≡ stand.place
  pub state : m' ≡ after_all start_state stand.calls
  pub stores : store' ≡ stand.store
  pub ended : IsOk r → Ended s stand
