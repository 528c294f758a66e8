-- What the bytes of a read and the time that went by make of the box on a line.
use Rattle.std.specs.Prelude.{ℕ, ◌+◌, ◌≤◌, Bool, true, List, [], ◌∷◌, ◌≡◌, Result, Ok, Err, IsOk, eqb, length, take}
use Rattle.frame.specs.Ground.{pick}
use Rattle.frame.specs.Holding.{holding_behind, silenced}
use Rattle.frame.specs.declared.holding.Holding.{Holding}
use Rattle.printer.specs.Order.{store_after}
use Rattle.printer.specs.Receive.{Outcome, kept}
use Rattle.printer.specs.Bursts.{Stand, byte_in}
use Rattle.serving.specs.Hold.{left_buffer, served}
use Rattle.serving.specs.Pace.{since, is_silence, due, ticked}
use Rattle.thebox.specs.declared.line.Line.{Line}
use Rattle.thebox.specs.declared.say.Failure.{Failure}

-- The box between two bytes: its state, its store, what is held and the buffer that it stands in.
abbrev pub stand : List ℕ → List ℕ → Holding → List ℕ → Stand
stand state store holding buffer = record { state = state; store = store; holding = holding; buffer = buffer }

abbrev pub stand_of : Line → Stand
stand_of l = stand l.state l.store l.holding l.buffer

-- The line with the box brought there, and all else as it was.
abbrev pub standing : Line → Stand → Line
standing l w = record l { state = w.state; store = w.store; holding = w.holding; buffer = w.buffer }

-- A byte, with buffers of the stated size: what the box gives, and what it leaves.
abbrev pub given_at : Stand → ℕ → Outcome
given_at w byte = served w.state (byte_in w byte)

abbrev pub onward : Stand → ℕ → Stand
onward w byte =
    stand (kept (given_at w byte) w.state) (store_after (given_at w byte).store w.store)
    (holding_behind w.holding (given_at w byte).number) (left_buffer w.holding w.buffer byte)

-- Bytes, one by one.
abbrev pub fed : Stand → List ℕ → Stand
fed w [] = w
fed w (byte ∷ s) = fed (onward w byte) s

-- The contract of `feed_byte`.
pub record Steps (l : Line) (byte : ℕ) (l' : Line) : Type 0 where
  pub comes : l' ≡ standing l (onward (stand_of l) byte)

-- The contract of `feed`: the box is behind so many of the bytes, and behind all of them unless a write failed.
pub record Feeds (l : Line) (s : List ℕ) (r : Result Unit Failure) (l' : Line) : Type 0 where
  pub count : ℕ
  pub some : count ≤ length s
  pub comes : l' ≡ standing l (fed (stand_of l) (take count s))
  pub all : IsOk r → count ≡ length s

-- What time makes of it before the bytes of a read are looked at: the ticks that are due are made, and after the watchdog's time without a
-- byte nothing is held.
abbrev pub ticks : Line → ℕ → ℕ
ticks l at = due (since l.settings.began at) l.ticked

abbrev pub passed : Line → ℕ → Line
passed l at =
    record l {
      state = ticked (ticks l at) l.state;
      holding = pick (is_silence (since l.heard at) l.settings.watchdog) (silenced l.holding) l.holding;
      ticked = l.ticked + ticks l at;
    }

-- The contract of `pass`.
pub record Passes (l : Line) (at : ℕ) (l' : Line) : Type 0 where
  pub line : l' ≡ passed l at

-- Bytes that came were heard.
abbrev pub heard : Line → ℕ → List ℕ → Line
heard l at s = record l { heard = pick (eqb (length s) 0) l.heard at }

-- Behind bytes there is more to read, unless a write failed.
abbrev pub goes_on : Result Unit Failure → Result Bool Failure
goes_on (Ok u) = Ok true
goes_on (Err why) = Err why

-- The contract of `take`: what time makes, then the bytes. On a tty no bytes are half a second gone by, on a pipe they are the end; a
-- write that failed is the end too.
pub record Takes (l : Line) (at : ℕ) (s : List ℕ) (r : Result Bool Failure) (l' : Line) : Type 0 where
  pub written : Result Unit Failure
  pub feeds : Feeds (heard (passed l at) at s) s written l'
  pub goes : r ≡ pick (eqb (length s) 0) (Ok l.settings.tty) (goes_on written)
