-- What a burst comes to: byte for byte by the second receiver, and together by the first. 02, Wish 6: the two are the same.
use Rattle.std.specs.Prelude.{ℕ, Option, zero, suc, ◌≤◌, true, List, [], ◌∷◌, ◌≡◌, eqb, length, drop}
use Rattle.frame.specs.Ground.{pick}
use Rattle.frame.specs.Holding.{buffer_behind, holding_behind, holding_size, silenced}
use Rattle.frame.specs.declared.holding.Holding.{Holding}
use Rattle.printer.specs.State.{valid_state}
use Rattle.printer.specs.BytesLaws.{AllBytes}
use Rattle.printer.specs.Order.{store_after}
use Rattle.printer.specs.Messages.{valid_store}
use Rattle.printer.specs.Receive.{Outcome, answer_size, kept, outcome, strips_size}
use Rattle.printer.specs.Single.{HandedByte, single}
use Rattle.printer.specs.Demands.{full}

-- What a call says on the line and at the print head: "numbers (but for a 3 at each byte that completes nothing or is dropped), answers,
-- strips".
pub record Reply : Type 0 where
  pub number : ℕ
  pub place : Option ℕ
  pub answer : List ℕ
  pub strips : List (List ℕ)

abbrev pub reply : Outcome → Reply
reply o = record { number = o.number; place = o.place; answer = o.answer; strips = o.strips }

-- All that a burst comes to, "and final state", which the store belongs to.
pub record Run : Type 0 where
  pub replies : List Reply
  pub state : List ℕ
  pub store : List ℕ

abbrev pub ended : List ℕ → List ℕ → Run
ended m store = record { replies = []; state = m; store = store }

abbrev pub saying : Reply → Run → Run
saying r x = record { replies = r ∷ x.replies; state = x.state; store = x.store }

-- ---- The first receiver "over the whole burst, called until it says 3 (not counted) or nothing is left": so many times at the most.
abbrev pub heard : List ℕ → List ℕ → List ℕ → Outcome
heard m store s = outcome m (full store s)

abbrev pub whole_run : ℕ → List ℕ → List ℕ → List ℕ → Run
whole_run zero m store s = ended m store
whole_run (suc calls) m store s =
    pick (eqb (length s) 0) (ended m store)
    (pick (eqb (heard m store s).number 3) (ended m store)
    (saying
    (reply (heard m store s))
    (whole_run calls (kept (heard m store s) m) (store_after (heard m store s).store store) (drop (heard m store s).consumed s))))

-- ---- The second, byte for byte, with what it holds.
pub record Stand : Type 0 where
  pub state : List ℕ
  pub store : List ℕ
  pub holding : Holding
  pub buffer : List ℕ

abbrev pub byte_in : Stand → ℕ → HandedByte
byte_in w byte =
    record {
      byte = byte;
      holding = w.holding;
      buffer = w.buffer;
      store = w.store;
      answer_room = answer_size;
      strip_room = strips_size;
    }

abbrev pub said : Stand → ℕ → Outcome
said w byte = single w.state (byte_in w byte)

abbrev pub behind : Stand → ℕ → Stand
behind w byte =
    record {
      state = kept (said w byte) w.state;
      store = store_after (said w byte).store w.store;
      holding = holding_behind w.holding (said w byte).number;
      buffer = buffer_behind w.holding w.buffer byte (said w byte).number;
    }

abbrev pub byte_run : Stand → List ℕ → Run
byte_run w [] = ended w.state w.store
byte_run w (byte ∷ burst) =
    pick
    (eqb (said w byte).number 3)
    (byte_run (behind w byte) burst)
    (saying (reply (said w byte)) (byte_run (behind w byte) burst))

-- Behind a silence nothing is held.
abbrev pub quiet : List ℕ → List ℕ → Holding → List ℕ → Stand
quiet m store holding buffer = record { state = m; store = store; holding = silenced holding; buffer = buffer }

-- 02, Wish 6: "For every burst between two silences, with a valid state, buffers of the stated size and no other call in between": both come
-- to the same, and the first receiver is called no more often than the burst has bytes.
abbrev pub BurstAsWhole : Type 0
BurstAsWhole =
    (m store : List ℕ) (holding : Holding) (buffer burst : List ℕ) (calls : ℕ) →
    valid_state m ≡ true →
    AllBytes m →
    valid_store store ≡ true →
    length buffer ≡ holding_size →
    length burst ≤ calls →
    byte_run (quiet m store holding buffer) burst ≡ whole_run calls m store burst
