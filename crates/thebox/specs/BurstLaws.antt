-- 02, Wish 6: what the box on a line gives of a burst, byte by byte, is what the first receiver gives over the whole burst.
use Rattle.std.specs.Prelude.{ℕ, ◌≤◌, true, List, [], ◌∷◌, ◌≡◌, eqb, length}
use Rattle.frame.specs.Ground.{pick}
use Rattle.frame.specs.Holding.{holding_size}
use Rattle.frame.specs.declared.holding.Holding.{Holding}
use Rattle.printer.specs.State.{valid_state}
use Rattle.printer.specs.BytesLaws.{AllBytes}
use Rattle.printer.specs.Messages.{valid_store}
use Rattle.printer.specs.Bursts.{Reply, Run, Stand, quiet, reply, whole_run}
use Rattle.thebox.specs.Line.{given_at, onward, fed}

-- What the box on a line says, "but for a 3 at each byte that completes nothing or is dropped".
abbrev pub replies : Stand → List ℕ → List Reply
replies w [] = []
replies w (byte ∷ s) =
    pick (eqb (given_at w byte).number 3) (replies (onward w byte) s) (reply (given_at w byte) ∷ replies (onward w byte) s)

-- All that a burst comes to.
abbrev pub line_run : Stand → List ℕ → Run
line_run w s = record { replies = replies w s; state = (fed w s).state; store = (fed w s).store }

-- "For every burst between two silences, with a valid state, buffers of the stated size and no other call in between".
abbrev pub SameAsFirst : Type 0
SameAsFirst =
    (m store : List ℕ) (holding : Holding) (buffer burst : List ℕ) (calls : ℕ) →
    valid_state m ≡ true →
    AllBytes m →
    valid_store store ≡ true →
    length buffer ≡ holding_size →
    length burst ≤ calls →
    line_run (quiet m store holding buffer) burst ≡ whole_run calls m store burst
