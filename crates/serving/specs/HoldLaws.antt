-- 02, Wish 6: that the box is called only once what is held is whole makes no difference: what comes of a byte is what comes of it by the
-- receiver for single bytes, and so is what is held behind it, which its number tells.
use Rattle.std.specs.Prelude.{ℕ, ◌≤◌, true, List, ◌≡◌}
use Rattle.frame.specs.Holding.{buffer_behind, is_holding}
use Rattle.printer.specs.State.{valid_state}
use Rattle.printer.specs.Messages.{valid_store}
use Rattle.printer.specs.Receive.{answer_size, strips_size}
use Rattle.printer.specs.Single.{HandedByte, single}
use Rattle.serving.specs.Hold.{left_buffer, served}

pub record AsSingle (m : List ℕ) (h : HandedByte) : Type 0 where
  pub outcome : served m h ≡ single m h
  pub buffer :
      left_buffer h.holding h.buffer h.byte ≡
      buffer_behind h.holding h.buffer h.byte (single m h).number

-- "with a valid state, buffers of the stated size" and "a holding that some burst leaves".
abbrev pub ServedAsSingle : Type 0
ServedAsSingle =
    (m : List ℕ) (h : HandedByte) →
    valid_state m ≡ true →
    valid_store h.store ≡ true →
    is_holding h.holding h.buffer ≡ true →
    answer_size ≤ h.answer_room →
    strips_size ≤ h.strip_room →
    AsSingle m h
