-- Why it makes no difference that the box is called only once what is held is whole: before that it would say 3 and change nothing, and what
-- some burst leaves always has room for a byte.
use Prim.Native.Nat.{ℕ, ◌≤◌}
use mathlib.Core.Bool.{Bool, true, false}
use mathlib.Core.List.{List}
use mathlib.Core.Path.{◌≡◌, refl, sym, ◌∙◌, ap}
use native.Mathlib.Omega.{arith}
use borrow.Author.Tests.{eqb-true, lt-leb}
use lib.Dec.{eqb, leb}
use lib.ListN.{length, set}
use Rattle.frame.specs.Ground.{pick, within}
use Rattle.frame.specs.Holding.{buffer_behind, is_holding}
use Rattle.frame.specs.Receive.{number, received}
use Rattle.frame.specs.declared.holding.Holding.{Holding}
use Rattle.frame.specs.declared.holding.Holding.TheVariants.{Held, Dropping}
use Rattle.frame.proofs.HoldingLaws.{three_partial}
use Rattle.printer.specs.State.{printer_of, valid_state}
use Rattle.printer.specs.Messages.{valid_store}
use Rattle.printer.specs.Receive.{Outcome, answer_size, handled, outcome, silent, strips_size}
use Rattle.printer.specs.Single.{HandedByte, joined_by, single, taken}
use Rattle.printer.specs.Demands.{full}
use Rattle.printer.proofs.Accepting.{byte_as_whole, room_enough, valid_handled}
use Rattle.printer.proofs.Bytewise.{handled_loud, held_tell}
use Rattle.serving.specs.Hold.{asked, handed_in, left_buffer, served, served_by, taken_unless}
use Rattle.serving.specs.HoldLaws.{ServedAsSingle}

module _ (m : List ℕ) (h : HandedByte) (v : valid_state m ≡ true) (w : valid_store h.store ≡ true) (a : answer_size ≤ h.answer_room) (b : strips_size ≤ h.strip_room) where
  abbrev over : List ℕ → Outcome
  over s = outcome m (full h.store s)

  asked_whole : (s : List ℕ) → asked m h s ≡ over s
  asked_whole s = go (eqb (number (received s)) 3) refl
    where
      go : (t : Bool) → eqb (number (received s)) 3 ≡ t → pick t (silent (printer_of m) 3) (outcome m (handed_in h s)) ≡ over s
      go true e =
          sym
          (valid_handled m h.store s v w
          ∙ ap (handled (printer_of m) h.store s) (three_partial s (eqb-true (number (received s)) 3 e)))
      go false e = room_enough m (handed_in h s) a b

  loud : (s : List ℕ) → within 1 2 (over s).number ≡ false
  loud s = ap (λ (o : Outcome). within 1 2 o.number) (valid_handled m h.store s v w) ∙ handled_loud (printer_of m) h.store s

  record Same (x : Holding) : Type 0 where
    given : served_by m h x ≡ single m h
    buffer : left_buffer x h.buffer h.byte ≡ buffer_behind x h.buffer h.byte (single m h).number

  same : (x : Holding) → h.holding ≡ x → is_holding h.holding h.buffer ≡ true → Same x
  same (Held n) e k =
      let room = held_tell h.holding h.buffer e k in
      let s = joined_by n h.buffer h.byte in
      let q : single m h ≡ taken (over s) = (byte_as_whole m h v w k a b).held n e in
      let f : leb (length h.buffer) n ≡ false = lt-leb (length h.buffer) n (omega (arith, room.full, room.room)) in
      let g : served_by m h (Held n) ≡ single m h =
      ap (λ (t : Bool). pick t (silent (printer_of m) 1) (taken_unless (asked m h s))) f
      ∙ ap taken_unless (asked_whole s)
      ∙ ap (λ (t : Bool). pick t (over s) (taken (over s))) (loud s)
      ∙ sym q in
      record {
        given = g;
        buffer =
            sym
            (ap (λ (o : Outcome). buffer_behind (Held n) h.buffer h.byte o.number) q
            ∙ ap (λ (t : Bool). pick t h.buffer (set h.buffer n h.byte)) (loud s));
      }
  same Dropping e k = record { given = sym ((byte_as_whole m h v w k a b).dropped e); buffer = refl }

pub served_as_single : ServedAsSingle
unfolding served
served_as_single m h v w k a b =
    let s = same m h v w a b h.holding refl k in
    record { outcome = s.given; buffer = s.buffer }
