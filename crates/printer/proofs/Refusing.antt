-- Demand 1: the rule tests the state and the store first and then the buffers, each before it reads a byte, and of every other refusal the law of
-- outcomes says what stays and what is answered.
use Prim.Native.Nat.{ℕ}
use mathlib.Core.Bool.{true}
use mathlib.Core.List.{List, [], ◌∷◌}
use mathlib.Core.Path.{◌≡◌, refl, sym, ◌∙◌}
use native.Mathlib.Omega.{arith}
use borrow.Author.Tests.{leb-true, leb-false}
use lib.Dec.{leb}
use Rattle.frame.specs.Ground.{pick, within}
use Rattle.frame.proofs.Ground.{pick_case, unless_tells, true_both, never}
use Rattle.printer.specs.State.{printer_of, valid_state}
use Rattle.printer.specs.Messages.{valid_store}
use Rattle.printer.specs.Answer.{nack}
use Rattle.printer.specs.Call.{set_clock, set_date_change, tick_clock}
use Rattle.printer.specs.Receive.{Outcome, outcome, silent, answer_size, strips_size}
use Rattle.frame.specs.Holding.{buffer_behind, holding_behind, is_holding}
use Rattle.printer.specs.Single.{HandedByte, single}
use Rattle.printer.specs.OutcomeLaws.{Refuses}
use Rattle.printer.specs.Demands.{Untouched, UntouchedByte, BadState, BadStateElsewhere, BadByte, ShortBuffer, ShortForByte, RefusedStays}
use Rattle.printer.proofs.Bytewise.{untaken_buffer, untaken_number}
use Rattle.printer.proofs.OutcomeLaws.{refusal_keeps}

silent_one : (m : List ℕ) → Untouched m (silent (printer_of m) 1) 1
silent_one m = record { gets = refl; nowhere = refl; takes = refl; writes = refl; prints = refl; stays = refl; stores = refl }

pub bad_state : BadState
unfolding outcome
bad_state m h e =
    unless_tells Bad (valid_state m) _ _ (λ _. silent_one m) (λ a.
    unless_tells Bad (valid_store h.store) _ _ (λ _. silent_one m) (λ b.
    never (sym e ∙ true_both _ _ a b)))
  where
    Bad : Outcome → Type 0
    Bad o = Untouched m o 1

silent_two : (m : List ℕ) → Untouched m (silent (printer_of m) 2) 2
silent_two m = record { gets = refl; nowhere = refl; takes = refl; writes = refl; prints = refl; stays = refl; stores = refl }

pub bad_state_elsewhere : BadStateElsewhere
unfolding set_clock set_date_change tick_clock
bad_state_elsewhere m =
    record {
      clock_set = λ c r m' v p. (p.gives ∙ rw v, p.state ∙ rw v);
      date_change_set = λ t r m' v p. (p.gives ∙ rw v, p.state ∙ rw v);
      second_passes = λ r m' v p. (p.gives ∙ rw v, p.state ∙ rw v);
      fresh = λ model c r m' v p. (p.gives ∙ rw v, p.state ∙ rw v);
    }

pub short_buffer : ShortBuffer
unfolding outcome
short_buffer m h v w e =
    rw (v, w) (
    unless_tells Short (leb answer_size h.answer_room) _ _ (λ _. silent_two m) (λ a.
    unless_tells Short (leb strips_size h.strip_room) _ _ (λ _. silent_two m) (λ b.
    never (sym e ∙ true_both _ _ a b))))
  where
    Short : Outcome → Type 0
    Short o = Untouched m o 2

-- The two answers of a refusal, by its number.
answer_by_number : (m : List ℕ) (o : Outcome) → Refuses m o → o.answer ≡ pick (leb o.number 3) [] (nack ∷ [])
answer_by_number m o r =
    pick_case (λ (answer : List ℕ). o.answer ≡ answer) (leb o.number 3) _ _
    (λ e. r.answers_nothing (omega (arith, leb-true o.number 3 e)))
    (λ e. r.answers_nack (omega (arith, leb-false o.number 3 e)))

pub refused_stays : RefusedStays
refused_stays m h n =
    let r = refusal_keeps m h n in
    (r.state, r.store, r.strips, answer_by_number m (outcome m h) r)

-- ---- A single byte.
-- The same of any outcome.
record UntouchedBy (m : List ℕ) (h : HandedByte) (number : ℕ) (o : Outcome) : Type 0 where
  untouched : Untouched m o number
  holding : holding_behind h.holding o.number ≡ h.holding
  buffer : buffer_behind h.holding h.buffer h.byte o.number ≡ h.buffer

as_untouched : (m : List ℕ) (h : HandedByte) (number : ℕ) → UntouchedBy m h number (single m h) → UntouchedByte m h number
as_untouched m h number u = record { untouched = u.untouched; holding = u.holding; buffer = u.buffer }

-- 1 and 2 leave what is held as it was.
silent_holding : (h : HandedByte) (m : List ℕ) (number : ℕ) → within 1 2 number ≡ true → Untouched m (silent (printer_of m) number) number
    → UntouchedBy m h number (silent (printer_of m) number)
silent_holding h m number e u =
    record { untouched = u; holding = sym (untaken_number h.holding number e); buffer = sym (untaken_buffer h.holding h.buffer h.byte number e) }

pub bad_byte : BadByte
unfolding single
bad_byte m h e =
    as_untouched m h 1
    (unless_tells Bad (valid_state m) _ _ (λ _. one) (λ a.
    unless_tells Bad (valid_store h.store) _ _ (λ _. one) (λ b.
    unless_tells Bad (is_holding h.holding h.buffer) _ _ (λ _. one) (λ c.
    never (sym e ∙ true_both _ _ a (true_both _ _ b c))))))
  where
    Bad : Outcome → Type 0
    Bad o = UntouchedBy m h 1 o

    one : UntouchedBy m h 1 (silent (printer_of m) 1)
    one = silent_holding h m 1 refl (silent_one m)

pub short_for_byte : ShortForByte
unfolding single
short_for_byte m h v w k e =
    as_untouched m h 2
    (rw (v, w, k) (
    unless_tells Short (leb answer_size h.answer_room) _ _ (λ _. two) (λ a.
    unless_tells Short (leb strips_size h.strip_room) _ _ (λ _. two) (λ b.
    never (sym e ∙ true_both _ _ a b)))))
  where
    Short : Outcome → Type 0
    Short o = UntouchedBy m h 2 o

    two : UntouchedBy m h 2 (silent (printer_of m) 2)
    two = silent_holding h m 2 refl (silent_two m)
