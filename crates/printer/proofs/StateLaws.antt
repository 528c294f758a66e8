-- Why states stay valid: a state is valid part by part, and each call and each order replaces parts by valid ones.
use Prim.Native.Nat.{ℕ, ◌-◌, ◌≤◌}
use mathlib.Core.Bool.{true}
use mathlib.Core.List.{List, [], ◌∷◌}
use mathlib.Core.Path.{◌≡◌, refl, subst}
use native.Mathlib.Omega.{arith}
use borrow.Author.Tests.{le-leb, lt-ltb}
use lib.ListN.{length, drop}
use lib.Seq.{take_at, get_or-set_same, get_or-set_other}
use Rattle.frame.specs.Ground.{within}
use Rattle.frame.proofs.Ground.{never, both_true, true_both, unless_tells}
use Rattle.content.specs.Content.{verdict, is_content}
use Rattle.calendar.specs.Clock.{days_in, is_date, is_real, tick}
use Rattle.calendar.specs.DateChange.{is_time, midnight}
use Rattle.printer.specs.Counter.{valid_counter}
use Rattle.printer.specs.Jet.{Jet, has_jet, valid_message, valid_jet, good_parameters, with_message, with_parameters}
use Rattle.printer.specs.State.{Printer, empty_jet, with_jet, with_clock, with_date_change, valid_jets, valid, fresh_printer}
use Rattle.printer.specs.StateLaws.{FirstValid, FreshValid, ClockValid, DateChangeValid, TickValid, JetAtWithJet, JetAtOther, WithJetValid, MessageOf, MessageThere, MessageStays, ParametersStay}
use Rattle.calendar.specs.declared.clock.Clock.{Clock}
use Rattle.printer.proofs.Valid.{valid_model, valid_clock, valid_time, valid_row, empty_valid, on_row, content_short}
use Rattle.printer.proofs.Rows.{every_set, every_replicate}
use Rattle.calendar.proofs.ClockLaws.{tick_real}
use Rattle.printer.proofs.CounterLaws.{set_valid}

-- A state whose parts are valid.
pub parts_valid : (p : Printer) → within 1 4 p.model ≡ true → is_real p.clock ≡ true → is_time p.date_change ≡ true → valid_jets p ≡ true
    → valid p ≡ true
unfolding valid
parts_valid p m c t j = true_both _ _ m (true_both _ _ c (true_both _ _ t j))

-- ---- The calls.
midnight_time : is_time midnight ≡ true
unfolding is_time
midnight_time = refl

fresh_printer_valid : (model : ℕ) (clock : Clock) → within 1 4 model ≡ true → is_real clock ≡ true → valid (fresh_printer model clock) ≡ true
fresh_printer_valid model clock m r =
    parts_valid (fresh_printer model clock) m r midnight_time
    (every_replicate (λ (n : ℕ) (j : Jet). valid_jet (has_jet model n) j) empty_jet (λ k. empty_valid (has_jet model k)) 1 4)

pub first_valid : FirstValid
unfolding is_real is_date days_in
first_valid = fresh_printer_valid 1 _ refl refl

pub fresh_valid : FreshValid
fresh_valid model clock =
    unless_tells IsValid (within 1 4 model) _ _ (λ _. first_valid)
    (λ m. unless_tells IsValid (is_real clock) _ _ (λ _. first_valid) (λ r. fresh_printer_valid model clock m r))
  where
    IsValid : Printer → Type 0
    IsValid p = valid p ≡ true

pub clock_valid : ClockValid
clock_valid p clock e r = parts_valid (with_clock p clock) (valid_model p e) r (valid_time p e) (valid_row p e)

pub date_change_valid : DateChangeValid
date_change_valid p time e t = parts_valid (with_date_change p time) (valid_model p e) (valid_clock p e) t (valid_row p e)

pub tick_valid : TickValid
tick_valid p e = clock_valid p (tick p.clock) e (tick_real p.clock (valid_clock p e))

-- ---- A jet of the state.
pub jet_at_with_jet : JetAtWithJet
jet_at_with_jet p n j h g = get_or-set_same p.jets (n - 1) j empty_jet (omega arith)

pub jet_at_other : JetAtOther
jet_at_other p n m j h g other = get_or-set_other p.jets (n - 1) (m - 1) j empty_jet (λ e. other (omega arith))

-- A jet that is valid where it is put, also one that the printer lacks.
pub put_valid : (p : Printer) (n : ℕ) (j : Jet) → valid p ≡ true → 1 ≤ n → valid_jet (has_jet p.model n) j ≡ true → valid (with_jet p n j) ≡ true
put_valid p n j e h w =
    parts_valid (with_jet p n j) (valid_model p e) (valid_clock p e) (valid_time p e)
    (every_set (λ (n : ℕ) (j : Jet). valid_jet (has_jet p.model n) j) 1 (n - 1) p.jets j (valid_row p e)
    (subst (λ (k : ℕ). valid_jet (has_jet p.model k) j ≡ true) (omega arith) w))

pub with_jet_valid : WithJetValid
with_jet_valid p n j e h w = put_valid p n j e (on_row p.model n h).0 (rw h w)

-- ---- A jet's message and its parameters.
pub message_of : MessageOf
message_of j c = take_at c (drop (length c) j.content) (length c) refl

pub message_there : MessageThere
unfolding is_content verdict
message_there j [] e = never e
message_there j (b ∷ c) e = lt-ltb 0 (length (b ∷ c)) (omega arith)

-- A jet that is there, part by part.
pub record ValidJet (j : Jet) : Type 0 where
  pub message_valid : valid_message j ≡ true
  pub counter_valid : valid_counter j.counter ≡ true

pub present_tells : (j : Jet) → valid_jet true j ≡ true → ValidJet j
unfolding valid_jet
present_tells j e = let a = both_true _ _ e in record { message_valid = a.0; counter_valid = a.1 }

pub tells_present : (j : Jet) → ValidJet j → valid_jet true j ≡ true
unfolding valid_jet
tells_present j v = true_both _ _ v.message_valid v.counter_valid

content_valid : (j : Jet) (c : List ℕ) → is_content c ≡ true → valid_message (with_message j c) ≡ true
unfolding valid_message
content_valid j c e = rw (message_there j c e, le-leb (length c) 512 (content_short c e), message_of j c) e

pub message_stays : MessageStays
message_stays j c v e =
    tells_present (with_message j c) (record { message_valid = content_valid j c e; counter_valid = (present_tells j v).counter_valid })

message_kept : (j : Jet) (q : List ℕ) → valid_message (with_parameters j q) ≡ valid_message j
unfolding valid_message
message_kept j q = refl

pub parameters_stay : ParametersStay
unfolding good_parameters
parameters_stay j q v e =
    tells_present (with_parameters j q)
    (record { message_valid = rw message_kept (present_tells j v).message_valid; counter_valid = set_valid (drop 11 q) e })
