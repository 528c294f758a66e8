-- Every outcome is silence, a refusal or an order done: the rule is gone through line by line, and what document 01 promises is read off
-- the three.
use Prim.Native.Nat.{ℕ, ◌≤◌, ◌<◌}
use mathlib.Core.Bool.{true}
use mathlib.Core.List.{List, [], ◌∷◌}
use mathlib.Core.Path.{◌≡◌, refl}
use native.Mathlib.Omega.{arith}
use borrow.Author.Tests.{leb-true}
use lib.Dec.{leb}
use lib.ListN.{take, drop}
use Rattle.frame.specs.Ground.{Test, checked}
use Rattle.frame.specs.declared.given.Given.{Given}
use Rattle.frame.specs.Given.{given_of}
use Rattle.frame.specs.Receive.{received, consumed}
use Rattle.frame.specs.declared.receive.Received.{Received}
use Rattle.frame.specs.declared.receive.Received.TheVariants.{Partial, Refused, Misfit, Enquiry, Update, Frame}
use Rattle.frame.proofs.Ground.{unless_case, both_true}
use Rattle.frame.proofs.Heard.{Sound, sound}
use Rattle.printer.specs.State.{Printer, valid_state, printer_of}
use Rattle.printer.specs.Order.{Order}
use Rattle.printer.specs.Change.{update_fields}
use Rattle.printer.specs.Messages.{valid_store}
use Rattle.printer.specs.Receive.{Handed, Outcome, outcome, handled, obeyed, order, enquire, silent, refusal, done, answer_size, strips_size}
use Rattle.printer.specs.OrderLaws.{numbered}
use Rattle.printer.proofs.OrderLaws.{fields_numbered, orders_numbered}

-- The three kinds of outcome in a state, with what they consume.
pub data Kind (p : Printer) (c : ℕ) : Outcome → Type 0 where
  silence : (n : ℕ) → 1 ≤ n → n < 4 → Kind p c (silent p n)
  refused : (g : Given) → 4 ≤ g.number → Kind p c (refusal p g c)
  accepted : (o : Order) → Kind p c (done o c)

-- ---- The kind of every outcome.
tests_kind : (p : Printer) (o : Order) (c : ℕ) (ts : List Test) → numbered ts ≡ true
    → Kind p c (checked ts (λ (r : Given). refusal p r c) (done o c))
tests_kind p o c [] e = accepted o
tests_kind p o c (t ∷ ts) e =
    let h = both_true (leb 8 t.otherwise.number) (numbered ts) e in
    unless_case (Kind p c) t.holds _ _ (refused t.otherwise (omega (arith, leb-true 8 t.otherwise.number h.0))) (tests_kind p o c ts h.1)

obeyed_kind : (p : Printer) (o : Order) (c : ℕ) → numbered o.tests ≡ true → Kind p c (obeyed p o c)
unfolding obeyed
obeyed_kind p o c e = tests_kind p o c o.tests e

handled_kind : (p : Printer) (store s : List ℕ) (r : Received) → Sound s r → Kind p (consumed r) (handled p store s r)
handled_kind p store s Partial h = silence 3 (omega arith) (omega arith)
handled_kind p store s (Refused why c) h = refused (given_of why) h
handled_kind p store s (Misfit why i n c) h = refused (given_of why) h
handled_kind p store s Enquiry h = obeyed_kind p (enquire p) 1 refl
handled_kind p store s (Update n c) h = obeyed_kind p (update_fields p (take n (drop 1 s))) c (fields_numbered p (take n (drop 1 s)))
handled_kind p store s (Frame i n c) h = obeyed_kind p (order p store i (take n (drop 3 s))) c (orders_numbered p store i (take n (drop 3 s)))

pub outcome_kind : (m : List ℕ) (h : Handed) → Kind (printer_of m) (consumed (received h.bytes)) (outcome m h)
unfolding outcome
outcome_kind m h =
    let K = Kind (printer_of m) (consumed (received h.bytes)) in
    unless_case K (valid_state m) _ _ (silence 1 (omega arith) (omega arith))
    (unless_case K (valid_store h.store) _ _ (silence 1 (omega arith) (omega arith))
    (unless_case K (leb answer_size h.answer_room) _ _ (silence 2 (omega arith) (omega arith))
    (unless_case K (leb strips_size h.strip_room) _ _ (silence 2 (omega arith) (omega arith))
    (handled_kind (printer_of m) h.store h.bytes (received h.bytes) (sound h.bytes)))))
