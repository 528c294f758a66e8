-- Demand 2, the builder: the receiver reads back what was built, and an order's numbers are 8 to 13, 16 and 17.
use Prim.Native.Nat.{ℕ, ◌+◌}
use mathlib.Core.Bool.{Bool, true, false}
use mathlib.Core.List.{List, [], ◌∷◌, ◌++◌}
use mathlib.Core.Path.{◌≡◌, refl, ◌∙◌, ap}
use lib.ListN.{length, take, drop}
use Rattle.frame.specs.Ground.{Test, pick, plain, both, has, checked}
use Rattle.frame.specs.declared.given.Given.{Given}
use Rattle.frame.specs.Wire.{size_of, fits}
use Rattle.frame.specs.Receive.{received}
use Rattle.frame.specs.Laws.{ReadsBack, heard, heard_in}
use Rattle.frame.specs.declared.given.Refusal.TheVariants.{WrongLength}
use Rattle.frame.specs.declared.receive.Received.TheVariants.{Misfit, Frame}
use Rattle.frame.proofs.Ground.{both_true, unless_case}
use Rattle.frame.proofs.Laws.{built_read_back}
use Rattle.printer.specs.State.{Printer, printer_of}
use Rattle.printer.specs.Order.{Order}
use Rattle.printer.specs.Change.{set_message, set_parameters, set_both, edit_message}
use Rattle.printer.specs.Messages.{store_message, select_message}
use Rattle.printer.specs.Request.{ask_counter, ask_message, ask_table, ask_clock}
use Rattle.printer.specs.Print.{print}
use Rattle.printer.specs.Receive.{Outcome, outcome, handled, obeyed, order, refusal, done}
use Rattle.printer.specs.Demands.{full, BuiltReadAsBuilt}
use Rattle.printer.proofs.OrderLaws.{printer_order_case, order_case}
use Rattle.printer.proofs.Accepting.{valid_handled}

-- ---- An order consumes its frame, and its numbers are those that can follow.
abbrev following : List ℕ
following = 7 ∷ 8 ∷ 9 ∷ 10 ∷ 11 ∷ 12 ∷ 13 ∷ 16 ∷ 17 ∷ []

abbrev late : List Test → Bool
late [] = true
late (t ∷ ts) = both (has t.otherwise.number following) (late ts)

orders_late : (p : Printer) (store : List ℕ) (i : ℕ) (d : List ℕ) → late (order p store i d).tests ≡ true
unfolding store_message select_message set_message set_parameters set_both edit_message ask_counter ask_message ask_table ask_clock print
orders_late p store i d =
    order_case (λ (o : Order). late o.tests ≡ true) p store i d (λ _. refl) (λ _. refl) (λ _.
    printer_order_case (λ (o : Order). late o.tests ≡ true) p i d
    (λ _. refl) (λ _. refl) (λ _. refl) (λ _. refl) (λ _. refl) (λ _. refl) (λ _. refl) (λ _. refl) (λ _ _. refl))

record Ends (c : ℕ) (o : Outcome) : Type 0 where
  takes : o.consumed ≡ c
  numbers : (o.number ≡ 0 → ⊥) → has o.number following ≡ true

tests_end : (p : Printer) (o : Order) (c : ℕ) (ts : List Test) → late ts ≡ true → Ends c (checked ts (λ (r : Given). refusal p r c) (done o c))
tests_end p o c [] e = record { takes = refl; numbers = λ z. absurd (z refl) }
tests_end p o c (t ∷ ts) e =
    let h = both_true (has t.otherwise.number following) (late ts) e in
    unless_case (Ends c) t.holds _ _ (record { takes = refl; numbers = λ _. h.0 }) (tests_end p o c ts h.1)

obeyed_ends : (p : Printer) (store : List ℕ) (i : ℕ) (d : List ℕ) (c : ℕ) → Ends c (obeyed p (order p store i d) c)
unfolding obeyed
obeyed_ends p store i d c = tests_end p (order p store i d) c (order p store i d).tests (orders_late p store i d)

-- ---- What was read back.
-- A frame's data as the receiver hears it.
data_heard : (identifier : ℕ) (x d : List ℕ) → heard identifier x ≡ heard identifier d → x ≡ d
data_heard identifier x d e = cc

handled_back : (p : Printer) (store s : List ℕ) (identifier : ℕ) (d : List ℕ) (t : Bool)
    → received s ≡ pick t (Frame identifier (length d) (length d + 4)) (Misfit WrongLength identifier (length d) (length d + 4))
    → heard_in s (received s) ≡ heard identifier d
    → handled p store s (received s) ≡ pick t (obeyed p (order p store identifier d) (length d + 4)) (refusal p (plain 7) (length d + 4))
handled_back p store s identifier d true e h =
    let same : take (length d) (drop 3 s) ≡ d = data_heard identifier (take (length d) (drop 3 s)) d (rw e at h) in
    rw e (ap (λ (l : List ℕ). obeyed p (order p store identifier l) (length d + 4)) same)
handled_back p store s identifier d false e h = rw e refl

either : (p : Printer) (store : List ℕ) (identifier : ℕ) (d : List ℕ) (t : Bool) → Ends (length d + 4) (pick t (obeyed p (order p store identifier d) (length d + 4)) (refusal p (plain 7) (length d + 4)))
either p store identifier d true = obeyed_ends p store identifier d (length d + 4)
either p store identifier d false = record { takes = refl; numbers = λ _. refl }

pub built_read_as_built : BuiltReadAsBuilt
built_read_as_built m store before identifier d n after rest v w b =
    let p : Printer = printer_of m in
    let s : List ℕ = take n after ++ rest in
    let r : ReadsBack s identifier d = built_read_back before identifier d n after rest b in
    let e : outcome m (full store s) ≡ pick (fits (size_of identifier) (length d)) (obeyed p (order p store identifier d) (length d + 4)) (refusal p (plain 7) (length d + 4)) =
    valid_handled m store s v w ∙ handled_back p store s identifier d (fits (size_of identifier) (length d)) r.answer r.hears in
    let x = either p store identifier d (fits (size_of identifier) (length d)) in
    record { handled = e; takes = ap (λ (o : Outcome). o.consumed) e ∙ x.takes; numbers = rw e x.numbers }
