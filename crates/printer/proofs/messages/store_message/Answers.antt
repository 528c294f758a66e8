-- `printer::messages::store_message` meets its contract: the tests are the rule's, in its order, and the last is that of `keep`.
use Prim.Native.Nat.{ℕ, ◌-◌, ◌≤◌}
use mathlib.Core.List.{List}
use mathlib.Core.Path.{refl, sym, ◌∙◌, subst, ap}
use borrow.Rule.Slice.PartMut.{mid_of}
use lib.ListN.{length, drop, length-drop}
use lib.Seq.{length-take-le}
use native.Mathlib.Omega.{arith}
use Rattle.frame.proofs.Ground.{lent_tail}
use Rattle.frame.specs.declared.given.Given.{Given}
use Rattle.content.specs.Content.{Tests}
use Rattle.printer.proofs.Orders.{content_given, handed_up, here, one_passed, one_refused, past, store_refused}
use Rattle.printer.proofs.Bodies.{kept_changes}
use Rattle.printer.proofs.messages.store_message.Goals as goal

-- The message behind the number, as it is lent.
abbrev message : List ℕ → List ℕ
message d = mid_of 1 (length d - 1) d

long : (d : List ℕ) → 39 ≤ length d → 37 ≤ length (message d)
long d h = rw (lent_tail 1 d) (simp length-drop (omega arith))

-- The content that is tested is the one behind number and parameters.
tested_content : (d : List ℕ) {g : Given} → Tests (mid_of 37 (length (message d) - 37) (message d)) g → Tests (drop 37 (drop 1 d)) g
tested_content d {g} t = subst (λ (l : List ℕ). Tests l g) (lent_tail 37 (message d) ∙ ap (drop 37) (lent_tail 1 d)) t

pub slice_bounds-good_parameters-end : goal.slice_bounds-good_parameters-end
slice_bounds-good_parameters-end c = sym (length-take-le 37 (message c.args.d.now) (long c.args.d.now c.requires.1))

pub good_parameters-requires : goal.good_parameters-requires
good_parameters-requires c =
    length-take-le 37 (message c.args.d.now) (long c.args.d.now c.requires.1)

pub returns-in_err-test : goal.returns-in_err-test
returns-in_err-test c =
    let h = one_refused _ (content_given (tested_content c.args.d.now c.test.ensures)) c.in_err-test.was in
    store_refused (handed_up c.from_residual.result c.in_err-test.field-0.0 c.from_residual.ensures.1 ∙ h.1)
    (past (sym c.if-not-is_number.ensures) (past (rw lent_tail at (sym c.if-not-good_parameters.ensures)) (here h.0)))

pub returns : goal.returns
returns c =
    kept_changes c.args.store.now c.args.d.now c.requires.0
    (sym c.if-not-is_number.ensures)
    (rw lent_tail at (sym c.if-not-good_parameters.ensures))
    (one_passed _ (content_given (tested_content c.args.d.now c.test.ensures)) c.in_ok-test.was refl)
    (rw (lent_tail 1 c.args.d.now) at c.keep.ensures)
