-- `printer::single::take_byte` meets its contract: the five tests are the rule's, in its order, and then what is held goes on or all is dropped.
use Prim.Native.Nat.{ℕ, ◌≤◌}
use mathlib.Core.Bool.{true}
use mathlib.Core.List.{List}
use mathlib.Core.Logic.{inl, inr}
use mathlib.Core.Path.{◌≡◌, refl, sym}
use borrow.Author.Tests.{lt-leb, le-leb}
use lib.ListN.{length}
use Rattle.frame.specs.Holding.{is_holding}
use Rattle.frame.specs.declared.holding.Holding.{Holding}
use Rattle.printer.specs.Messages.{valid_store}
use Rattle.printer.specs.State.{valid_state}
use Rattle.printer.specs.Single.{byte_tests, handed_byte}
use Rattle.printer.proofs.Orders.{Passes, here, past, end, holds}
use Rattle.printer.proofs.Bytewise.{byte_dropped, byte_taken, byte_untaken, held_tell}
use Rattle.printer.proofs.single.take_byte.Goals as goal
use Rattle.printer.proofs.single.take_byte.Goals.{then-not-valid_state-via-then-not-valid_state, then-not-valid_state-via-else-not-valid_state+then-not-valid_store, then-not-valid_state-via-else-not-valid_state+else-not-valid_store+then-not-is_holding}

passed : (m store : List ℕ) (holding : Holding) (buffer : List ℕ) (byte : ℕ) (answer strips : List ℕ) → valid_state m ≡ true → valid_store store ≡ true → is_holding holding buffer ≡ true
    → 554 ≤ length answer → 6144 ≤ length strips → Passes (byte_tests m (handed_byte store holding buffer byte answer strips))
passed m store holding buffer byte answer strips v w k a b = holds v (holds w (holds k (holds (le-leb 554 (length answer) a) (holds (le-leb 6144 (length strips) b) end))))

pub returns-then-not-valid_state : goal.returns-then-not-valid_state
returns-then-not-valid_state c =
    let a = c.args in
    elim c.then-not-valid_state.branch [
      | then-not-valid_state-via-then-not-valid_state w ↦
          byte_untaken a.state.now a.store.now a.holding a.buffer.now a.byte a.answer.now a.strips.now refl (here (sym w.if-not-valid_state.ensures)) refl c.untaken.ensures
      | then-not-valid_state-via-else-not-valid_state+then-not-valid_store w ↦
          byte_untaken a.state.now a.store.now a.holding a.buffer.now a.byte a.answer.now a.strips.now refl
          (past (sym w.if-not-valid_state.ensures) (here (sym w.if-not-valid_store.ensures))) refl c.untaken.ensures
      | then-not-valid_state-via-else-not-valid_state+else-not-valid_store+then-not-is_holding w ↦
          byte_untaken a.state.now a.store.now a.holding a.buffer.now a.byte a.answer.now a.strips.now refl
          (past (sym w.if-not-valid_state.ensures) (past (sym w.if-not-valid_store.ensures) (here (sym w.if-not-is_holding.ensures)))) refl c.untaken.ensures
    ]

pub returns-then-answer-lt-ANSWER : goal.returns-then-answer-lt-ANSWER
returns-then-answer-lt-ANSWER c =
    let a = c.args in
    elim c.then-answer-lt-ANSWER.either [
      | inl short ↦
          byte_untaken a.state.now a.store.now a.holding a.buffer.now a.byte a.answer.now a.strips.now refl
          (past (sym c.if-not-valid_state.ensures) (past (sym c.if-not-valid_store.ensures) (past (sym c.if-not-is_holding.ensures) (here (lt-leb 554 (length a.answer.now) short))))) refl c.untaken-then-answer-lt-ANSWER.ensures
      | inr short ↦
          byte_untaken a.state.now a.store.now a.holding a.buffer.now a.byte a.answer.now a.strips.now refl
          (past (sym c.if-not-valid_state.ensures) (past (sym c.if-not-valid_store.ensures) (past (sym c.if-not-is_holding.ensures)
          (past (le-leb 554 (length a.answer.now) short.0) (here (lt-leb 6144 (length a.strips.now) short.1)))))) refl c.untaken-then-answer-lt-ANSWER.ensures
    ]

pub take_held-requires : goal.take_held-requires
take_held-requires c =
    let a = c.args in
    let h = held_tell a.holding a.buffer.now c.in-Held.is (sym c.if-not-is_holding.ensures) in
    (record { valid = sym c.if-not-valid_state.ensures; formed = sym c.if-not-valid_store.ensures; answer_room = c.if-answer-lt-ANSWER.false; strip_room = c.if-strips-lt-STRIPS.false }, h.full, h.room)

pub returns-in-Held : goal.returns-in-Held
returns-in-Held c =
    let a = c.args in
    byte_taken c.in-Held.is
    (passed a.state.now a.store.now a.holding a.buffer.now a.byte a.answer.now a.strips.now (sym c.if-not-valid_state.ensures) (sym c.if-not-valid_store.ensures) (sym c.if-not-is_holding.ensures) c.if-answer-lt-ANSWER.false c.if-strips-lt-STRIPS.false)
    c.take_held.ensures

pub returns-in-Dropping : goal.returns-in-Dropping
returns-in-Dropping c =
    let a = c.args in
    byte_dropped a.state.now a.store.now a.buffer.now a.byte a.answer.now a.strips.now c.in-Dropping.is
    (passed a.state.now a.store.now a.holding a.buffer.now a.byte a.answer.now a.strips.now (sym c.if-not-valid_state.ensures) (sym c.if-not-valid_store.ensures) (sym c.if-not-is_holding.ensures) c.if-answer-lt-ANSWER.false c.if-strips-lt-STRIPS.false)
    c.silent.ensures c.counted.ensures
