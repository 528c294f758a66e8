-- `printer::receive::receive` meets its contract: the four tests are the rule's, in its order.
use mathlib.Core.Logic.{inl, inr}
use mathlib.Core.Path.{refl, sym}
use native.Mathlib.Omega.{arith}
use borrow.Author.Tests.{lt-leb, le-leb}
use lib.ListN.{length}
use Rattle.printer.proofs.Orders.{here, past, end, holds}
use Rattle.printer.proofs.Said.{receives_silent, receives_handled}
use Rattle.printer.proofs.receive.receive.Goals as goal
use Rattle.printer.proofs.receive.receive.Goals.{then-not-valid_state-via-then-not-valid_state, then-not-valid_state-via-else-not-valid_state+then-not-valid_store}

pub returns-then-not-valid_state : goal.returns-then-not-valid_state
returns-then-not-valid_state c =
    let a = c.args in
    elim c.then-not-valid_state.branch [
      | then-not-valid_state-via-then-not-valid_state w ↦
          receives_silent a.state.now a.store.now a.s.now a.answer.now a.strips.now refl (here (sym w.if-not-valid_state.ensures)) (λ z. omega arith) c.silent.ensures
      | then-not-valid_state-via-else-not-valid_state+then-not-valid_store w ↦
          receives_silent a.state.now a.store.now a.s.now a.answer.now a.strips.now refl (past (sym w.if-not-valid_state.ensures) (here (sym w.if-not-valid_store.ensures))) (λ z. omega arith) c.silent.ensures
    ]

pub returns-then-answer-lt-ANSWER : goal.returns-then-answer-lt-ANSWER
returns-then-answer-lt-ANSWER c =
    let a = c.args in
    elim c.then-answer-lt-ANSWER.either [
      | inl short ↦
          receives_silent a.state.now a.store.now a.s.now a.answer.now a.strips.now refl
          (past (sym c.if-not-valid_state.ensures) (past (sym c.if-not-valid_store.ensures) (here (lt-leb 554 (length a.answer.now) short)))) (λ z. omega arith) c.silent-then-answer-lt-ANSWER.ensures
      | inr short ↦
          receives_silent a.state.now a.store.now a.s.now a.answer.now a.strips.now refl
          (past (sym c.if-not-valid_state.ensures) (past (sym c.if-not-valid_store.ensures) (past (le-leb 554 (length a.answer.now) short.0) (here (lt-leb 6144 (length a.strips.now) short.1))))) (λ z. omega arith) c.silent-then-answer-lt-ANSWER.ensures
    ]

pub returns : goal.returns
returns c =
    receives_handled
    (holds (sym c.if-not-valid_state.ensures)
    (holds (sym c.if-not-valid_store.ensures)
    (holds (le-leb 554 (length c.args.answer.now) c.if-answer-lt-ANSWER.false) (holds (le-leb 6144 (length c.args.strips.now) c.if-strips-lt-STRIPS.false) end))))
    c.handle.ensures
