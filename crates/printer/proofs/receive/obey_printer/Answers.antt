-- `printer::receive::obey_printer` meets its contract: by its identifier a frame is one order of the table, whose function answers for it; the table gives the length of its data.
use Prim.Native.Nat.{ℕ, ◌-◌, ◌≤◌}
use mathlib.Core.Bool.{true}
use mathlib.Core.List.{List}
use mathlib.Core.Path.{◌≡◌, ap, ◌∙◌}
use native.Mathlib.Omega.{arith}
use borrow.Author.Rules.{rules}
use borrow.Author.Tests.{leb-true}
use borrow.Rule.Slice.PartMut.{mid_of, put_mid, put_same}
use lib.ListN.{length, length-drop}
use Rattle.std.proofs.Common.{Result}
use Rattle.frame.specs.Given as words
use Rattle.frame.specs.Given.{given_in}
use Rattle.frame.specs.declared.given.Refusal.{Refusal}
use Rattle.frame.specs.Wire.{size_of}
use Rattle.frame.proofs.Ground.{tests, lent_tail}
use Rattle.printer.specs.State.{Printer, printer_of, valid_state}
use Rattle.printer.specs.Order.{Order, Obeys}
use Rattle.printer.specs.Change.{set_message, set_parameters, set_both, edit_message}
use Rattle.printer.specs.Request.{ask_counter, ask_message, ask_table, ask_clock}
use Rattle.printer.specs.Answer.{Settles, TellsOrder, bare}
use Rattle.printer.specs.Receive.{Meets, obeyed, printer_order}
use Rattle.printer.specs.declared.answer.Answered.{Answered}
use Rattle.printer.specs.declared.change.Change.TheVariants.{Message, Parameters, Both, Characters}
use Rattle.printer.proofs.Numbers.{Bytes}
use Rattle.printer.proofs.Memory.{state_back}
use Rattle.printer.proofs.Said.{Changes, Asks, meets_same, meets_changed, meets_told, row, exactly, change_changes, request_asks, table_asks, clock_asks}
use Rattle.printer.proofs.Valid.{valid_size}
use Rattle.printer.specs.declared.request.Request.TheVariants as request
use Rattle.printer.proofs.receive.obey_printer.Goals as goal
use Rattle.printer.proofs.receive.obey_printer.Goals.{in-10, in-11, in-12, in-57, in-66, in-67, in-82, in_default}

-- A row that changes the state: the answer's bytes come back as they were lent.
changed : (m : List ℕ) {identifier : ℕ} (k : ℕ) (d : List ℕ) (r : Result Unit Refusal) {t told : Result ℕ Refusal} {consumed : ℕ} {answer between : List ℕ} (strips : List ℕ)
    {a : Answered} {last m' answer' : List ℕ} → identifier ≡ k → Changes (printer_order (printer_of m) k d) → 554 ≤ length answer → Obeys (printer_order (printer_of m) k d) m (given_in r) last
    → t ≡ bare r → told ≡ t → m' ≡ last
    → between ≡ put_mid 1 (length answer - 1) answer (mid_of 1 (length answer - 1) answer) → Settles told consumed between a answer'
    → Meets (obeyed (printer_of m) (printer_order (printer_of m) identifier d) consumed) m answer strips a m' answer' strips
changed m k d r {t = t} {consumed = consumed} {answer} strips e x h o f q l b s =
    meets_same (ap (λ (i : ℕ). obeyed (printer_of m) (printer_order (printer_of m) i d) consumed) e)
    (meets_changed (printer_of m) (printer_order (printer_of m) k d) r strips x (omega arith) (rw l o)
    (rw (q ∙ f, b ∙ put_same 1 (length answer - 1) answer) at s))

-- A row that asks: the state stays, and the frame is told in the part that was lent.
asked : (m : List ℕ) (identifier k : ℕ) (d : List ℕ) {t told : Result ℕ Refusal} {consumed : ℕ} {answer between : List ℕ} (strips : List ℕ) {last : List ℕ} {a : Answered} {m' answer' : List ℕ}
    → printer_order (printer_of m) identifier d ≡ printer_order (printer_of m) k d → Asks (printer_of m) (printer_order (printer_of m) k d) → valid_state m ≡ true → Bytes m → 554 ≤ length answer
    → TellsOrder (printer_order (printer_of m) k d) (mid_of 1 (length answer - 1) answer) (words.numbered t) last → told ≡ t → m' ≡ m
    → between ≡ put_mid 1 (length answer - 1) answer last → Settles told consumed between a answer'
    → Meets (obeyed (printer_of m) (printer_order (printer_of m) identifier d) consumed) m answer strips a m' answer' strips
asked m identifier k d {consumed = consumed} strips e x v f h o q l b s =
    rw l
    (meets_same (ap (λ (o : Order). obeyed (printer_of m) o consumed) e)
    (meets_told (printer_of m) (printer_order (printer_of m) k d) strips x (state_back m (valid_size m v) f) (omega arith) o (rw (q, b) at s)))

at_row : (p : Printer) {identifier : ℕ} (k : ℕ) (d : List ℕ) → identifier ≡ k → printer_order p identifier d ≡ printer_order p k d
at_row p k d e = ap (λ (i : ℕ). printer_order p i d) e

room : (answer : List ℕ) → 554 ≤ length answer → 553 ≤ length (mid_of 1 (length answer - 1) answer)
room answer h = rw lent_tail (simp length-drop (omega arith))

pub change_order-requires : goal.change_order-requires
unfolding size_of
change_order-requires c = (c.requires.0, leb-true 2 _ (row c.args.identifier 0x0A (length c.args.d.now) c.in-10.is c.requires.3))

pub change_order-requires-in-11 : goal.change_order-requires-in-11
unfolding size_of
change_order-requires-in-11 c = (c.requires.0, exactly (row c.args.identifier 0x0B (length c.args.d.now) c.in-11.is c.requires.3))

pub change_order-requires-in-12 : goal.change_order-requires-in-12
unfolding size_of
change_order-requires-in-12 c = (c.requires.0, leb-true 39 _ (row c.args.identifier 0x0C (length c.args.d.now) c.in-12.is c.requires.3))

pub request_order-told-requires : goal.request_order-told-requires
unfolding size_of
request_order-told-requires c = (c.requires.0, exactly (row c.args.identifier 0x39 (length c.args.d.now) c.in-57.is c.requires.3), room c.args.answer.now c.requires.1)

pub change_order-requires-in-66 : goal.change_order-requires-in-66
unfolding size_of
change_order-requires-in-66 c = (c.requires.0, leb-true 4 _ (row c.args.identifier 0x42 (length c.args.d.now) c.in-66.is c.requires.3))

pub request_order-told-requires-in-67 : goal.request_order-told-requires-in-67
unfolding size_of
request_order-told-requires-in-67 c = (c.requires.0, exactly (row c.args.identifier 0x43 (length c.args.d.now) c.in-67.is c.requires.3), room c.args.answer.now c.requires.1)

pub returns-in-148 : goal.returns-in-148
unfolding printer_order
returns-in-148 c =
    meets_same (ap (λ (o : Order). obeyed (printer_of c.args.state.now) o c.args.consumed) (at_row (printer_of c.args.state.now) 0x94 c.args.d.now c.in-148.is))
    (rw (put_same 1 (length c.args.answer.now - 1) c.args.answer.now) at c.print.ensures)

pub returns : goal.returns
unfolding printer_order set_message set_parameters set_both edit_message ask_counter ask_message ask_table ask_clock
returns c =
    let m = c.args.state.now in
    let p = printer_of m in
    let i = c.args.identifier in
    let d = c.args.d.now in
    let strips = c.args.strips.now in
    elim c.match-identifier.branch [
      | in-10 w ↦ changed m 0x0A d w.change_order.result strips w.in-10.is (change_changes Message p d) c.requires.1 w.change_order.ensures w.bare-told.ensures w.told-is w.state-is w.answer-is c.settle.ensures
      | in-11 w ↦ changed m 0x0B d w.change_order-in-11.result strips w.in-11.is (change_changes Parameters p d) c.requires.1 w.change_order-in-11.ensures w.bare-told-in-11.ensures w.told-is w.state-is w.answer-is c.settle.ensures
      | in-12 w ↦ changed m 0x0C d w.change_order-in-12.result strips w.in-12.is (change_changes Both p d) c.requires.1 w.change_order-in-12.ensures w.bare-told-in-12.ensures w.told-is w.state-is w.answer-is c.settle.ensures
      | in-57 w ↦ asked m i 0x39 d strips (at_row p 0x39 d w.in-57.is) (request_asks request.Counter p d) c.requires.0 (search rules) c.requires.1 w.request_order-told.ensures w.told-is w.state-is w.answer-is c.settle.ensures
      | in-66 w ↦ changed m 0x42 d w.change_order-in-66.result strips w.in-66.is (change_changes Characters p d) c.requires.1 w.change_order-in-66.ensures w.bare-told-in-66.ensures w.told-is w.state-is w.answer-is c.settle.ensures
      | in-67 w ↦ asked m i 0x43 d strips (at_row p 0x43 d w.in-67.is) (request_asks request.Message p d) c.requires.0 (search rules) c.requires.1 w.request_order-told-in-67.ensures w.told-is w.state-is w.answer-is c.settle.ensures
      | in-82 w ↦ asked m i 0x52 d strips (at_row p 0x52 d w.in-82.is) (table_asks p) c.requires.0 (search rules) c.requires.1 w.ask_table-told.ensures w.told-is w.state-is w.answer-is c.settle.ensures
      | in_default w ↦ asked m i 0xD6 d strips (search tests) (clock_asks p) c.requires.0 (search rules) c.requires.1 w.ask_clock-told.ensures w.told-is w.state-is w.answer-is c.settle.ensures
    ]
