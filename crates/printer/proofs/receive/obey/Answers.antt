-- `printer::receive::obey` meets its contract: 1Ch and 40h are orders with the store, and every other frame is one of the printer's own, which leave the store alone.
use Prim.Native.Nat.{ℕ}
use mathlib.Core.List.{List}
use mathlib.Core.Path.{◌≡◌, ap}
use native.Mathlib.Omega.{arith}
use borrow.Author.Tests.{leb-true}
use lib.ListN.{length}
use Rattle.frame.specs.Wire.{size_of}
use Rattle.frame.proofs.Ground.{tests}
use Rattle.printer.specs.State.{Printer, printer_of}
use Rattle.printer.specs.Order.{Order}
use Rattle.printer.specs.Messages.{store_message, select_message}
use Rattle.printer.specs.Receive.{obeyed, order, printer_order}
use Rattle.printer.proofs.Memory.{state_back}
use Rattle.printer.proofs.Valid.{valid_size}
use Rattle.printer.proofs.OrderLaws.{printer_unchanged}
use Rattle.printer.proofs.Said.{meets_changed, fulfils_same, fulfils_obeyed, fulfils_stored, row, exactly, select_changes, select_unchanged}
use Rattle.printer.proofs.receive.obey.Goals as goal

stores : (p : Printer) (store : List ℕ) {identifier : ℕ} (d : List ℕ) → identifier ≡ 0x1C → order p store identifier d ≡ store_message p store d
unfolding order
stores p store d e = ap (λ (i : ℕ). order p store i d) e

selects : (p : Printer) (store : List ℕ) {identifier : ℕ} (d : List ℕ) → identifier ≡ 0x40 → order p store identifier d ≡ select_message p store d
unfolding order
selects p store d e = ap (λ (i : ℕ). order p store i d) e

pub store_message-requires : goal.store_message-requires
unfolding size_of
store_message-requires c =
    (c.requires.0.formed, leb-true 39 _ (row c.args.identifier 0x1C (length c.args.d.now) c.in-28.is c.requires.1))

pub returns-in-28 : goal.returns-in-28
returns-in-28 c =
    let p = printer_of c.args.state.now in
    fulfils_same (ap (λ (o : Order). obeyed p o c.args.consumed) (stores p c.args.store.now c.args.d.now c.in-28.is))
    (fulfils_stored p c.args.store.now c.args.d.now c.store_message.result c.args.strips.now (state_back c.args.state.now (valid_size _ c.requires.0.valid) c.type_inv.state) (omega arith)
    c.store_message.ensures (rw c.bare.ensures at c.settle.ensures))

pub select_message-requires : goal.select_message-requires
unfolding size_of
select_message-requires c =
    (c.requires.0.valid, c.requires.0.formed, exactly (row c.args.identifier 0x40 (length c.args.d.now) c.in-64.is c.requires.1))

pub returns-in-64 : goal.returns-in-64
returns-in-64 c =
    let p = printer_of c.args.state.now in
    let store = c.args.store.now in
    let d = c.args.d.now in
    fulfils_same (ap (λ (o : Order). obeyed p o c.args.consumed) (selects p store d c.in-64.is))
    (fulfils_obeyed p (select_message p store d) c.args.consumed store (select_unchanged p store d)
    (meets_changed p (select_message p store d) c.select_message.result c.args.strips.now (select_changes p store d) (omega arith) c.select_message.ensures (rw c.bare-in-64.ensures at c.settle-in-64.ensures)))

pub returns-in_default : goal.returns-in_default
unfolding order
returns-in_default c =
    let p = printer_of c.args.state.now in
    let own : order p c.args.store.now c.args.identifier c.args.d.now ≡ printer_order p c.args.identifier c.args.d.now = search tests in
    fulfils_same (ap (λ (o : Order). obeyed p o c.args.consumed) own)
    (fulfils_obeyed p (printer_order p c.args.identifier c.args.d.now) c.args.consumed c.args.store.now (printer_unchanged p c.args.identifier c.args.d.now) c.obey_printer.ensures)
