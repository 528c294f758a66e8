-- The store through every call: only an accepted 1Ch changes it, and what that stores is good and found; and what is shown of it.
use Prim.Native.Nat.{ℕ}
use mathlib.Core.Bool.{true}
use mathlib.Core.List.{List}
use mathlib.Core.Path.{◌≡◌, refl, sym}
use lib.ListN.{take, drop}
use Rattle.frame.specs.Ground.{all}
use Rattle.frame.specs.declared.given.Given.{Given}
use Rattle.frame.specs.Receive.{received}
use Rattle.frame.specs.declared.receive.Received.{Received}
use Rattle.frame.specs.declared.receive.Received.TheVariants.{Partial, Refused, Misfit, Enquiry, Update, Frame}
use Rattle.frame.proofs.Ground.{checked_case}
use Rattle.library.specs.Record.{records}
use Rattle.library.specs.Store.{body_of}
use Rattle.library.proofs.StoreLaws.{storing_stores}
use Rattle.printer.specs.State.{Printer, printer_of, valid_state}
use Rattle.printer.specs.Order.{Order, StoreChange, store_after}
use Rattle.printer.specs.Change.{update_fields}
use Rattle.printer.specs.Messages.{body_content, store_message, stored_body, stored_number, valid_store}
use Rattle.printer.specs.Receive.{Outcome, outcome, handled, handing_tests, obeyed, enquire, order, silent}
use Rattle.printer.specs.OrderLaws.{numbered}
use Rattle.printer.specs.Demands.{full, StoreStays, StoredLast, ShownAsSelected}
use Rattle.printer.proofs.Bodies.{store_valid}
use Rattle.printer.proofs.StateLaws.{message_of}
use Rattle.printer.proofs.OrderLaws.{order_stores, update_stores, store_tells}
use Rattle.printer.proofs.Editing.{obeyed_accepted}

-- ---- A well-formed store stays well formed.
module _ (store : List ℕ) (w : valid_store store ≡ true) where
  abbrev Fine : StoreChange → Type 0
  Fine c = valid_store (store_after c store) ≡ true

  obeyed_fine : (p : Printer) (o : Order) (consumed : ℕ) → (all o.tests ≡ true → Fine o.store) → Fine (obeyed p o consumed).store
  unfolding obeyed
  obeyed_fine p o consumed f = checked_case (λ (x : Outcome). Fine x.store) o.tests _ _ (λ _ _. w) f

  handled_fine : (p : Printer) (s : List ℕ) (r : Received) → Fine (handled p store s r).store
  handled_fine p s Partial = w
  handled_fine p s (Refused k c) = w
  handled_fine p s (Misfit k i n c) = w
  handled_fine p s Enquiry = obeyed_fine p (enquire p) 1 (λ _. w)
  handled_fine p s (Update n c) = obeyed_fine p (update_fields p (take n (drop 1 s))) c (λ _. rw (update_stores p (take n (drop 1 s))) w)
  handled_fine p s (Frame i n c) = obeyed_fine p (order p store i (take n (drop 3 s))) c (order_stores p store i (take n (drop 3 s)) w)

pub store_stays : StoreStays
unfolding outcome
store_stays m h w =
    checked_case (λ (x : Outcome). Fine h.store w x.store) (handing_tests m h)
    (λ (r : Given). silent (printer_of m) r.number) (handled (printer_of m) h.store h.bytes (received h.bytes)) (λ _ _. w)
    (λ _. handled_fine h.store w (printer_of m) h.bytes (received h.bytes))

-- ---- What an accepted 1Ch leaves.
store_heard : (m store s : List ℕ) (n consumed : ℕ) → valid_state m ≡ true → valid_store store ≡ true → received s ≡ Frame 0x1C n consumed
    → outcome m (full store s) ≡ obeyed (printer_of m) (store_message (printer_of m) store (take n (drop 3 s))) consumed
unfolding outcome order
store_heard m store s n consumed v w e = rw (v, w, e)

store_numbered : (p : Printer) (store d : List ℕ) → numbered (store_message p store d).tests ≡ true
unfolding store_message
store_numbered p store d = refl

pub stored_last : StoredLast
unfolding store_message
stored_last m store s n consumed v w e z =
    let p = printer_of m in
    let d = take n (drop 3 s) in
    let heard = store_heard m store s n consumed v w e in
    let a = obeyed_accepted p (store_message p store d) consumed (store_numbered p store d) (rw heard at z) in
    let x = store_tells p store d a.0 in
    rw (heard, a.1) (storing_stores store (stored_number d) (stored_body d) (store_valid store w).formed x.number x.room)

-- ---- What the approval screen is shown.
pub shown_as_selected : ShownAsSelected
shown_as_selected store current n =
    record {
      selected = λ j h. rw h (sym (message_of j (body_content (body_of n (records store)))));
      empty = λ h. rw h;
    }
