-- Why a walk never stalls: whatever is received of bytes that are there, but for what waits for more, consumes one at least.
use Prim.Native.Nat.{ℕ, ◌+◌, ◌<◌, ◌≤◌}
use mathlib.Core.Bool.{true}
use mathlib.Core.List.{List}
use mathlib.Core.Path.{◌≡◌, refl, subst, sym}
use native.Mathlib.Omega.{arith}
use lib.Dec.{eqb, ltb}
use lib.ListN.{length, get_or, take, drop, length-drop}
use Rattle.frame.specs.Wire.{enquiry, update_opens, update_closes, check, size_of, listed, fits, longest_update, update_marks, head_size, around, longest_data}
use Rattle.frame.specs.Receive.{received, updated, framed, judged, run, text_space, data_length}
use Rattle.frame.specs.declared.receive.Received.{Received}
use Rattle.frame.specs.declared.receive.Received.TheVariants.{Partial, Refused, Misfit, Enquiry, Update, Frame}
use Rattle.frame.proofs.Ground.{pick_case, unless_case, checked_case}
use Rattle.calendar.specs.Clock.{date, moment, is_real, is_date, days_in, is_leap}
use Rattle.printer.specs.State.{Printer, printer_of, valid_state}
use Rattle.printer.specs.Order.{Order}
use Rattle.printer.specs.Change.{update_fields}
use Rattle.printer.specs.Receive.{Outcome, outcome, handled, obeyed, order, enquire}
use Rattle.library.proofs.StoreLaws.{blank_store}
use Rattle.printer.specs.Messages.{valid_store}
use Rattle.printer.specs.Demands.{after_all, full, is_fresh}
use Rattle.printer.proofs.Accepting.{valid_handled}
use Rattle.printer.proofs.Reaching.{reached_valid}
use Rattle.printer.proofs.Storing.{store_stays}
use Rattle.console.specs.Console.{start_state, start_store, Stand, left, next, Walks, begins, goes_on}

abbrev Takes : Received → Type 0
Takes Partial = Unit {0}
Takes (Refused k c) = 1 ≤ c
Takes (Misfit k i n c) = 1 ≤ c
Takes Enquiry = Unit {0}
Takes (Update n c) = 1 ≤ c
Takes (Frame i n c) = 1 ≤ c

updated_takes : (s : List ℕ) (n : ℕ) → 1 ≤ length s → Takes (updated s n)
unfolding updated
updated_takes s n h =
    pick_case Takes (ltb n (length (text_space s))) _ _ (λ e. omega arith)
    (λ e. pick_case Takes (ltb (length s) (longest_update + update_marks)) _ _ (λ g. tt) (λ g. h))

judged_takes : (i n : ℕ) → Takes (judged i n)
unfolding judged
judged_takes i n =
    unless_case Takes (listed (size_of i)) _ _ (omega arith)
    (unless_case Takes (fits (size_of i) n) _ _ (omega arith) (omega arith))

framed_takes : (s : List ℕ) (n : ℕ) → 1 ≤ length s → Takes (framed s n)
unfolding framed
framed_takes s n h =
    pick_case Takes (ltb (length s) head_size) _ _ (λ e. tt) (λ e.
    pick_case Takes (ltb longest_data n) _ _ (λ g. h) (λ g.
    pick_case Takes (ltb (length s) (n + around)) _ _ (λ f. tt) (λ f.
    unless_case Takes (eqb (check (take (n + head_size) s)) (get_or s (n + head_size) 0)) _ _ (omega arith) (judged_takes (get_or s 0 0) n))))

received_takes : (s : List ℕ) → 1 ≤ length s → Takes (received s)
unfolding received
received_takes s h =
    pick_case Takes (eqb (length s) 0) _ _ (λ e. tt) (λ e.
    pick_case Takes (eqb (get_or s 0 0) enquiry) _ _ (λ g. tt) (λ g.
    pick_case Takes (eqb (get_or s 0 0) update_opens) _ _
    (λ f. updated_takes s (run update_closes (text_space s)) h)
    (λ f. framed_takes s (data_length s) h)))

obeyed_takes : (p : Printer) (o : Order) (c : ℕ) → 1 ≤ c → 1 ≤ (obeyed p o c).consumed
unfolding obeyed
obeyed_takes p o c h = checked_case (λ (x : Outcome). 1 ≤ x.consumed) o.tests _ _ (λ t e. h) (λ e. h)

handled_takes : (p : Printer) (store s : List ℕ) (r : Received) → Takes r → ((handled p store s r).number ≡ 3 → ⊥) → 1 ≤ (handled p store s r).consumed
handled_takes p store s Partial h z = absurd (z refl)
handled_takes p store s (Refused k c) h z = h
handled_takes p store s (Misfit k i n c) h z = h
handled_takes p store s Enquiry h z = obeyed_takes p (enquire p) 1 (omega arith)
handled_takes p store s (Update n c) h z = obeyed_takes p (update_fields p (take n (drop 1 s))) c h
handled_takes p store s (Frame i n c) h z = obeyed_takes p (order p store i (take n (drop 3 s))) c h

-- In a valid state, with a well-formed store and buffers of the stated size: "numbers 0 and 4 to 13 always consume something".
pub consumes_some : (m store s : List ℕ) → valid_state m ≡ true → valid_store store ≡ true → 1 ≤ length s → ((outcome m (full store s)).number ≡ 3 → ⊥)
    → 1 ≤ (outcome m (full store s)).consumed
consumes_some m store s v w h =
    subst (λ (o : Outcome). (o.number ≡ 3 → ⊥) → 1 ≤ o.consumed) (sym (valid_handled m store s v w))
    (handled_takes (printer_of m) store s (received s) (received_takes s h))

start_fresh : is_fresh 1 (moment 58 59 23 (date 29 2 24)) ≡ true
unfolding is_real is_date days_in is_leap
start_fresh = refl

-- The store of a walk is well formed: it is empty at the start, and every call leaves it so.
start_formed : valid_store start_store ≡ true
unfolding valid_store
start_formed = rw (blank_store.0, blank_store.1) refl

pub walked_formed : {s : List ℕ} {w : Stand} → Walks s w → valid_store w.store ≡ true
walked_formed begins = start_formed
walked_formed {s} (goes_on w v h z) = store_stays (after_all start_state w.calls) (left s w) (walked_formed v)

pub next_takes : (s : List ℕ) (w : Stand) → Walks s w → w.place < length s → ((next s w).number ≡ 3 → ⊥) → 1 ≤ (next s w).consumed
next_takes s w v h =
    consumes_some (after_all start_state w.calls) w.store (drop w.place s)
    (reached_valid 1 (moment 58 59 23 (date 29 2 24)) w.calls start_fresh) (walked_formed v)
    (omega (arith, length-drop w.place s))
