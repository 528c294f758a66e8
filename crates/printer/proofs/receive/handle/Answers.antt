-- `printer::receive::handle` meets its contract: each case of what was received is answered as the rule says, and what the receiver promises of an update and a frame gives the part of the bytes that is handed on.
use Prim.Native.Nat.{ℕ, ◌+◌, ◌-◌, ◌≤◌}
use mathlib.Core.Bool.{true}
use mathlib.Core.List.{List}
use mathlib.Core.Path.{◌≡◌, refl, sym, ◌∙◌, ap}
use native.Mathlib.Omega.{arith}
use Rattle.std.proofs.Common.{Ok}
use lib.ListN.{length, take, drop, length-drop}
use lib.Seq.{length-take-le}
use Rattle.frame.specs.Wire.{fits, size_of}
use Rattle.frame.specs.Receive.{received}
use Rattle.frame.specs.declared.receive.Received.{Received}
use Rattle.frame.specs.declared.receive.Received.TheVariants.{Frame}
use Rattle.frame.proofs.Heard.{update_inside, frame_inside, frame_fits}
use Rattle.printer.specs.State.{printer_of}
use Rattle.printer.specs.Change.{update_fields}
use Rattle.printer.specs.Receive.{Fulfils, handled, enquire}
use Rattle.printer.specs.declared.answer.Answered.{Answered}
use Rattle.printer.proofs.OrderLaws.{update_stores}
use Rattle.printer.proofs.Said.{meets_changed, fulfils_same, fulfils_obeyed, fields_change, enquiry_changes}
use Rattle.printer.proofs.Memory.{state_back}
use Rattle.printer.proofs.Valid.{valid_size}
use Rattle.printer.proofs.receive.handle.Goals as goal

-- What was received is one of the cases.
heard : (m store s : List ℕ) {found variant : Received} {answer strips : List ℕ} {a : Answered} {m' store' answer' strips' : List ℕ} → found ≡ received s → found ≡ variant
    → Fulfils (handled (printer_of m) store s variant) m store answer strips a m' store' answer' strips'
    → Fulfils (handled (printer_of m) store s (received s)) m store answer strips a m' store' answer' strips'
heard m store s e f x = fulfils_same (ap (handled (printer_of m) store s) (sym e ∙ f)) x

-- The part that is handed on.
part_is : (a n : ℕ) (s : List ℕ) → take (a + n - a) (drop a s) ≡ take n (drop a s)
part_is a n s = ap (λ (k : ℕ). take k (drop a s)) (same a n)
  where
    same : (a n : ℕ) → a + n - a ≡ n
    same a n = omega arith

part_fits : (s : List ℕ) {i n c : ℕ} → received s ≡ Frame i n c → fits (size_of i) (length (take (3 + n - 3) (drop 3 s))) ≡ true
part_fits s {n = n} e =
    let long : n ≤ length (drop 3 s) = simp length-drop (omega (arith, frame_inside s e)) in
    rw (part_is 3 n s, length-take-le n (drop 3 s) long) (frame_fits s e)

pub overflow_add-size : goal.overflow_add-size
overflow_add-size c =
    omega (arith, update_inside c.args.s.now (sym c.receive.ensures.answer ∙ c.in-Update.is), c.well_formed.1.1.0)

pub slice_bounds-update_fields-end : goal.slice_bounds-update_fields-end
slice_bounds-update_fields-end c =
    omega (arith, update_inside c.args.s.now (sym c.receive.ensures.answer ∙ c.in-Update.is))

pub overflow_add-size-in-Frame : goal.overflow_add-size-in-Frame
overflow_add-size-in-Frame c =
    omega (arith, frame_inside c.args.s.now (sym c.receive.ensures.answer ∙ c.in-Frame.is), c.well_formed.1.1.0)

pub slice_bounds-obey-end : goal.slice_bounds-obey-end
slice_bounds-obey-end c =
    omega (arith, frame_inside c.args.s.now (sym c.receive.ensures.answer ∙ c.in-Frame.is))

pub obey-requires : goal.obey-requires
obey-requires c =
    (c.requires, part_fits c.args.s.now (sym c.receive.ensures.answer ∙ c.in-Frame.is))

pub returns-in-Enquiry : goal.returns-in-Enquiry
returns-in-Enquiry c =
    heard c.args.state.now c.args.store.now c.args.s.now c.receive.ensures.answer c.in-Enquiry.is
    (fulfils_obeyed (printer_of c.args.state.now) (enquire (printer_of c.args.state.now)) 1 c.args.store.now refl
    (meets_changed (printer_of c.args.state.now) (enquire (printer_of c.args.state.now)) (Ok tt) c.args.strips.now (enquiry_changes (printer_of c.args.state.now)) (omega arith) (record { gives = refl; state = sym (state_back c.args.state.now (valid_size c.args.state.now c.requires.valid) c.type_inv.state) }) c.settle.ensures))

pub returns-in-Update : goal.returns-in-Update
returns-in-Update c =
    let text = take c.in-Update.size (drop 1 c.args.s.now) in
    heard c.args.state.now c.args.store.now c.args.s.now c.receive.ensures.answer c.in-Update.is
    (fulfils_obeyed (printer_of c.args.state.now) (update_fields (printer_of c.args.state.now) text) _ c.args.store.now (update_stores (printer_of c.args.state.now) text)
    (meets_changed (printer_of c.args.state.now) (update_fields (printer_of c.args.state.now) text) c.update_fields.result c.args.strips.now (fields_change (printer_of c.args.state.now) text) (omega arith) (rw (part_is 1 c.in-Update.size c.args.s.now) at c.update_fields.ensures) (rw c.bare.ensures at c.settle-in-Update.ensures)))
