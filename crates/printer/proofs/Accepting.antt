-- Demand 2: what is handed in is acknowledged exactly where it passes, and has then the written effect: an order is refused at its tests
-- and at nothing else, and the table has no identifier beside those of the rules.
use Prim.Native.Nat.{ℕ}
use mathlib.Core.Bool.{Bool, true, false}
use mathlib.Core.List.{List, [], ◌∷◌}
use mathlib.Core.Logic.{◌↔◌}
use mathlib.Core.Path.{◌≡◌, refl, sym, ap, subst}
use native.Mathlib.Omega.{arith}
use Rattle.std.proofs.Common.{Option}
use borrow.Author.Tests.{le-leb, leb-true, eqb-true, eq-eqb}
use lib.Dec.{eqb, leb}
use lib.ListN.{take, drop}
use Rattle.frame.specs.Ground.{Test, both, unless, checked, all}
use Rattle.frame.specs.declared.given.Given.{Given}
use Rattle.frame.specs.Wire.{size_of, fits}
use Rattle.frame.specs.Receive.{received}
use Rattle.frame.specs.declared.wire.Size.{Size}
use Rattle.frame.specs.declared.receive.Received.{Received}
use Rattle.frame.specs.declared.receive.Received.TheVariants.{Partial, Refused, Misfit, Enquiry, Update, Frame}
use Rattle.frame.proofs.Ground.{pick_case, both_true, never}
use Rattle.frame.proofs.Heard.{Sound, sound}
use Rattle.printer.specs.State.{Printer, valid_state, printer_of}
use Rattle.printer.specs.Order.{Order, StoreChange, no_strips}
use Rattle.printer.specs.Change.{set_message, set_parameters, set_both, edit_message, update_fields, updated_head}
use Rattle.printer.specs.Messages.{valid_store, store_message, select_message}
use Rattle.printer.specs.Request.{ask_counter, ask_message, ask_table, ask_clock}
use Rattle.printer.specs.Print.{print}
use Rattle.printer.specs.Receive.{Outcome, outcome, handled, obeyed, printer_order, order, enquire, refusal, done, silent, answer_size, strips_size}
use Rattle.frame.specs.Holding.{is_holding}
use Rattle.frame.specs.declared.holding.Holding.TheVariants.{Held, Dropping}
use Rattle.printer.specs.Single.{HandedByte, joined_by, single, taken}
use Rattle.printer.specs.OrderLaws.{numbered}
use Rattle.printer.specs.Demands.{full, passes, printer_after, frame_after, strips_after, change_after, Effect, HasEffect, AcknowledgedExactly, ByteAsWhole, ExactEffect, EffectKept, RoomEnough}
use Rattle.printer.proofs.OrderLaws.{fields_numbered, orders_numbered, update_stores}

-- ---- An order: done where all its tests hold, and another number than 0 where one fails.
pub data Comes (e : Outcome) : Bool → Outcome → Type 0 where
  passed : e.number ≡ 0 → Comes e true e
  failed : (x : Outcome) → (x.number ≡ 0 → ⊥) → Comes e false x

then_test : {e : Outcome} (t more : Bool) (x y : Outcome) → (x.number ≡ 0 → ⊥) → Comes e more y → Comes e (both t more) (unless t x y)
then_test true more x y n g = g
then_test false more x y n g = failed x n

tests_come : (p : Printer) (o : Order) (c : ℕ) (ts : List Test) → numbered ts ≡ true
    → Comes (done o c) (all ts) (checked ts (λ (r : Given). refusal p r c) (done o c))
tests_come p o c [] n = passed refl
tests_come p o c (t ∷ ts) n =
    let h = both_true (leb 8 t.otherwise.number) (numbered ts) n in
    then_test t.holds (all ts) _ _ (λ z. omega (arith, leb-true 8 t.otherwise.number h.0)) (tests_come p o c ts h.1)

obeyed_comes : (p : Printer) (o : Order) (c : ℕ) → numbered o.tests ≡ true → Comes (done o c) (all o.tests) (obeyed p o c)
unfolding obeyed
obeyed_comes p o c n = tests_come p o c o.tests n

zero_exactly : {e x : Outcome} {t : Bool} → Comes e t x → (x.number ≡ 0) ↔ (t ≡ true)
zero_exactly (passed z) = (λ _. refl, λ _. z)
zero_exactly (failed x n) = (λ z. absurd (n z), λ h. never h)

then_just : {e x : Outcome} {t : Bool} → Comes e t x → t ≡ true → x ≡ e
then_just (passed z) h = refl
then_just (failed x n) h = never h

-- ---- The effect of each order is the written one.
-- What holds of the nine identifiers of the table holds of every identifier whose data is as long as the table says.
pub of_table : (P : ℕ → Type 0) (i n : ℕ) → fits (size_of i) n ≡ true
    → P 0x0A → P 0x0B → P 0x0C → P 0x1C → P 0x39 → P 0x40 → P 0x42 → P 0x43 → P 0x52 → P 0x94 → P 0xD6 → P i
unfolding size_of
of_table P i n fit x0A x0B x0C x1C x39 x40 x42 x43 x52 x94 xD6 =
    pick_case Q (eqb i 0x0A) _ _ (λ h _. here 0x0A x0A h) (λ _.
    pick_case Q (eqb i 0x0B) _ _ (λ h _. here 0x0B x0B h) (λ _.
    pick_case Q (eqb i 0x0C) _ _ (λ h _. here 0x0C x0C h) (λ _.
    pick_case Q (eqb i 0x1C) _ _ (λ h _. here 0x1C x1C h) (λ _.
    pick_case Q (eqb i 0x39) _ _ (λ h _. here 0x39 x39 h) (λ _.
    pick_case Q (eqb i 0x40) _ _ (λ h _. here 0x40 x40 h) (λ _.
    pick_case Q (eqb i 0x42) _ _ (λ h _. here 0x42 x42 h) (λ _.
    pick_case Q (eqb i 0x43) _ _ (λ h _. here 0x43 x43 h) (λ _.
    pick_case Q (eqb i 0x52) _ _ (λ h _. here 0x52 x52 h) (λ _.
    pick_case Q (eqb i 0x94) _ _ (λ h _. here 0x94 x94 h) (λ _.
    pick_case Q (eqb i 0xD6) _ _ (λ h _. here 0xD6 xD6 h) (λ _ h. never h)))))))))))
    fit
  where
    Q : Option Size → Type 0
    Q z = fits z n ≡ true → P i

    here : (k : ℕ) → P k → eqb i k ≡ true → P i
    here k x h = subst P (sym (eqb-true i k h)) x

-- What the order of an identifier does is what document 01 writes there.
pub record Does (p : Printer) (store : List ℕ) (i : ℕ) (d : List ℕ) (o : Order) : Type 0 where
  pub after : o.after ≡ printer_after p store i d
  pub frame : o.frame ≡ frame_after p i d
  pub strips : o.strips ≡ strips_after p i
  pub stores : o.store ≡ change_after i d

frame_does : (p : Printer) (store : List ℕ) (i n : ℕ) (d : List ℕ) → fits (size_of i) n ≡ true → Does p store i d (order p store i d)
unfolding order printer_order store_message select_message set_message set_parameters set_both edit_message ask_counter ask_message ask_table ask_clock print
frame_does p store i n d fit =
    of_table (λ (i : ℕ). Does p store i d (order p store i d)) i n fit
    (record { after = refl; frame = refl; strips = refl; stores = refl })
    (record { after = refl; frame = refl; strips = refl; stores = refl })
    (record { after = refl; frame = refl; strips = refl; stores = refl })
    (record { after = refl; frame = refl; strips = refl; stores = refl })
    (record { after = refl; frame = refl; strips = refl; stores = refl })
    (record { after = refl; frame = refl; strips = refl; stores = refl })
    (record { after = refl; frame = refl; strips = refl; stores = refl })
    (record { after = refl; frame = refl; strips = refl; stores = refl })
    (record { after = refl; frame = refl; strips = refl; stores = refl })
    (record { after = refl; frame = refl; strips = refl; stores = refl })
    (record { after = refl; frame = refl; strips = refl; stores = refl })

update_does : (p : Printer) (text : List ℕ) → ((update_fields p text).after ≡ updated_head p text) × ((update_fields p text).frame ≡ []) × ((update_fields p text).strips ≡ no_strips)
unfolding update_fields
update_does p text = (refl, refl, refl)

-- ---- What was received.
handled_exactly : (p : Printer) (store s : List ℕ) (r : Received) → Sound s r → ((handled p store s r).number ≡ 0) ↔ (passes p store s r ≡ true)
handled_exactly p store s Partial h = (λ z. absurd (omega arith), λ e. never e)
handled_exactly p store s (Refused k c) h = (λ z. absurd (omega arith), λ e. never e)
handled_exactly p store s (Misfit k i n c) h = (λ z. absurd (omega arith), λ e. never e)
handled_exactly p store s Enquiry h = zero_exactly (obeyed_comes p (enquire p) 1 refl)
handled_exactly p store s (Update n c) h =
    zero_exactly (obeyed_comes p (update_fields p (take n (drop 1 s))) c (fields_numbered p (take n (drop 1 s))))
handled_exactly p store s (Frame i n c) h =
    zero_exactly (obeyed_comes p (order p store i (take n (drop 3 s))) c (orders_numbered p store i (take n (drop 3 s))))

-- An order that is done has the effect that it says.
obeyed_effect : (p : Printer) (o : Order) (c : ℕ) {x : List ℕ} {y : List (List ℕ)} {q : Printer} {z : StoreChange} → numbered o.tests ≡ true → all o.tests ≡ true
    → o.frame ≡ x → o.strips ≡ y → o.after ≡ q → o.store ≡ z → Effect (obeyed p o c) c x y q z
obeyed_effect p o c n t a b e f =
    rw (then_just (obeyed_comes p o c n) t)
    (record { acknowledged = refl; nowhere = refl; takes = refl; answers = ap (λ (l : List ℕ). 0x06 ∷ l) a; prints = b; becomes = e; stores = f })

handled_effect : (p : Printer) (store s : List ℕ) (r : Received) → Sound s r → passes p store s r ≡ true → HasEffect p store s r (handled p store s r)
handled_effect p store s Partial h e = never e
handled_effect p store s (Refused k c) h e = never e
handled_effect p store s (Misfit k i n c) h e = never e
handled_effect p store s Enquiry h e = obeyed_effect p (enquire p) 1 refl refl refl refl refl refl
handled_effect p store s (Update n c) h e =
    let text = take n (drop 1 s) in
    let d = update_does p text in
    obeyed_effect p (update_fields p text) c (fields_numbered p text) e d.1 d.2 d.0 (update_stores p text)
handled_effect p store s (Frame i n c) h e =
    let d = take n (drop 3 s) in
    let x = frame_does p store i n d h in
    obeyed_effect p (order p store i d) c (orders_numbered p store i d) e x.frame x.strips x.after x.stores

-- ---- In a valid state, with buffers of the stated size.
pub valid_handled : (m store s : List ℕ) → valid_state m ≡ true → valid_store store ≡ true → outcome m (full store s) ≡ handled (printer_of m) store s (received s)
unfolding outcome
valid_handled m store s v w = rw (v, w)

pub acknowledged_exactly : AcknowledgedExactly
acknowledged_exactly m store s v w = rw (valid_handled m store s v w) (handled_exactly (printer_of m) store s (received s) (sound s))

pub exact_effect : ExactEffect
exact_effect m store s v w e = rw (valid_handled m store s v w) (handled_effect (printer_of m) store s (received s) (sound s) e)

pub effect_kept : EffectKept
effect_kept m h e = rw (eq-eqb (outcome m h).number 0 e)

pub room_enough : RoomEnough
unfolding outcome
room_enough m h a b = rw (le-leb answer_size h.answer_room a, le-leb strips_size h.strip_room b)

-- ---- A single byte that passes its own tests.
held_whole : (m : List ℕ) (h : HandedByte) (n : ℕ) → valid_state m ≡ true → valid_store h.store ≡ true → is_holding h.holding h.buffer ≡ true
    → leb answer_size h.answer_room ≡ true → leb strips_size h.strip_room ≡ true → h.holding ≡ Held n
    → single m h ≡ taken (outcome m (full h.store (joined_by n h.buffer h.byte)))
unfolding single outcome
held_whole m h n v w k a b e = rw (v, w, k, a, b, e) refl

dropped_whole : (m : List ℕ) (h : HandedByte) → valid_state m ≡ true → valid_store h.store ≡ true → is_holding h.holding h.buffer ≡ true
    → leb answer_size h.answer_room ≡ true → leb strips_size h.strip_room ≡ true → h.holding ≡ Dropping
    → single m h ≡ taken (silent (printer_of m) 3)
unfolding single
dropped_whole m h v w k a b e = rw (v, w, k, a, b, e) refl

pub byte_as_whole : ByteAsWhole
byte_as_whole m h v w k a b =
    let x = le-leb answer_size h.answer_room a in
    let y = le-leb strips_size h.strip_room b in
    record { held = λ n e. held_whole m h n v w k x y e; dropped = λ e. dropped_whole m h v w k x y e }
