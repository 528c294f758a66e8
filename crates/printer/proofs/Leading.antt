-- All that can come of a call: the state stays as it was, or its bytes become those of what one accepted order leads to, which is valid
-- where the state was, of the same type, and has the same rooms.
use Prim.Native.Nat.{ℕ, ◌≤◌}
use mathlib.Core.Bool.{Bool, true, false}
use mathlib.Core.List.{List}
use mathlib.Core.Path.{◌≡◌, refl, sym, subst, ◌∙◌}
use native.Mathlib.Omega.{arith}
use borrow.Author.Tests.{ne_eqb}
use lib.Dec.{eqb, leb}
use lib.ListN.{length, take, drop, length-drop}
use lib.Seq.{length-take-le}
use Rattle.frame.specs.Ground.{pick, both, all, given}
use Rattle.frame.specs.Given.{given_of}
use Rattle.frame.specs.declared.given.Given.{Given}
use Rattle.frame.specs.Receive.{received}
use Rattle.frame.specs.declared.receive.Received.{Received}
use Rattle.frame.specs.declared.receive.Received.TheVariants.{Partial, Refused, Misfit, Enquiry, Update, Frame}
use Rattle.frame.proofs.Ground.{both_true, pick_case, unless_tells}
use Rattle.frame.proofs.Heard.{Sound, sound, frame_inside}
use Rattle.calendar.specs.Clock.{is_real, tick}
use Rattle.calendar.specs.DateChange.{is_time}
use Rattle.printer.specs.State.{Printer, with_clock, with_date_change, valid, valid_state, printer_of, bytes_of}
use Rattle.printer.specs.Order.{Order, left}
use Rattle.printer.specs.Change.{update_fields}
use Rattle.printer.specs.Messages.{valid_store}
use Rattle.printer.specs.Receive.{Handed, Outcome, outcome, handled, kept, obeyed, refusal, enquire, order, answer_size, strips_size}
use Rattle.printer.specs.Single.{HandedByte, byte_handled, joined_by, single}
use Rattle.frame.specs.Holding.{is_holding}
use Rattle.frame.specs.declared.holding.Holding.{Holding}
use Rattle.frame.specs.declared.holding.Holding.TheVariants.{Held, Dropping}
use Rattle.printer.specs.Call.{set_clock, set_date_change, tick_clock}
use Rattle.printer.specs.OrderLaws.{numbered}
use Rattle.printer.specs.Demands.{Call, hand_in, byte_comes, clock_set, date_change_set, second_passes, after, Brought, nothing, brought_by, brought_in, brought_with, brought}
use Rattle.calendar.specs.declared.clock.Clock.{Clock}
use Rattle.calendar.specs.declared.date_change.TimeOfDay.{TimeOfDay}
use Rattle.printer.proofs.Valid.{valid_printer, valid_clock}
use Rattle.calendar.proofs.ClockLaws.{tick_real}
use Rattle.printer.proofs.StateLaws.{clock_valid, date_change_valid}
use Rattle.printer.proofs.OrderLaws.{obeyed_done, obeyed_refused, given_exactly, fields_numbered, orders_numbered, order_keeps, update_keeps}
use Rattle.printer.proofs.Rooms.{Rooms, SizeFits, update_rooms, order_rooms}

-- What an accepted call leads to, and the whole message that it brings a jet.
pub data Leads (jet : ℕ) (p : Printer) : Printer → Brought → Type 0 where
  stays : Leads jet p p nothing
  orders : (store : List ℕ) (i : ℕ) (d : List ℕ) → valid_store store ≡ true → SizeFits i d → all (order p store i d).tests ≡ true
      → Leads jet p (order p store i d).after (brought_by jet store i d)
  updates : (text : List ℕ) → all (update_fields p text).tests ≡ true → Leads jet p (update_fields p text).after nothing
  sets : (c : Clock) → is_real c ≡ true → Leads jet p (with_clock p c) nothing
  changes : (t : TimeOfDay) → is_time t ≡ true → Leads jet p (with_date_change p t) nothing

-- A property of a state and of what is brought, shown of the state as it is and of all that an accepted call leads to.
module _ (jet : ℕ) (m : List ℕ) (Q : List ℕ → Brought → Type 0) (same : Q m nothing)
    (leads : (q : Printer) (b : Brought) → Leads jet (printer_of m) q b → Q (bytes_of q) b) where
  -- The property of an outcome that brings b where it is accepted.
  abbrev Gives : Brought → Outcome → Type 0
  Gives b o = Q (kept o m) (pick (eqb o.number 0) b nothing)

  refused_gives : (g : Given) (consumed : ℕ) (b : Brought) → 4 ≤ g.number → Gives b (refusal (printer_of m) g consumed)
  refused_gives g consumed b h = rw (ne_eqb g.number 0 (λ e. omega arith)) same

  obeyed_gives : (o : Order) (consumed : ℕ) (b : Brought) → numbered o.tests ≡ true → (all o.tests ≡ true → Q (bytes_of o.after) b)
      → Gives b (obeyed (printer_of m) o consumed)
  obeyed_gives o consumed b n f = go (all o.tests) refl
    where
      go : (t : Bool) → all o.tests ≡ t → Gives b (obeyed (printer_of m) o consumed)
      go true e = subst (Gives b) (sym (obeyed_done (printer_of m) o consumed e)) (f e)
      go false e =
          let g : 8 ≤ (given o.tests).number = (given_exactly o.tests n).1 e in
          subst (Gives b) (sym (obeyed_refused (printer_of m) o consumed e)) (refused_gives (given o.tests) consumed b (omega arith))

  handled_gives : (store s : List ℕ) (r : Received) → valid_store store ≡ true → received s ≡ r → Sound s r → Gives (brought_in jet store s r) (handled (printer_of m) store s r)
  handled_gives store s Partial w e h = same
  handled_gives store s (Refused why consumed) w e h = refused_gives (given_of why) consumed nothing h
  handled_gives store s (Misfit why i n consumed) w e h = refused_gives (given_of why) consumed nothing h
  handled_gives store s Enquiry w e h = obeyed_gives (enquire (printer_of m)) 1 nothing refl (λ _. leads _ _ stays)
  handled_gives store s (Update n consumed) w e h =
      let text = take n (drop 1 s) in
      obeyed_gives (update_fields (printer_of m) text) consumed nothing (fields_numbered (printer_of m) text) (λ t. leads _ _ (updates text t))
  handled_gives store s (Frame i n consumed) w e h =
      let d = take n (drop 3 s) in
      let long : length d ≡ n = length-take-le n (drop 3 s) (simp length-drop (omega (arith, frame_inside s e))) in
      obeyed_gives (order (printer_of m) store i d) consumed (brought_by jet store i d) (orders_numbered (printer_of m) store i d)
      (λ t. leads _ _ (orders store i d w (rw long h) t))

  handed_gives : (h : Handed) → Gives (brought_in jet h.store h.bytes (received h.bytes)) (outcome m h)
  unfolding outcome
  handed_gives h =
      let s = h.bytes in
      let P = Gives (brought_in jet h.store s (received s)) in
      unless_tells P (valid_state m) _ _ (λ _. same) (λ _.
      unless_tells P (valid_store h.store) _ _ (λ _. same) (λ w.
      unless_tells P (leb answer_size h.answer_room) _ _ (λ _. same) (λ _.
      unless_tells P (leb strips_size h.strip_room) _ _ (λ _. same) (λ _.
      handled_gives h.store s (received s) w refl (sound s)))))

  byte_gives : (h : HandedByte) (holding : Holding) → valid_store h.store ≡ true → Gives (brought_with jet h holding) (byte_handled m h holding)
  byte_gives h (Held n) w =
      let s = joined_by n h.buffer h.byte in handled_gives h.store s (received s) w refl (sound s)
  byte_gives h Dropping w = same

  single_gives : (h : HandedByte) → Gives (brought_with jet h h.holding) (single m h)
  unfolding single
  single_gives h =
      let P = Gives (brought_with jet h h.holding) in
      unless_tells P (valid_state m) _ _ (λ _. same) (λ _.
      unless_tells P (valid_store h.store) _ _ (λ _. same) (λ w.
      unless_tells P (is_holding h.holding h.buffer) _ _ (λ _. same) (λ _.
      unless_tells P (leb answer_size h.answer_room) _ _ (λ _. same) (λ _.
      unless_tells P (leb strips_size h.strip_room) _ _ (λ _. same) (λ _.
      byte_gives h h.holding w)))))

  clock_gives : (c : Clock) → Q (left (set_clock m c) m) nothing
  unfolding set_clock
  clock_gives c =
      pick_case (λ (l : List ℕ). Q l nothing) (both (valid_state m) (both (is_real c) true)) _ _
      (λ t. leads _ _ (sets c (both_true (is_real c) true (both_true (valid_state m) _ t).1).0))
      (λ _. same)

  date_change_gives : (t : TimeOfDay) → Q (left (set_date_change m t) m) nothing
  unfolding set_date_change
  date_change_gives t =
      pick_case (λ (l : List ℕ). Q l nothing) (both (valid_state m) (both (is_time t) true)) _ _
      (λ e. leads _ _ (changes t (both_true (is_time t) true (both_true (valid_state m) _ e).1).0))
      (λ _. same)

  tick_gives : Q (left (tick_clock m) m) nothing
  unfolding tick_clock
  tick_gives =
      pick_case (λ (l : List ℕ). Q l nothing) (both (valid_state m) true) _ _
      (λ t.
      let v = valid_printer m (both_true (valid_state m) true t).0 in
      leads _ _ (sets (tick (printer_of m).clock) (tick_real (printer_of m).clock (valid_clock (printer_of m) v))))
      (λ _. same)

  pub one_call : (c : Call) → Q (after m c) (brought jet m c)
  one_call (hand_in h) = handed_gives h
  one_call (byte_comes h) = single_gives h
  one_call (clock_set c) = clock_gives c
  one_call (date_change_set t) = date_change_gives t
  one_call second_passes = tick_gives

-- ---- What it leads to is valid and of the same type, and has the same rooms.
pub leads_valid : {jet : ℕ} {p q : Printer} {b : Brought} → valid p ≡ true → length p.jets ≡ 4 → Leads jet p q b → valid q ≡ true
leads_valid v four stays = v
leads_valid {p = p} v four (orders store i d w f t) = (order_keeps p store i d four w).stays_valid v t
leads_valid {p = p} v four (updates text t) = (update_keeps p text four).stays_valid v t
leads_valid {p = p} v four (sets c r) = clock_valid p c v r
leads_valid {p = p} v four (changes t r) = date_change_valid p t v r

pub leads_model : {jet : ℕ} {p q : Printer} {b : Brought} → length p.jets ≡ 4 → Leads jet p q b → q.model ≡ p.model
leads_model four stays = refl
leads_model {p = p} four (orders store i d w f t) = (order_keeps p store i d four w).model
leads_model {p = p} four (updates text t) = (update_keeps p text four).model
leads_model four (sets c r) = refl
leads_model four (changes t r) = refl

pub leads_four : {jet : ℕ} {p q : Printer} {b : Brought} → length p.jets ≡ 4 → Leads jet p q b → length q.jets ≡ 4
leads_four four stays = four
leads_four {p = p} four (orders store i d w f t) = (order_keeps p store i d four w).as_many ∙ four
leads_four {p = p} four (updates text t) = (update_keeps p text four).as_many ∙ four
leads_four four (sets c r) = four
leads_four four (changes t r) = four

pub leads_rooms : {jet : ℕ} {p q : Printer} {b : Brought} → valid p ≡ true → Rooms p → Leads jet p q b → Rooms q
leads_rooms v r stays = r
leads_rooms {p = p} v r (orders store i d w f t) = order_rooms p i d f v r store w t
leads_rooms {p = p} v r (updates text t) = update_rooms p text r
leads_rooms v r (sets c e) = r
leads_rooms v r (changes t e) = r
