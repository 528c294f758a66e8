-- Why every jet keeps its room: an accepted order replaces contents by contents that fit, parameters by parameters of the same size, and
-- values by values that its settings allow.
use Prim.Native.Nat.{ℕ, ◌-◌, ◌≤◌, ◌<◌}
use mathlib.Core.Bool.{Bool, true, false}
use mathlib.Core.List.{List}
use mathlib.Core.Path.{◌≡◌, refl, ap, ◌∙◌}
use native.Mathlib.Omega.{arith}
use borrow.Author.Tests.{eqb-true, leb-true}
use lib.Dec.{eqb}
use lib.ListN.{length, take, drop, length-take, length-drop}
use lib.Seq.{length-take-le}
use Rattle.frame.specs.Ground.{all}
use Rattle.frame.specs.Wire.{size_of, fits}
use Rattle.frame.proofs.Ground.{length_over}
use Rattle.content.specs.Machine.{start}
use Rattle.content.specs.Edit.{replaced}
use Rattle.content.specs.Update.{laid}
use Rattle.content.proofs.ChangeLaws.{edit_keeps_length, update_keeps_length}
use Rattle.printer.specs.Counter.{Counter, initial, final, good_settings, is_set, counted, valid_counter}
use Rattle.printer.specs.Jet.{Jet, has_jet, message, good_parameters, with_message, with_parameters, counted_jet}
use Rattle.printer.specs.State.{Printer, empty_jet, jet_at, with_jet, valid, fresh_printer}
use Rattle.printer.specs.Order.{Order, jet_number, jet_in}
use Rattle.printer.specs.Change.{parameters_in, address_in, first_of_head, second_of_head, positions, updated_jet, set_message, set_parameters, set_both, edit_message, update_fields}
use Rattle.printer.specs.Request.{ask_counter, ask_message, ask_table, ask_clock}
use Rattle.printer.specs.Print.{print, counted_jets}
use Rattle.printer.specs.Messages.{body_content, body_parameters, select_message, selected_body, store_message, valid_store}
use Rattle.printer.specs.Receive.{printer_order, order}
use Rattle.calendar.specs.declared.clock.Clock.{Clock}
use Rattle.printer.proofs.Valid.{valid_at, jet_counter, on_row, content_short}
use Rattle.printer.proofs.Rows.{each_beside, set_any, replicate_at}
use Rattle.printer.proofs.Numbers.{digits_part, value_fits}
use Rattle.printer.proofs.Counters.{good_tells, valid_tells}
use Rattle.printer.proofs.CounterLaws.{count_stays}
use Rattle.printer.proofs.PrintLaws.{counted_settings, counted_set}
use Rattle.printer.proofs.OrderLaws.{printer_order_case, order_case, message_tells, parameters_tell, both_tell, edit_tells, select_tells}

-- A counter's final value has nine digits.
final_small : (q : List ℕ) → good_settings q ≡ true → final q < 1_000_000_000
final_small q e = value_fits 9 (take 9 (drop 10 q)) (simp length-take (omega arith)) (digits_part q 1 20 9 9 (omega arith) (good_tells q e).digits)

-- ---- The room of a jet.
-- Its bytes have room for its content, its parameters and its counter's value; `Written` says what they keep of a batch.
pub record Roomy (j : Jet) : Type 0 where
  pub content : length j.content ≡ 512
  pub general : length j.general ≡ 11
  pub settings : length j.counter.settings ≡ 26
  pub value : j.counter.value < 4_294_967_296

abbrev pub Rooms : Printer → Type 0
Rooms p = (n : ℕ) → 1 ≤ n → Roomy (jet_at p n)

pub empty_roomy : Roomy empty_jet
unfolding empty_jet
empty_roomy = record { content = refl; general = refl; settings = refl; value = omega arith }

pub message_roomy : (j : Jet) (c : List ℕ) → length c ≤ 512 → Roomy j → Roomy (with_message j c)
message_roomy j c h r =
    let full = r.content in
    record {
      content = length_over c j.content (omega arith) ∙ full;
      general = r.general;
      settings = r.settings;
      value = r.value;
    }

message_short : (j : Jet) → Roomy j → length (message j) ≤ 512
message_short j r = let full = r.content in simp length-take (omega arith)

parameters_roomy : (j : Jet) (q : List ℕ) → length q ≡ 37 → good_parameters q ≡ true → Roomy j → Roomy (with_parameters j q)
unfolding good_parameters
parameters_roomy j q h e r =
    let s = drop 11 q in
    let order : initial s ≤ final s = (good_tells s e).order in
    let small : final s < 1_000_000_000 = final_small s e in
    record {
      content = r.content;
      general = length-take-le 11 q (omega arith);
      settings = simp length-drop (omega arith);
      value = omega arith;
    }

unset_same : (c : Counter) → is_set c ≡ false → c.value < 4_294_967_296 → (counted c).value < 4_294_967_296
unfolding counted
unset_same c s h = rw s h

counted_small : (c : Counter) → valid_counter c ≡ true → c.value < 4_294_967_296 → (counted c).value < 4_294_967_296
counted_small c v h = go (is_set c) refl
  where
    go : (t : Bool) → is_set c ≡ t → (counted c).value < 4_294_967_296
    go true s =
        let k = valid_tells (counted c) (count_stays c v).0 (ap (λ (n : ℕ). eqb n 1) (counted_set c) ∙ s) in
        let small : final (counted c).settings < 1_000_000_000 = final_small (counted c).settings k.good in
        omega (arith, k.most)
    go false s = unset_same c s h

counted_roomy : (j : Jet) → valid_counter j.counter ≡ true → Roomy j → Roomy (counted_jet j)
counted_roomy j v r =
    record {
      content = r.content;
      general = r.general;
      settings = ap length (counted_settings j.counter) ∙ r.settings;
      value = counted_small j.counter v r.value;
    }

-- ---- The rooms of a state.
put_rooms : (p : Printer) (n : ℕ) (j : Jet) → Rooms p → Roomy j → Rooms (with_jet p n j)
put_rooms p n j r new k h = set_any Roomy p.jets (n - 1) (k - 1) j empty_jet new (r k h)

pub fresh_rooms : (model : ℕ) (clock : Clock) → Rooms (fresh_printer model clock)
fresh_rooms model clock n h = rw (replicate_at 4 (n - 1) empty_jet) empty_roomy

counted_rooms : (p : Printer) → valid p ≡ true → Rooms p → Rooms (counted_jets p)
counted_rooms p v r n h =
    each_beside (λ (k : ℕ) (j : Jet). counted_jet j) (λ (i j : Jet). valid_counter i.counter ≡ true → Roomy i → Roomy j) empty_jet empty_jet
    (λ _ e. e) (λ k j w e. counted_roomy j w e) 1 (n - 1) p.jets
    (jet_counter (has_jet p.model n) (jet_at p n) (valid_at p n v h)) (r n h)

updated_roomy : (j : Jet) (text : List ℕ) → Roomy j → Roomy (updated_jet j text)
updated_roomy j text r =
    message_roomy j (laid text start (message j)) (omega (arith, update_keeps_length (message j) text, message_short j r)) r

pub update_rooms : (p : Printer) (text : List ℕ) → Rooms p → Rooms (update_fields p text).after
unfolding update_fields
update_rooms p text r =
    let a = first_of_head p in
    let front = take (positions a) text in
    put_rooms (with_jet p 1 (updated_jet a front)) 2 _ (put_rooms p 1 _ r (updated_roomy a front (r 1 (omega arith))))
    (updated_roomy (second_of_head p) (drop (positions a) text) (r 2 (omega arith)))

-- ---- What an order of the right size leaves.
-- The size that the table asks for.
abbrev pub SizeFits : ℕ → List ℕ → Type 0
SizeFits i d = fits (size_of i) (length d) ≡ true

parameters_length : (d : List ℕ) → 38 ≤ length d → length (parameters_in d) ≡ 37
parameters_length d h = length-take-le 37 (drop 1 d) (simp length-drop (omega arith))

module _ (p : Printer) (i : ℕ) (d : List ℕ) (f : SizeFits i d) (v : valid p ≡ true) (r : Rooms p) where
  -- The jet of the frame's number, which is one.
  here : has_jet p.model (jet_number d) ≡ true → Roomy (jet_in p d)
  here h = r (jet_number d) (on_row p.model (jet_number d) h).0

  message_leaves : all (set_message p d).tests ≡ true → Rooms (set_message p d).after
  unfolding set_message
  message_leaves t =
      let x = message_tells p d t in
      put_rooms p (jet_number d) _ r (message_roomy (jet_in p d) (drop 1 d) (content_short (drop 1 d) x.content) (here x.there))

  parameters_leave : eqb i 0x0B ≡ true → all (set_parameters p d).tests ≡ true → Rooms (set_parameters p d).after
  unfolding set_parameters size_of
  parameters_leave e t =
      let x = parameters_tell p d t in
      let size : length d ≡ 38 = eqb-true (length d) 38 (rw (eqb-true i 0x0B e) at f) in
      put_rooms p (jet_number d) _ r
      (parameters_roomy (jet_in p d) (parameters_in d) (parameters_length d (omega arith)) x.good (here x.there))

  both_leave : eqb i 0x0C ≡ true → all (set_both p d).tests ≡ true → Rooms (set_both p d).after
  unfolding set_both size_of
  both_leave e t =
      let x = both_tell p d t in
      let size : 39 ≤ length d = leb-true 39 (length d) (rw (eqb-true i 0x0C e) at f) in
      put_rooms p (jet_number d) _ r
      (parameters_roomy (with_message (jet_in p d) (drop 38 d)) (parameters_in d) (parameters_length d (omega arith)) x.good
      (message_roomy (jet_in p d) (drop 38 d) (content_short (drop 38 d) x.content) (here x.there)))

  edit_leaves : all (edit_message p d).tests ≡ true → Rooms (edit_message p d).after
  unfolding edit_message
  edit_leaves t =
      let x = edit_tells p d t in
      let j = jet_in p d in
      let room = here x.there in
      put_rooms p (jet_number d) _ r
      (message_roomy j (replaced (message j) (address_in d) (drop 3 d))
      (omega (arith, edit_keeps_length (message j) (address_in d) (drop 3 d) x.edits, message_short j room)) room)

  printer_rooms : all (printer_order p i d).tests ≡ true → Rooms (printer_order p i d).after
  unfolding ask_counter ask_message ask_table ask_clock print
  printer_rooms =
      printer_order_case (λ (o : Order). all o.tests ≡ true → Rooms o.after) p i d
      (λ _. message_leaves) parameters_leave both_leave
      (λ _ _. r) (λ _. edit_leaves) (λ _ _. r) (λ _ _. r) (λ _ _. counted_rooms p v r) (λ _ _ _. r)

  module _ (store : List ℕ) (w : valid_store store ≡ true) where
    select_leaves : all (select_message p store d).tests ≡ true → Rooms (select_message p store d).after
    unfolding select_message
    select_leaves t =
        let x = select_tells p store d w t in
        let body = selected_body store d in
        put_rooms p (jet_number d) _ r
        (parameters_roomy (with_message (jet_in p d) (body_content body)) (body_parameters body) x.good.size x.good.parameters
        (message_roomy (jet_in p d) (body_content body) (content_short (body_content body) x.good.content) (here x.there)))

    pub order_rooms : all (order p store i d).tests ≡ true → Rooms (order p store i d).after
    unfolding store_message
    order_rooms =
        order_case (λ (o : Order). all o.tests ≡ true → Rooms o.after) p store i d
        (λ _ _. r) (λ _. select_leaves) (λ _. printer_rooms)
