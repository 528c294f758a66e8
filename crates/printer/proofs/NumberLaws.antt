-- The tests of every frame and call stand in the order of their numbers, by computation; what the box says is the first that fails.
use Prim.Native.Nat.{ℕ, ◌+◌}
use mathlib.Core.Bool.{Bool, true, false, not}
use mathlib.Core.List.{List, [], ◌∷◌, ◌++◌, append-nil}
use mathlib.Core.Path.{◌≡◌, refl, sym, ◌∙◌, ap}
use lib.Dec.{eqb, ltb}
use lib.ListN.{length, get_or, take, drop}
use Rattle.frame.specs.Ground.{Test, all, checked, given, pick, plain, test}
use Rattle.frame.specs.declared.given.Given.{Given}
use Rattle.frame.specs.Numbers.{in_order}
use Rattle.frame.specs.NumberLaws.{frame_tests, is_frame, not_whole, receive_tests, too_long}
use Rattle.frame.specs.Given.{given_of}
use Rattle.frame.specs.Wire.{around, check, enquiry, fits, head_size, listed, longest_data, longest_update, update_closes, update_marks, update_opens, size_of}
use Rattle.frame.specs.Receive.{data_length, framed, judged, number, received, run, text_space, updated}
use Rattle.frame.specs.declared.receive.Received.{Received}
use Rattle.frame.specs.declared.receive.Received.TheVariants.{Partial, Refused, Misfit, Enquiry, Update, Frame}
use Rattle.frame.proofs.Ground.{checked_all, checked_append, checked_map, pick_case, plain_given, unless_case}
use Rattle.frame.proofs.Numbers.{first_given}
use Rattle.frame.proofs.NumberLaws.{in_order as frame-order, plain_received, received_first}
use Rattle.printer.specs.Order.{Order}
use Rattle.printer.specs.Change.{set_message, set_parameters, set_both, edit_message, update_fields}
use Rattle.printer.specs.Messages.{store_message, select_message}
use Rattle.printer.specs.Request.{ask_counter, ask_message, ask_table, ask_clock}
use Rattle.printer.specs.Print.{print}
use Rattle.printer.specs.Call.{set_clock, set_date_change, tick_clock}
use Rattle.printer.specs.Receive.{Handed, given_by, handled, handing_tests, obeyed, order, outcome, silent}
use Rattle.printer.specs.Single.{HandedByte, byte_handled, byte_tests, single}
use Rattle.printer.specs.State.{Printer, printer_of}
use Rattle.printer.specs.NumberLaws.{CallsGiveFirst, InOrder, asked_tests, outcome_tests}
use Rattle.printer.proofs.OrderLaws.{checked_given, obeyed_given, printer_order_case, order_case}

pub numbers_in_order : InOrder
unfolding store_message select_message set_message set_parameters set_both edit_message update_fields ask_counter ask_message ask_table ask_clock print set_clock set_date_change tick_clock
numbers_in_order =
    record {
      frames =
          λ p store i d. order_case (λ (o : Order). in_order o.tests ≡ true) p store i d (λ _. refl) (λ _. refl) (λ _.
          printer_order_case (λ (o : Order). in_order o.tests ≡ true) p i d
          (λ _. refl) (λ _. refl) (λ _. refl) (λ _. refl) (λ _. refl) (λ _. refl) (λ _. refl) (λ _. refl) (λ _ _. refl));
      updates = λ p text. refl;
      handing = λ m h. refl;
      bytes = λ m h. refl;
      fresh = λ m model clock. refl;
      clock = λ m clock. refl;
      date_change = λ m time. refl;
      tick = λ m. refl;
      show = λ store n. refl;
    }

-- ---- What is handed in.
-- Behind the receiver's tests nothing is asked, or the tests of an update or a frame, where all of them hold.
nothing_asked : (s : List ℕ) → given (receive_tests s) ≡ given (receive_tests s ++ [])
nothing_asked s = ap given (sym (append-nil (receive_tests s)))

then_asked : (s : List ℕ) (ts : List Test) → plain 0 ≡ given (receive_tests s) → given ts ≡ given (receive_tests s ++ ts)
then_asked s ts e =
    let held = (first_given (receive_tests s) (plain 0) (frame-order.receives s) e).none.0 refl in
    let same : Given → Given = λ g. g in
    sym (checked_append (receive_tests s) ts same (plain 0) ∙ checked_all (receive_tests s) same (given ts) held)

-- What the receiver refuses has no place.
abbrev Placeless : Received → Type 0
Placeless (Refused why c) = plain (given_of why).number ≡ given_of why
Placeless (Misfit why i n c) = plain (given_of why).number ≡ given_of why
Placeless Partial = Unit {0}
Placeless Enquiry = Unit {0}
Placeless (Update n c) = Unit {0}
Placeless (Frame i n c) = Unit {0}

judged_placeless : (i n : ℕ) → Placeless (judged i n)
unfolding judged
judged_placeless i n = unless_case Placeless (listed (size_of i)) _ _ refl (unless_case Placeless (fits (size_of i) n) _ _ refl tt)

placeless_received : (s : List ℕ) → Placeless (received s)
unfolding received updated framed
placeless_received s =
    let n = data_length s in
    pick_case Placeless (eqb (length s) 0) _ _ (λ _. tt) (λ _.
    pick_case Placeless (eqb (get_or s 0 0) enquiry) _ _ (λ _. tt) (λ _.
    pick_case Placeless (eqb (get_or s 0 0) update_opens) _ _
    (λ _.
    pick_case Placeless (ltb (run update_closes (text_space s)) (length (text_space s))) _ _ (λ _. tt) (λ _.
    pick_case Placeless (ltb (length s) (longest_update + update_marks)) _ _ (λ _. tt) (λ _. refl)))
    (λ _.
    pick_case Placeless (ltb (length s) head_size) _ _ (λ _. tt) (λ _.
    pick_case Placeless (ltb longest_data n) _ _ (λ _. refl) (λ _.
    pick_case Placeless (ltb (length s) (n + around)) _ _ (λ _. tt) (λ _.
    unless_case Placeless (eqb (check (take (n + head_size) s)) (get_or s (n + head_size) 0)) _ _ refl (judged_placeless (get_or s 0 0) n)))))))

-- So what the box says of what was received is the receiver's number, or what the first test of what is asked that fails gives.
handled_given : (p : Printer) (store s : List ℕ) (r : Received) → Placeless r → plain (number r) ≡ given (receive_tests s)
    → given_by (handled p store s r) ≡ given (receive_tests s ++ asked_tests p store s r)
unfolding obeyed
handled_given p store s Partial w e = e ∙ nothing_asked s
handled_given p store s (Refused why c) w e = sym w ∙ e ∙ nothing_asked s
handled_given p store s (Misfit why i n c) w e = sym w ∙ e ∙ nothing_asked s
handled_given p store s Enquiry w e = e ∙ nothing_asked s
handled_given p store s (Update n c) w e = obeyed_given p (update_fields p (take n (drop 1 s))) c ∙ then_asked s _ e
handled_given p store s (Frame i n c) w e = obeyed_given p (order p store i (take n (drop 3 s))) c ∙ then_asked s _ e

outcome_given : (m : List ℕ) (h : Handed) → given_by (outcome m h) ≡ given (outcome_tests m h)
unfolding outcome
outcome_given m h =
    let p = printer_of m in
    let store = h.store in
    let s = h.bytes in
    let same : Given → Given = λ g. g in
    checked_map given_by (handing_tests m h) (λ (g : Given). silent p g.number) (handled p store s (received s))
    ∙ ap (checked (handing_tests m h) same) (handled_given p store s (received s) (placeless_received s) (ap plain (received_first s) ∙ plain_given (receive_tests s) (plain_received s)))
    ∙ sym (checked_append (handing_tests m h) (receive_tests s ++ asked_tests p store s (received s)) same (plain 0))

-- All these tests are in order, by computation, whether a frame was received or not and whatever it asks.
abbrev Ordered : List ℕ → Handed → List Test → Bool → Type 0
Ordered m h o b =
    in_order
    (handing_tests m h
    ++ ((test (not (not_whole h.bytes)) 3 ∷ test (not (too_long h.bytes)) 4 ∷ pick b (frame_tests h.bytes) []) ++ o))
    ≡ true

ordered : (m : List ℕ) (h : Handed) (o : List Test) → Ordered m h o true → Ordered m h o false → Ordered m h o (is_frame h.bytes)
ordered m h o p q = go (is_frame h.bytes)
  where
    go : (b : Bool) → Ordered m h o b
    go true = p
    go false = q

asked_ordered : (m : List ℕ) (h : Handed) (r : Received) → Ordered m h (asked_tests (printer_of m) h.store h.bytes r) (is_frame h.bytes)
unfolding store_message select_message set_message set_parameters set_both edit_message update_fields ask_counter ask_message ask_table ask_clock print
asked_ordered m h Partial = ordered m h [] refl refl
asked_ordered m h (Refused k c) = ordered m h [] refl refl
asked_ordered m h (Misfit k i n c) = ordered m h [] refl refl
asked_ordered m h Enquiry = ordered m h [] refl refl
asked_ordered m h (Update n c) = ordered m h (update_fields (printer_of m) (take n (drop 1 h.bytes))).tests refl refl
asked_ordered m h (Frame i n c) =
    let p = printer_of m in
    let d = take n (drop 3 h.bytes) in
    order_case (λ (o : Order). Ordered m h o.tests (is_frame h.bytes)) p h.store i d
    (λ _. ordered m h (store_message p h.store d).tests refl refl)
    (λ _. ordered m h (select_message p h.store d).tests refl refl)
    (λ _. printer_order_case (λ (o : Order). Ordered m h o.tests (is_frame h.bytes)) p i d
    (λ _. ordered m h (set_message p d).tests refl refl)
    (λ _. ordered m h (set_parameters p d).tests refl refl)
    (λ _. ordered m h (set_both p d).tests refl refl)
    (λ _. ordered m h (ask_counter p d).tests refl refl)
    (λ _. ordered m h (edit_message p d).tests refl refl)
    (λ _. ordered m h (ask_message p d).tests refl refl)
    (λ _. ordered m h (ask_table p).tests refl refl)
    (λ _. ordered m h (print p).tests refl refl)
    (λ _ _. ordered m h (ask_clock p).tests refl refl))

-- A byte whose own tests do not all hold.
byte_given : (m : List ℕ) (h : HandedByte) → all (byte_tests m h) ≡ false → given_by (single m h) ≡ given (byte_tests m h)
unfolding single
byte_given m h e =
    let same : Given → Given = λ g. g in
    checked_map given_by (byte_tests m h) (λ (g : Given). silent (printer_of m) g.number) (byte_handled m h h.holding)
    ∙ checked_given (byte_tests m h) same (given_by (byte_handled m h h.holding)) e

pub calls_give_first : CallsGiveFirst
calls_give_first =
    record {
      byte = λ m h e. first_given (byte_tests m h) (given_by (single m h)) refl (byte_given m h e);
      receive = λ m h. first_given (outcome_tests m h) (given_by (outcome m h)) (asked_ordered m h (received h.bytes)) (outcome_given m h);
      fresh = λ m model clock r m' p. first_given _ r (numbers_in_order.fresh m model clock) p.gives;
      clock = λ m clock r m' p. first_given _ r (numbers_in_order.clock m clock) p.gives;
      date_change = λ m time r m' p. first_given _ r (numbers_in_order.date_change m time) p.gives;
      tick = λ m r m' p. first_given _ r (numbers_in_order.tick m) p.gives;
      show = λ store current n g r p. first_given _ g (numbers_in_order.show store n) p.gives;
    }
