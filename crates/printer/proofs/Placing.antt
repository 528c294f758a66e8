-- 02, Wish 4: where each refusal stands. An order gives what its first test that fails gives, and the place in it is the one that the laws
-- of contents, edits and updates speak of; no other test has a place.
use Prim.Native.Nat.{ℕ, ◌+◌}
use mathlib.Core.Bool.{Bool, true, false, not}
use mathlib.Core.List.{List, [], ◌∷◌, ◌++◌}
use mathlib.Core.Path.{◌≡◌, refl, sym, ◌∙◌, ap, subst}
use native.Mathlib.Omega.{arith}
use Rattle.std.proofs.Common.{Option, None, Some}
use borrow.Author.Tests.{eqb-true}
use lib.Dec.{eqb, ltb}
use lib.ListN.{length, take, drop}
use lib.Seq.{drop-drop, take-append_seam}
use Rattle.frame.specs.Ground.{Test, checked, given, has, placed, plain, test, test_at}
use Rattle.frame.specs.Numbers.{has_place, with_place}
use Rattle.frame.specs.declared.given.Given.{Given}
use Rattle.frame.proofs.Ground.{both_true, every_test, never, unless_case, unless_tells}
use Rattle.frame.proofs.Laws as frame-laws
use Rattle.content.specs.Byte.{all_characters, characters_in_front}
use Rattle.content.specs.Content.{content_test, content_tests, is_content, good, tested, verdict, wrong_place}
use Rattle.content.specs.Edit.{addressed, astray, edit_tests, edited}
use Rattle.content.specs.Machine.{start}
use Rattle.content.specs.PlaceLaws.{FirstAstray, FirstOther, TenAt}
use Rattle.content.specs.Position.{marks}
use Rattle.content.specs.Update.{update_tests}
use Rattle.content.proofs.PlaceLaws.{edit_astray, first_other, tested_there}
use Rattle.printer.specs.Change.{address_in, edit_message, head_positions, parameters_in, set_both, set_message, set_parameters, update_fields}
use Rattle.printer.specs.Demands.{FrameTellsWhere, NowhereElse, TellsWhere, UpdateTellsWhere, content_in}
use Rattle.printer.specs.Jet.{good_parameters, has_message, message}
use Rattle.printer.specs.Messages.{body_content, body_parameters, select_message, store_message, stored_body, stored_number}
use Rattle.library.specs.Store.{has_room, is_number}
use Rattle.printer.specs.Order.{Order, jet_in, jet_number, on_printer}
use Rattle.printer.specs.Print.{print}
use Rattle.printer.specs.Receive.{Outcome, done, obeyed, order, outcome, refusal}
use Rattle.printer.specs.Request.{ask_clock, ask_counter, ask_message, ask_table}
use Rattle.printer.specs.State.{Printer, printer_of, valid}
use Rattle.printer.proofs.Editing.{update_heard}
use Rattle.printer.proofs.Valid.{jet_content, on_row, valid_at, valid_printer}
use Rattle.printer.proofs.NumberLaws.{calls_give_first}
use Rattle.printer.proofs.PrintLaws.{content_good}
use Rattle.printer.proofs.OrderLaws.{obeyed_given, order_case, printer_order_case}

-- ---- No other number has a place.
no_place : (w : Option ℕ) → has_place w ≡ false → w ≡ None
no_place None e = refl
no_place (Some i) e = never (sym e)

pub nowhere_else : NowhereElse
nowhere_else m h e = no_place (outcome m h).place ((calls_give_first.receive m h).with_place_exactly ∙ e)

-- ---- An update: 13 comes from its last test, whose place is the first byte that is no character.
thirteen_given : (n : ℕ) (text : List ℕ) → let tests = test (ltb 0 n) 11 ∷ update_tests n text in
    (given tests).number ≡ 13 → ((given tests).place ≡ Some (characters_in_front text)) × (all_characters text ≡ false)
thirteen_given n text e = go (ltb 0 n) (eqb (length text) n) (all_characters text) e
  where
    go : (x y z : Bool) → let tests = test x 11 ∷ test y 18 ∷ test_at z 13 (characters_in_front text) ∷ [] in
        (given tests).number ≡ 13 → ((given tests).place ≡ Some (characters_in_front text)) × (z ≡ false)
    go false y z e = absurd (omega arith)
    go true false z e = absurd (omega arith)
    go true true false e = (refl, refl)
    go true true true e = absurd (omega arith)

fields_thirteen : (p : Printer) (text : List ℕ) (c : ℕ) → let o = obeyed p (update_fields p text) c in
    o.number ≡ 13 → (i : ℕ) × (o.place ≡ Some i) × FirstOther text i
unfolding update_fields
fields_thirteen p text c e =
    let g = obeyed_given p (update_fields p text) c in
    let h = thirteen_given (head_positions p) text (sym (ap (λ (x : Given). x.number) g) ∙ e) in
    (characters_in_front text, ap (λ (x : Given). x.place) g ∙ h.0, (first_other text (characters_in_front text)).1 (refl, h.1))

pub update_tells_where : UpdateTellsWhere
update_tells_where m store text rest v w h e =
    let n = length text in
    rw (update_heard m store (0x02 ∷ text ++ (0x03 ∷ rest)) n (n + 2) v w (frame-laws.update_heard text rest h e), take-append_seam text (0x03 ∷ rest))
    (fields_thirteen (printer_of m) text (n + 2))

-- ---- A frame.
abbrev no_place_numbers : List Test → Bool
no_place_numbers ts = every_test (λ t. not (has t.otherwise.number with_place)) ts

not_among : (n k : ℕ) {A : Type 0} → not (has n with_place) ≡ true → n ≡ k → has k with_place ≡ true → A
not_among n k e q h = never (sym (ap not h) ∙ subst (λ (x : ℕ). not (has x with_place) ≡ true) q e)

module _ (p : Printer) (i : ℕ) (d : List ℕ) where
  -- Any other number tells nothing.
  elsewhere : (o : Outcome) → not (has o.number with_place) ≡ true → TellsWhere p i d o
  elsewhere o e =
      record {
        ten = λ q. not_among o.number 10 e q refl;
        twelve = λ q. not_among o.number 12 e q refl;
        thirteen = λ q. not_among o.number 13 e q refl;
      }

  -- The tests that are left, test by test.
  module _ (o : Order) (c : ℕ) where
    abbrev Row : List Test → Type 0
    Row ts = TellsWhere p i d (checked ts (λ (g : Given). refusal p g c) (done o c))

    passed : Row []
    passed = elsewhere (done o c) refl

    plainly : (b : Bool) (n : ℕ) (ts : List Test) → not (has n with_place) ≡ true → Row ts → Row (test b n ∷ ts)
    plainly b n ts e r = unless_case (TellsWhere p i d) b (refusal p (plain n) c) _ (elsewhere (refusal p (plain n) c) e) r

    all_plainly : (ts : List Test) → no_place_numbers ts ≡ true → Row ts
    all_plainly [] e = passed
    all_plainly (t ∷ ts) e =
        let h = both_true (not (has t.otherwise.number with_place)) (no_place_numbers ts) e in
        unless_case (TellsWhere p i d) t.holds _ _ (elsewhere (refusal p t.otherwise c) h.0) (all_plainly ts h.1)

    -- 10, of the content that the frame brings.
    ten_there : (s : List ℕ) (ts : List Test) → s ≡ content_in i d → Row ts → Row (content_test s ∷ ts)
    unfolding tested
    ten_there s ts e r =
        unless_tells (TellsWhere p i d) (is_content s) (refusal p (placed 10 (wrong_place s)) c) _
        (λ f.
        record {
          ten = λ _. (wrong_place s, refl, subst (λ (l : List ℕ). TenAt l (wrong_place s)) e ((tested_there s (wrong_place s)).0 (rw f)));
          twelve = λ q. absurd (omega arith);
          thirteen = λ q. absurd (omega arith);
        })
        (λ _. r)

    -- 12 and 13, of the message that is there.
    edit_there : (s : List ℕ) → s ≡ message (jet_in p d) → verdict s ≡ good → Row (edit_tests s (address_in d) (drop 3 d))
    unfolding edited
    edit_there s e v =
        let a = address_in d in
        let symbols = drop 3 d in
        let there = drop a (marks start s) in
        unless_tells (TellsWhere p i d) (addressed symbols there) (refusal p (placed 12 (astray a symbols there)) c) _
        (λ f.
        record {
          ten = λ q. absurd (omega arith);
          twelve = λ _. (
            astray a symbols there,
            refl,
            subst (λ (l : List ℕ). FirstAstray l a (length symbols) (astray a symbols there)) e ((edit_astray s a symbols (astray a symbols there) v).0 (rw f)),
          );
          thirteen = λ q. absurd (omega arith);
        })
        (λ _.
        unless_tells (TellsWhere p i d) (all_characters symbols) (refusal p (placed 13 (characters_in_front symbols)) c) _
        (λ f.
        record {
          ten = λ q. absurd (omega arith);
          twelve = λ q. absurd (omega arith);
          thirteen = λ _. (characters_in_front symbols, refl, (first_other symbols (characters_in_front symbols)).1 (refl, f));
        })
        (λ _. passed))

  -- The orders.
  module _ (c : ℕ) where
    abbrev There : Order → Type 0
    There o = TellsWhere p i d (obeyed p o c)

    none_there : (o : Order) → no_place_numbers o.tests ≡ true → There o
    unfolding obeyed
    none_there o e = all_plainly o c o.tests e

    message_there : eqb i 0x0A ≡ true → There (set_message p d)
    unfolding obeyed set_message
    message_there e =
        let o = set_message p d in
        plainly o c (on_printer p d) 8 (content_tests (drop 1 d)) refl (ten_there o c (drop 1 d) [] (rw e) (passed o c))

    both_there : eqb i 0x0C ≡ true → There (set_both p d)
    unfolding obeyed set_both
    both_there e =
        let o = set_both p d in
        let s = drop 38 d in
        plainly o c (on_printer p d) 8 (test (good_parameters (parameters_in d)) 9 ∷ content_tests s) refl
        (plainly o c (good_parameters (parameters_in d)) 9 (content_tests s) refl
        (ten_there o c s [] (rw (eqb-true i 0x0C e)) (passed o c)))

    store_there : (store : List ℕ) → eqb i 0x1C ≡ true → There (store_message p store d)
    unfolding obeyed store_message
    store_there store e =
        let o = store_message p store d in
        let room = test (has_room (stored_number d) (stored_body d) store) 16 ∷ [] in
        let s = body_content (stored_body d) in
        let q = body_parameters (stored_body d) in
        plainly o c (is_number (stored_number d)) 17 (test (good_parameters q) 9 ∷ content_test s ∷ room) refl
        (plainly o c (good_parameters q) 9 (content_test s ∷ room) refl
        (ten_there o c s room (rw (eqb-true i 0x1C e) (drop-drop 37 1 d)) (all_plainly o c room refl)))

    edited_there : valid p ≡ true → There (edit_message p d)
    unfolding obeyed edit_message
    edited_there v =
        let o = edit_message p d in
        let j = jet_in p d in
        unless_tells (TellsWhere p i d) (on_printer p d) (refusal p (plain 8) c) _ (λ _. elsewhere (refusal p (plain 8) c) refl) (λ on.
        unless_tells (TellsWhere p i d) (has_message j) (refusal p (plain 11) c) _ (λ _. elsewhere (refusal p (plain 11) c) refl) (λ some.
        edit_there o c (message j) refl
        (content_good (message j) (jet_content _ j (valid_at p (jet_number d) v (on_row p.model (jet_number d) on).0) some)).1))

    order_there : (store : List ℕ) → valid p ≡ true → There (order p store i d)
    unfolding select_message set_parameters ask_counter ask_message ask_table ask_clock print
    order_there store v =
        order_case There p store i d (store_there store) (λ _. none_there (select_message p store d) refl) (λ _.
        printer_order_case There p i d message_there (λ _. none_there (set_parameters p d) refl) both_there
        (λ _. none_there (ask_counter p d) refl) (λ _. edited_there v) (λ _. none_there (ask_message p d) refl)
        (λ _. none_there (ask_table p) refl) (λ _. none_there (print p) refl) (λ _ _. none_there (ask_clock p) refl))

pub frame_tells_where : FrameTellsWhere
unfolding outcome
frame_tells_where m store s i n c v w e =
    rw (v, w, e) (order_there (printer_of m) i (take n (drop 3 s)) c store (valid_printer m v))
