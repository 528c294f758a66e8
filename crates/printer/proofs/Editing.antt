-- Why edits and updates change only what they address: an accepted 42h puts the edited message on its jet, an accepted update the updated
-- messages on the jets of head 1, and the laws of contents say which bytes these change.
use Prim.Native.Nat.{ℕ, zero, suc, ◌+◌, ◌-◌, ◌≤◌, ◌<◌}
use mathlib.Core.Bool.{Bool, true, false}
use mathlib.Core.List.{List, [], ◌∷◌, ◌++◌}
use mathlib.Core.Path.{◌≡◌, refl, sym, subst, ap, ap₂, ◌∙◌}
use native.Mathlib.Omega.{arith}
use borrow.Author.Tests.{ne_eqb, eqb-true, eqb-false, leb-true, leb-false, lt-ltb, ltb-true, ltb-false}
use lib.Dec.{eqb, leb, ltb}
use lib.ListN.{length, get_or, take, drop, length-set, length-drop, take-append-drop}
use lib.Seq.{length-take-le, take-append_seam}
use Rattle.frame.specs.Ground.{both, all, given, pick, unless}
use Rattle.frame.specs.declared.given.Given.{Given}
use Rattle.frame.specs.Receive.{received}
use Rattle.frame.specs.declared.receive.Received.TheVariants.{Update, Frame}
use Rattle.frame.proofs.Laws as frame-laws
use Rattle.frame.proofs.Ground.{both_true, given_number, within_true}
use Rattle.content.specs.Byte.{all_characters}
use Rattle.content.specs.Machine.{start}
use Rattle.content.specs.Content.{good, verdict}
use Rattle.content.specs.Position.{field_positions, is_field_position, marks}
use Rattle.content.specs.Edit.{replaced}
use Rattle.content.specs.Marks.{tree_letters, tree_marks}
use Rattle.content.specs.Tree.{tree_of}
use Rattle.content.specs.Update.{laid}
use Rattle.content.specs.declared.position.Mark.{Mark}
use Rattle.content.specs.declared.position.Mark.TheVariants.{Structure}
use Rattle.content.proofs.ChangeLaws.{edit_addresses, edit_elsewhere, edit_keeps_length, marks_of_content, positions_of_content, update_elsewhere, update_keeps_length, update_letters, update_taken_where}
use Rattle.printer.specs.Jet.{Jet, has_message, message}
use Rattle.printer.specs.State.{Printer, jet_at, with_jet, printer_of, valid, valid_state}
use Rattle.printer.specs.Order.{Order, jet_number}
use Rattle.printer.specs.Change.{address_in, edited_jet, positions, updated_jet, first_of_head, second_of_head, head_positions, edit_message, update_fields, updated_head}
use Rattle.printer.specs.Messages.{valid_store}
use Rattle.printer.specs.Receive.{Outcome, outcome, obeyed, done, printer_order, order}
use Rattle.printer.specs.OrderLaws.{numbered}
use Rattle.printer.specs.Demands.{full, SameButMessage, letters, Edited, EditsOnlyAddressed, Updated, UpdatesOnlyFields, update_number, UpdateNumbered}
use Rattle.printer.proofs.PrintLaws.{content_good, none_empty}
use Rattle.printer.proofs.Valid.{on_row, four_jets, jet_content, valid_at, valid_printer}
use Rattle.printer.proofs.StateLaws.{jet_at_with_jet, jet_at_other, message_of}
use Rattle.printer.proofs.OrderLaws.{obeyed_done, obeyed_refused, obeyed_given, obeyed_consumes, given_exactly, fields_numbered, EditTests, edit_tells, characters_before, characters_behind, UpdateTests, update_tells}

-- ---- What an accepted order leaves.
-- All tests of what is accepted hold, and it is done.
pub obeyed_accepted : (p : Printer) (o : Order) (consumed : ℕ) → numbered o.tests ≡ true → (obeyed p o consumed).number ≡ 0
    → (all o.tests ≡ true) × (obeyed p o consumed ≡ done o consumed)
obeyed_accepted p o consumed n z = go (all o.tests) refl
  where
    go : (t : Bool) → all o.tests ≡ t → (all o.tests ≡ true) × (obeyed p o consumed ≡ done o consumed)
    go true e = (e, obeyed_done p o consumed e)
    go false e =
        let g : 8 ≤ (given o.tests).number = (given_exactly o.tests n).1 e in
        let q : (obeyed p o consumed).number ≡ (given o.tests).number = ap (λ (x : Outcome). x.number) (obeyed_refused p o consumed e) in
        absurd (omega arith)

-- So what is true of the state behind an order whose tests hold is true of what is left, where what is handed in was obeyed and accepted.
accepted_leaves : (P : Printer → Type 0) (m store s : List ℕ) (o : Order) (consumed : ℕ) → numbered o.tests ≡ true
    → outcome m (full store s) ≡ obeyed (printer_of m) o consumed → (outcome m (full store s)).number ≡ 0 → (all o.tests ≡ true → P o.after)
    → P (outcome m (full store s)).printer
accepted_leaves P m store s o consumed n e z f =
    let a = obeyed_accepted (printer_of m) o consumed n (rw e at z) in
    rw (e, a.1) (f a.0)

-- ---- Jets that are replaced.
-- When a jet is put in a place, the jet of a number is the new one or the one before.
pub put_jet : (P : Jet → Type 0) (p : Printer) (n jet : ℕ) (j : Jet) → 1 ≤ n → n ≤ length p.jets → 1 ≤ jet
    → (n ≡ jet → P j) → ((n ≡ jet → ⊥) → P (jet_at p jet)) → P (jet_at (with_jet p n j) jet)
put_jet P p n jet j h g k new old = go (eqb n jet) refl
  where
    go : (t : Bool) → eqb n jet ≡ t → P (jet_at (with_jet p n j) jet)
    go true e =
        let q = eqb-true n jet e in
        subst (λ (k : ℕ). P (jet_at (with_jet p n j) k)) q (subst P (sym (jet_at_with_jet p n j h g)) (new q))
    go false e =
        let q = eqb-false n jet e in
        subst P (sym (jet_at_other p n jet j h k (λ x. q (sym x)))) (old q)

-- What is true of a jet beside itself and beside itself updated is true of each jet, before and after an update.
pub head_each : (R : Jet → Jet → Type 0) (p : Printer) (text : List ℕ) (jet : ℕ) → length p.jets ≡ 4 → all_characters text ≡ true → 1 ≤ jet
    → ((j : Jet) → R j j) → ((j : Jet) (t : List ℕ) → all_characters t ≡ true → R j (updated_jet j t))
    → R (jet_at p jet) (jet_at (updated_head p text) jet)
head_each R p text jet four c k same new =
    let a = first_of_head p in
    let front = take (positions a) text in
    let first = with_jet p 1 (updated_jet a front) in
    let many : length first.jets ≡ length p.jets = length-set p.jets 0 (updated_jet a front) in
    put_jet (R (jet_at p jet)) first 2 jet _ (omega arith) (omega arith) k
    (λ q. subst (λ (n : ℕ). R (jet_at p n) (updated_jet (second_of_head p) (drop (positions a) text))) q
    (new (second_of_head p) (drop (positions a) text) (characters_behind (positions a) text c)))
    (λ _. put_jet (R (jet_at p jet)) p 1 jet _ (omega arith) (omega arith) k
    (λ q. subst (λ (n : ℕ). R (jet_at p n) (updated_jet a front)) q (new a front (characters_before (positions a) text c))) (λ _. same (jet_at p jet)))

-- ---- An edit.
-- No message has no positions.
no_marks : (i : ℕ) → get_or (marks start []) i Structure ≡ get_or (tree_marks (tree_of [])) i Structure
unfolding tree_of
no_marks zero = refl
no_marks (suc i) = refl

no_count : field_positions [] ≡ length (tree_letters (tree_of []))
unfolding tree_of
no_count = refl

no_letters : (text : List ℕ) → length text ≡ field_positions [] → tree_letters (tree_of (laid text start [])) ≡ text
unfolding tree_of
no_letters [] n = refl
no_letters (c ∷ text) n = absurd (omega arith)

-- What is not among n places from a on stands before or behind them.
outside : (a n i : ℕ) (A : Type 0) → both (leb a i) (ltb i (a + n)) ≡ false → (i < a → A) × (a + n ≤ i → A) → A
outside a n i A e f = go (leb a i) refl e
  where
    go : (t : Bool) → leb a i ≡ t → both t (ltb i (a + n)) ≡ false → A
    go true h e = f.1 (ltb-false i (a + n) e)
    go false h e = f.0 (leb-false a i h)

-- What is among n places from a on stands so far behind the first.
inside : (a n i : ℕ) → both (leb a i) (ltb i (a + n)) ≡ true → (k : ℕ) × (a + k ≡ i) × (k < n)
inside a n i e =
    let h = both_true (leb a i) (ltb i (a + n)) e in
    let p = leb-true a i h.0 in
    let q = ltb-true i (a + n) h.1 in
    (i - a, omega arith, omega arith)

pub edit_edits : (p : Printer) (d : List ℕ) → length p.jets ≡ 4 → valid p ≡ true → EditTests p d → Edited p (edit_message p d).after d
unfolding edit_message
edit_edits p d four v x =
    let n = jet_number d in
    let r = on_row p.model n x.there in
    let s = message (jet_at p n) in
    let new = edited_jet (jet_at p n) (address_in d) (drop 3 d) in
    let here : jet_at (with_jet p n new) n ≡ new = jet_at_with_jet p n new r.0 (omega arith) in
    let there : message new ≡ replaced s (address_in d) (drop 3 d) = message_of (jet_at p n) (replaced s (address_in d) (drop 3 d)) in
    let both : message (jet_at (with_jet p n new) n) ≡ replaced s (address_in d) (drop 3 d) = ap message here ∙ there in
    record {
      model = refl;
      clock = refl;
      date_change = refl;
      others = λ jet w q. jet_at_other p n jet new r.0 (within_true 1 4 jet w).0 q;
      elsewhere = λ i o.
          ap (λ (l : List ℕ). get_or l i 0) both
          ∙ outside (address_in d) (length (drop 3 d)) i _ o (edit_elsewhere s (address_in d) (drop 3 d) i x.edits);
      characters = λ i o.
          let at = inside (address_in d) (length (drop 3 d)) i o in
          let good = (content_good s (jet_content _ (jet_at p n) (valid_at p n v r.0) x.some)).1 in
          rw at.1 at (edit_addresses s (address_in d) (drop 3 d) at.0 good x.edits at.2);
      as_long = ap length both ∙ edit_keeps_length s (address_in d) (drop 3 d) x.edits;
      rest = record { general = ap (λ (j : Jet). j.general) here; counter = ap (λ (j : Jet). j.counter) here };
    }

-- What is handed in does what the rule of 42h does.
edit_heard : (m store s : List ℕ) (n consumed : ℕ) → valid_state m ≡ true → valid_store store ≡ true → received s ≡ Frame 0x42 n consumed
    → outcome m (full store s) ≡ obeyed (printer_of m) (edit_message (printer_of m) (take n (drop 3 s))) consumed
unfolding outcome order printer_order
edit_heard m store s n consumed v w e = rw (v, w, e)

edit_numbered : (p : Printer) (d : List ℕ) → numbered (edit_message p d).tests ≡ true
unfolding edit_message
edit_numbered p d = refl

pub edits_only_addressed : EditsOnlyAddressed
edits_only_addressed m store s n consumed v w e z =
    let p = printer_of m in
    let d = take n (drop 3 s) in
    accepted_leaves (λ (q : Printer). Edited p q d) m store s (edit_message p d) consumed (edit_numbered p d) (edit_heard m store s n consumed v w e) z
    (λ t. edit_edits p d (four_jets m) (valid_printer m v) (edit_tells p d t))

-- ---- An update.
-- A jet has no message, or one that is read as good: so its tree says which positions an update changes, and what they become.
module _ (p : Printer) (n : ℕ) (v : valid p ≡ true) (on : 1 ≤ n) where
  message_case : (P : List ℕ → Type 0) → P [] → ((s : List ℕ) → verdict s ≡ good → P s) → P (message (jet_at p n))
  message_case P none some = go (has_message (jet_at p n)) refl
    where
      go : (t : Bool) → has_message (jet_at p n) ≡ t → P (message (jet_at p n))
      go true h = some (message (jet_at p n)) (content_good (message (jet_at p n)) (jet_content _ (jet_at p n) (valid_at p n v on) h)).1
      go false h = subst P (sym (none_empty (jet_at p n) h)) none

  same_marks : (i : ℕ) → get_or (marks start (message (jet_at p n))) i Structure ≡ get_or (tree_marks (tree_of (message (jet_at p n)))) i Structure
  same_marks =
      message_case (λ (s : List ℕ). (i : ℕ) → get_or (marks start s) i Structure ≡ get_or (tree_marks (tree_of s)) i Structure) no_marks
      (λ s e i. ap (λ (l : List Mark). get_or l i Structure) (marks_of_content s e))

  same_count : positions (jet_at p n) ≡ length (tree_letters (tree_of (message (jet_at p n))))
  same_count = message_case (λ (s : List ℕ). field_positions s ≡ length (tree_letters (tree_of s))) no_count positions_of_content

  -- As many characters as positions become the characters of the fields.
  letters_laid :
      (text : List ℕ) → length text ≡ positions (jet_at p n) → all_characters text ≡ true →
      tree_letters (tree_of (message (updated_jet (jet_at p n) text))) ≡ text
  letters_laid text many c =
      ap (λ (l : List ℕ). tree_letters (tree_of l)) (message_of (jet_at p n) (laid text start (message (jet_at p n))))
      ∙ message_case (λ (s : List ℕ). length text ≡ field_positions s → tree_letters (tree_of (laid text start s)) ≡ text)
      (no_letters text) (λ s e k. update_letters s text e (update_taken_where s text k c)) many

-- The jets of head 1 are jets 1 and 2.
on_head : (P : ℕ → Type 0) (jet : ℕ) → 1 ≤ jet → jet ≤ 2 → P 1 → P 2 → P jet
on_head P zero h g one two = absurd (omega arith)
on_head P (suc zero) h g one two = one
on_head P (suc (suc zero)) h g one two = two
on_head P (suc (suc (suc n))) h g one two = absurd (omega arith)

-- The fields on head 1 have as many characters as there are positions.
same_counts : (p : Printer) → valid p ≡ true → head_positions p ≡ length (letters p 1) + length (letters p 2)
same_counts p v = ap₂ ◌+◌ (same_count p 1 v (omega arith)) (same_count p 2 v (omega arith))

module _ (p : Printer) (text : List ℕ) (four : length p.jets ≡ 4) (v : valid p ≡ true) (t : UpdateTests p text) where
  -- The text in two parts, one for each jet, and the state between them.
  abbrev front : List ℕ
  front = take (positions (first_of_head p)) text

  abbrev behind : List ℕ
  behind = drop (positions (first_of_head p)) text

  abbrev first-put : Printer
  first-put = with_jet p 1 (updated_jet (first_of_head p) front)

  many : length first-put.jets ≡ length p.jets
  many = length-set p.jets 0 (updated_jet (first_of_head p) front)

  first_long : length front ≡ positions (first_of_head p)
  first_long = length-take-le _ text (omega (arith, t.as_many))

  second_long : length behind ≡ positions (second_of_head p)
  second_long = simp length-drop (omega (arith, t.as_many))

  -- What the fields of each jet become.
  first_letters : letters (updated_head p text) 1 ≡ front
  first_letters =
      ap (λ (j : Jet). tree_letters (tree_of (message j)))
      (jet_at_other first-put 2 1 _ (omega arith) (omega arith) (λ e. omega arith) ∙ jet_at_with_jet p 1 _ (omega arith) (omega arith))
      ∙ letters_laid p 1 v (omega arith) front first_long (characters_before (positions (first_of_head p)) text t.characters)

  second_letters : letters (updated_head p text) 2 ≡ behind
  second_letters =
      ap (λ (j : Jet). tree_letters (tree_of (message j))) (jet_at_with_jet first-put 2 _ (omega arith) (omega (arith, many)))
      ∙ letters_laid p 2 v (omega arith) behind second_long (characters_behind (positions (first_of_head p)) text t.characters)

  -- A jet's message, before and after.
  abbrev Elsewhere : Jet → Jet → Type 0
  Elsewhere j k = (i : ℕ) → is_field_position (get_or (marks start (message j)) i Structure) ≡ false → get_or (message k) i 0 ≡ get_or (message j) i 0

  pub update_updates : Updated p (update_fields p text).after text
  unfolding update_fields
  update_updates =
      record {
        model = refl;
        clock = refl;
        date_change = refl;
        second_head = λ jet w.
            let r = within_true 3 4 jet w in
            jet_at_other first-put 2 jet _ (omega arith) (omega arith) (λ e. omega arith)
            ∙ jet_at_other p 1 jet _ (omega arith) (omega arith) (λ e. omega arith);
        elsewhere = λ jet i w e.
            let on = (within_true 1 2 jet w).0 in
            head_each Elsewhere p text jet four t.characters on (λ j i e. refl)
            (λ j t _ i e. ap (λ (l : List ℕ). get_or l i 0) (message_of j (laid t start (message j))) ∙ update_elsewhere (message j) t i e) i
            (ap is_field_position (same_marks p jet v on i) ∙ e);
        as_many = t.as_many ∙ same_counts p v;
        lands = ap₂ ◌++◌ first_letters second_letters ∙ take-append-drop (positions (first_of_head p)) text;
        same_fields = λ jet w.
            let r = within_true 1 2 jet w in
            on_head (λ (n : ℕ). length (letters (updated_head p text) n) ≡ length (letters p n)) jet r.0 r.1
            (ap length first_letters ∙ first_long ∙ same_count p 1 v (omega arith))
            (ap length second_letters ∙ second_long ∙ same_count p 2 v (omega arith));
        as_long = λ jet w.
            head_each (λ (j k : Jet). length (message k) ≡ length (message j)) p text jet four t.characters (within_true 1 4 jet w).0 (λ j. refl)
            (λ j t _. ap length (message_of j (laid t start (message j))) ∙ update_keeps_length (message j) t);
        rest = λ jet w.
            head_each SameButMessage p text jet four t.characters (within_true 1 4 jet w).0
            (λ j. record { general = refl; counter = refl }) (λ j t _. record { general = refl; counter = refl });
      }

-- What is handed in does what the rule of an update does.
pub update_heard : (m store s : List ℕ) (n consumed : ℕ) → valid_state m ≡ true → valid_store store ≡ true → received s ≡ Update n consumed
    → outcome m (full store s) ≡ obeyed (printer_of m) (update_fields (printer_of m) (take n (drop 1 s))) consumed
unfolding outcome
update_heard m store s n consumed v w e = rw (v, w, e)

pub updates_only_fields : UpdatesOnlyFields
updates_only_fields m store s n consumed v w e z =
    let p = printer_of m in
    let text = take n (drop 1 s) in
    accepted_leaves (λ (q : Printer). Updated p q text) m store s (update_fields p text) consumed (fields_numbered p text) (update_heard m store s n consumed v w e) z
    (λ t. update_updates p text (four_jets m) (valid_printer m v) (update_tells p text t))

-- The tests of an update in the words of its number.
in_turn : (n : ℕ) (text : List ℕ) → unless (ltb 0 n) 11 (unless (eqb (length text) n) 18 (unless (all_characters text) 13 0)) ≡ update_number n text
in_turn zero text = refl
in_turn (suc n) text = rw (lt-ltb 0 (suc n) (omega arith), ne_eqb (suc n) 0 (λ z. omega arith)) (go (eqb (length text) (suc n)) (all_characters text))
  where
    go : (x y : Bool) → ◌≡◌ {A = ℕ} (unless x 18 (unless y 13 0)) (pick x (pick y 0 13) 18)
    go true true = refl
    go true false = refl
    go false y = refl

given_fields : (p : Printer) (text : List ℕ) → (given (update_fields p text).tests).number ≡ update_number (head_positions p) text
unfolding update_fields
given_fields p text = given_number (update_fields p text).tests ∙ in_turn (head_positions p) text

pub update_numbered : UpdateNumbered
update_numbered m store text rest v w h e =
    let p = printer_of m in
    let n = length text in
    rw (update_heard m store (0x02 ∷ text ++ (0x03 ∷ rest)) n (n + 2) v w (frame-laws.update_heard text rest h e), take-append_seam text (0x03 ∷ rest)) (
      ap (λ (g : Given). g.number) (obeyed_given p (update_fields p text) (n + 2)) ∙ given_fields p text ∙ ap (λ (k : ℕ). update_number k text) (same_counts p (valid_printer m v)),
      obeyed_consumes p (update_fields p text) (n + 2),
    )
