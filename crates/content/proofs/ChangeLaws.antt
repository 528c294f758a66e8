-- A change of characters at character positions keeps verdict, marks and outline, and an accepted edit and an update are such changes and
-- change no other bytes.
use Prim.Native.Nat.{ℕ, zero, suc, ◌+◌, ◌-◌, ◌≤◌, ◌<◌}
use mathlib.Core.Bool.{true, false}
use mathlib.Core.List.{List, [], ◌∷◌, ◌++◌, append-nil}
use mathlib.Core.Path.{◌≡◌, refl, sym, ap, ◌∙◌}
use native.Mathlib.Nat.{add-zero, suc-add, zero-add}
use Rattle.std.specs.Prelude.{Err}
use native.Mathlib.Omega.{arith}
use borrow.Author.Tests.{eq-eqb, eqb-true}
use lib.Dec.{eqb}
use lib.ListN.{length, take, drop, get_or, length-append, length-take, length-drop, take-append-drop, get_or-append}
use lib.Seq.{drop-nil, length-take-le, get_or-append-add, get_or-take, get_or-drop}
use Rattle.content.specs.Byte.{is_character, all_characters}
use Rattle.content.specs.Machine.{Mode, start, step}
use Rattle.content.specs.Content.{good, is_content, verdict}
use Rattle.content.specs.Position.{at_fields, marks, mark_of, is_position, is_field_position, field_positions, field_positions_from}
use Rattle.content.specs.Edit.{done, addressed, edit_tests, edited, replaced}
use Rattle.content.specs.Marks.{tree_letters}
use Rattle.content.specs.Update.{laid, update_tests, updated}
use Rattle.content.specs.ChangeLaws.{Changed, none, kept, changed, Kept, ChangeKeeps, EditChanges, EditStaysContent, EditLands, EditAddresses, EditElsewhere, UpdateChanges, UpdateStaysContent, UpdateTaken, UpdateLands, UpdateLetters, UpdateElsewhere, MarksOfContent, PositionsOfContent, RefusedEditLeaves, RefusedUpdateLeaves, EditKeepsLength, UpdateKeepsLength}
use Rattle.content.specs.Tree.{tree_of}
use Rattle.content.specs.declared.position.Mark.{Mark}
use Rattle.content.specs.declared.position.Mark.TheVariants.{Structure, Character, FieldCharacter}
use Rattle.frame.proofs.Ground.{accepted_all, never, both_true, checked_refuses, pick_case}
use Rattle.content.proofs.Changes.{length_same, marks_same, no_structure, positions_same, read_same, rest_alike}
use Rattle.content.proofs.Laws.{correct, field_positions_from_tree, letters_from_tree, marks_from_tree}

pub refused_edit_leaves : RefusedEditLeaves
unfolding edited
refused_edit_leaves s address symbols e =
    let r = checked_refuses (edit_tests s address symbols) e in
    rw (r.gives (λ g. Err g) done)

pub refused_update_leaves : RefusedUpdateLeaves
unfolding updated
refused_update_leaves s text e =
    let r = checked_refuses (update_tests (field_positions s) text) e in
    rw (r.gives (λ g. Err g) done)

pub marks_of_content : MarksOfContent
marks_of_content s e = let t = correct s e in rw t.1 at (marks_from_tree (tree_of s) t.0)

pub positions_of_content : PositionsOfContent
positions_of_content s e = let t = correct s e in rw t.1 at (field_positions_from_tree (tree_of s) t.0)

letters_of_content : (s : List ℕ) → verdict s ≡ good → at_fields start s ≡ tree_letters (tree_of s)
letters_of_content s e = let t = correct s e in rw t.1 at (letters_from_tree (tree_of s) t.0)

pub change_keeps : ChangeKeeps
unfolding verdict tree_of
change_keeps s t h =
    record {
      length_kept = length_same h;
      verdict_kept = read_same 0 h;
      marks_kept = marks_same h;
      field_positions_kept = positions_same h;
      outline_kept = (rest_alike h).lines;
    }

-- A content so changed stays one.
stays_content : (s t : List ℕ) → Changed start s t → is_content s ≡ true → (is_content t ≡ true) × Kept s t
unfolding is_content
stays_content s t h e =
    let k = change_keeps s t h in
    (rw (k.length_kept, k.verdict_kept) e, k)

nothing_changed : (m : Mode) (s : List ℕ) → Changed m s s
nothing_changed m [] = none
nothing_changed m (b ∷ s) = kept (nothing_changed (step m b) s)

-- An edit with address 0, from any mode on.
laid_over : (m : Mode) (s symbols : List ℕ) → addressed symbols (marks m s) ≡ true → all_characters symbols ≡ true
    → Changed m s (symbols ++ drop (length symbols) s)
laid_over m s [] p q = nothing_changed m s
laid_over m [] (x ∷ xs) p q = never p
laid_over m (b ∷ s) (x ∷ xs) p q =
    let here = both_true (is_position (mark_of m b)) (addressed xs (marks (step m b) s)) p in
    let good = both_true (is_character x) (all_characters xs) q in
    changed here.0 good.0 (laid_over (step m b) s xs here.1 good.1)

replaced_changes : (m : Mode) (s : List ℕ) (address : ℕ) (symbols : List ℕ)
    → addressed symbols (drop address (marks m s)) ≡ true → all_characters symbols ≡ true → Changed m s (replaced s address symbols)
replaced_changes m s zero symbols p q = rw zero-add (laid_over m s symbols p q)
replaced_changes m [] (suc a) [] p q = rw drop-nil none
replaced_changes m [] (suc a) (x ∷ xs) p q = never p
replaced_changes m (b ∷ s) (suc a) symbols p q = rw suc-add (kept (replaced_changes (step m b) s a symbols p q))

-- What the tests of an accepted edit came to.
edit_tells :
    (s : List ℕ) (address : ℕ) (symbols : List ℕ) → edited s address symbols ≡ done →
    (addressed symbols (drop address (marks start s)) ≡ true) × (all_characters symbols ≡ true)
unfolding edited
edit_tells s address symbols e =
    let h = both_true (addressed symbols (drop address (marks start s))) _ (accepted_all (edit_tests s address symbols) (λ g. Err g) done (λ g q. never (cc)) e) in
    (h.0, (both_true (all_characters symbols) true h.1).0)

pub edit_changes : EditChanges
edit_changes s address symbols e =
    let h = edit_tells s address symbols e in
    replaced_changes start s address symbols h.0 h.1

pub edit_stays_content : EditStaysContent
edit_stays_content s address symbols c e = stays_content s _ (edit_changes s address symbols e) c

pub edit_keeps_length : EditKeepsLength
edit_keeps_length s address symbols e = (change_keeps s _ (edit_changes s address symbols e)).length_kept

pub addressed_at :
    (symbols : List ℕ) (ms : List Mark) (k : ℕ) → addressed symbols ms ≡ true → k < length symbols →
    is_position (get_or ms k Structure) ≡ true
addressed_at [] ms k e h = absurd (omega arith)
addressed_at (x ∷ xs) [] k e h = never e
addressed_at (x ∷ xs) (m ∷ ms) zero e h = (both_true (is_position m) (addressed xs ms) e).0
addressed_at (x ∷ xs) (m ∷ ms) (suc k) e h = addressed_at xs ms k (both_true (is_position m) (addressed xs ms) e).1 (omega arith)

pub edit_addresses : EditAddresses
edit_addresses s address symbols k v e h =
    let t = edit_tells s address symbols e in
    rw (← marks_of_content s v, ← get_or-drop address (marks start s) k Structure) (addressed_at symbols (drop address (marks start s)) k t.0 h)

-- Where the length stays, symbols lie within it.
symbols_fit :
    (s : List ℕ) (a : ℕ) (xs : List ℕ) → length (replaced s a xs) ≡ length s → 1 ≤ length xs → a + length xs ≤ length s
symbols_fit s a xs e h = omega (arith, simp (length-append, length-take, length-drop) at e)

-- No symbols replace nothing, wherever they are addressed to.
nothing_replaced : (s : List ℕ) (a : ℕ) → replaced s a [] ≡ s
nothing_replaced s a = rw (add-zero, append-nil (take a s)) (take-append-drop a s)

module _ (s : List ℕ) (a : ℕ) (xs : List ℕ) (fits : a + length xs ≤ length s) where
  front : length (take a s) ≡ a
  front = length-take-le a s (omega arith)

  front_and_symbols : length (take a s ++ xs) ≡ a + length xs
  front_and_symbols = rw (length-append, front)

  at_symbol : (k : ℕ) → k < length xs → get_or (replaced s a xs) (a + k) 0 ≡ get_or xs k 0
  at_symbol k h =
      get_or-append (take a s ++ xs) _ 0 (a + k) (omega (arith, front_and_symbols)) ∙ rw front at (get_or-append-add (take a s) xs k 0)

  before_symbols : (i : ℕ) → i < a → get_or (replaced s a xs) i 0 ≡ get_or s i 0
  before_symbols i h =
      get_or-append (take a s ++ xs) _ 0 i (omega (arith, front_and_symbols))
      ∙ get_or-append (take a s) xs 0 i (omega (arith, front))
      ∙ get_or-take a s i 0 h

  behind_symbols : (i : ℕ) → a + length xs ≤ i → get_or (replaced s a xs) i 0 ≡ get_or s i 0
  behind_symbols i h =
      let n = a + length xs in
      let e : i ≡ n + (i - n) = omega arith in
      rw e (rw front_and_symbols at (get_or-append-add (take a s ++ xs) (drop n s) (i - n) 0) ∙ get_or-drop n s (i - n) 0)

pub edit_lands : EditLands
edit_lands s address symbols k e h =
    at_symbol s address symbols (symbols_fit s address symbols (edit_keeps_length s address symbols e) (omega arith)) k h

pub edit_elsewhere : EditElsewhere
edit_elsewhere s address [] i e = rw nothing_replaced ((λ h. refl), (λ h. refl))
edit_elsewhere s address (x ∷ xs) i e =
    let fits = symbols_fit s address (x ∷ xs) (edit_keeps_length s address (x ∷ xs) e) (omega arith) in
    (before_symbols s address (x ∷ xs) fits i, behind_symbols s address (x ∷ xs) fits i)

field_is_position : (k : Mark) → is_field_position k ≡ true → is_position k ≡ true
field_is_position Structure e = e
field_is_position Character e = never e
field_is_position FieldCharacter e = e

laid_changes : (m : Mode) (s text : List ℕ) → all_characters text ≡ true → Changed m s (laid text m s)
laid_changes m s [] e = nothing_changed m s
laid_changes m [] (c ∷ text) e = none
laid_changes m (b ∷ s) (c ∷ text) e =
    let good = both_true (is_character c) (all_characters text) e in
    pick_case (λ (t : List ℕ). Changed m (b ∷ s) t) (is_field_position (mark_of m b)) _ _
    (λ p. changed (field_is_position (mark_of m b) p) good.0 (laid_changes (step m b) s text good.1))
    (λ p. kept (laid_changes (step m b) s (c ∷ text) e))

pub update_changes : UpdateChanges
update_changes s text e = laid_changes start s text e

pub update_stays_content : UpdateStaysContent
update_stays_content s text c e = stays_content s _ (update_changes s text e) c

-- What the tests of an update came to, both ways.
pub update_tells : (s text : List ℕ) → updated s text ≡ done → (length text ≡ field_positions s) × (all_characters text ≡ true)
unfolding updated
update_tells s text e =
    let h = both_true (eqb (length text) (field_positions s)) _ (accepted_all (update_tests (field_positions s) text) (λ g. Err g) done (λ g q. never (cc)) e) in
    (eqb-true (length text) (field_positions s) h.0, (both_true (all_characters text) true h.1).0)

pub update_taken_where : (s text : List ℕ) → length text ≡ field_positions s → all_characters text ≡ true → updated s text ≡ done
unfolding updated
update_taken_where s text n c = rw (eq-eqb (length text) (field_positions s) n, c)

pub update_taken : UpdateTaken
update_taken s text e =
    let n = positions_of_content s e in (
      (λ p. let h = update_tells s text p in (h.0 ∙ n, h.1)),
      (λ h. update_taken_where s text (h.0 ∙ sym n) h.1),
    )

none_left : {A : Type 0} (n : ℕ) → 0 ≡ 1 + n → A
none_left n e = absurd (omega arith)

one_more : (k n : ℕ) → suc k ≡ 1 + n → k ≡ n
one_more k n e = omega arith

-- As many characters as positions: each position has its own.
laid_lands :
    (m : Mode) (s text : List ℕ) → length text ≡ field_positions_from m s → all_characters text ≡ true → at_fields m (laid text m s) ≡ text
laid_lands m [] [] n e = refl
laid_lands m [] (c ∷ text) n e = absurd (omega arith)
laid_lands m (b ∷ s) [] n e =
    pick_case (λ (t : List ℕ). t ≡ []) (is_field_position (mark_of m b)) _ _
    (λ p. none_left (field_positions_from (step m b) s) (rw p at n))
    (λ p. laid_lands (step m b) s [] (rw (p, zero-add) at n) e)
laid_lands m (b ∷ s) (c ∷ text) n e =
    let good = both_true (is_character c) (all_characters text) e in
    pick_case (λ (t : List ℕ). at_fields m t ≡ c ∷ text) (is_field_position (mark_of m b)) _ _
    (λ p.
    let same = no_structure m b c (field_is_position (mark_of m b) p) good.0 in
    rw (same.0, same.1, p) (ap (◌∷◌ c) (laid_lands (step m b) s text (one_more (length text) (field_positions_from (step m b) s) (rw p at n)) good.1)))
    (λ p. rw p (laid_lands (step m b) s (c ∷ text) (rw (p, zero-add) at n) e))

pub update_lands : UpdateLands
update_lands s text e =
    let h = update_tells s text e in
    laid_lands start s text h.0 h.1

pub update_letters : UpdateLetters
update_letters s text e c =
    let k = change_keeps s _ (update_changes s text (update_tells s text c).1) in
    sym (letters_of_content (laid text start s) (k.verdict_kept ∙ e)) ∙ update_lands s text c

laid_length : (m : Mode) (s text : List ℕ) → length (laid text m s) ≡ length s
laid_length m s [] = refl
laid_length m [] (c ∷ text) = refl
laid_length m (b ∷ s) (c ∷ text) =
    pick_case (λ (t : List ℕ). length t ≡ suc (length s)) (is_field_position (mark_of m b)) _ _
    (λ p. ap suc (laid_length (step m b) s text))
    (λ p. ap suc (laid_length (step m b) s (c ∷ text)))

pub update_keeps_length : UpdateKeepsLength
update_keeps_length s text = laid_length start s text

laid_elsewhere : (m : Mode) (s text : List ℕ) (i : ℕ) → is_field_position (get_or (marks m s) i Structure) ≡ false
    → get_or (laid text m s) i 0 ≡ get_or s i 0
laid_elsewhere m s [] i e = refl
laid_elsewhere m [] (c ∷ text) i e = refl
laid_elsewhere m (b ∷ s) (c ∷ text) zero e = rw e
laid_elsewhere m (b ∷ s) (c ∷ text) (suc i) e =
    pick_case (λ (t : List ℕ). get_or t (suc i) 0 ≡ get_or s i 0) (is_field_position (mark_of m b)) _ _
    (λ p. laid_elsewhere (step m b) s text i e)
    (λ p. laid_elsewhere (step m b) s (c ∷ text) i e)

pub update_elsewhere : UpdateElsewhere
update_elsewhere s text i e = laid_elsewhere start s text i e
