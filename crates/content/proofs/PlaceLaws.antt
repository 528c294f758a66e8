-- The place that each refusal carries is the one that the grammar names, both ways.
use Prim.Native.Nat.{ℕ, zero, suc, ◌+◌, ◌-◌, ◌<◌}
use mathlib.Core.Bool.{Bool, true, false}
use mathlib.Core.List.{List, [], ◌∷◌}
use mathlib.Core.Logic.{◌↔◌, ◌⊎◌, inl, inr}
use mathlib.Core.Path.{◌≡◌, refl, sym, ◌∙◌, ap, subst}
use Rattle.std.specs.Prelude.{Ok, Err, Some}
use native.Mathlib.Numerals.{one-add}
use Rattle.std.specs.List.{prefix_len}
use native.Mathlib.Omega.{arith}
use borrow.Author.Tests.{eq-eqb, eqb-true, le-leb, lt-leb, leb-true, leb-false, ltb-true, ltb-false}
use lib.Dec.{eqb, leb, ltb}
use lib.ListN.{length, get_or, drop}
use lib.Seq.{get_or-drop}
use Rattle.frame.specs.Build.{given_by}
use Rattle.frame.specs.Ground.{both, given, pick, placed, plain, unless}
use Rattle.frame.specs.declared.given.Given.{Given}
use Rattle.frame.proofs.Ground.{never, true_both}
use Rattle.content.specs.Byte.{all_characters, is_character}
use Rattle.content.specs.Content.{Verdict, good, is_content, is_good, tested, unfit_place, verdict, wrong_place}
use Rattle.content.specs.Edit.{addressed, astray, edited}
use Rattle.content.specs.Marks.{tree_letters, tree_marks}
use Rattle.content.specs.PlaceLaws.{TenAt, TestedThere, TestedGood, FirstAstray, EditAstray, FirstOther, OnCharacters, EditOther, UpdateOther}
use Rattle.content.specs.Position.{field_positions, is_position}
use Rattle.content.specs.Tree.{tree_of}
use Rattle.content.specs.Update.{update_tests, updated}
use Rattle.content.specs.declared.position.Mark.{Mark}
use Rattle.content.specs.declared.position.Mark.TheVariants.{Structure}
use Rattle.content.proofs.ChangeLaws.{addressed_at, marks_of_content, positions_of_content}
use Rattle.content.proofs.Front.{some_other}
use Rattle.content.proofs.Hopeless.{unfit_there}
use Rattle.content.proofs.Laws.{correct, complete}
use Rattle.content.proofs.Stretches.{lands, all_land, one_strays, from_address, all_addressed, strays_at, strayed_at}
use Rattle.content.proofs.Told.{edit_told, update_told}

same_number : {g h : Given} → g ≡ h → g.number ≡ h.number
same_number e = ap (λ (g : Given). g.number) e

same_place : (n i k : ℕ) → placed n i ≡ placed n k → k ≡ i
same_place n i k e = let w : Some i ≡ Some k = ap (λ (g : Given). g.place) e in cc

-- ---- 10: what the test gives, by the length and the verdict.
abbrev comes_to : Bool → Verdict → Given
comes_to t v = unless (both t (is_good v)) (placed 10 (pick t (unfit_place v) 512)) (plain 0)

ten : (t : Bool) (v : Verdict) (i : ℕ) → comes_to t v ≡ placed 10 i → ((t ≡ false) × (i ≡ 512)) ⊎ ((t ≡ true) × (v ≡ Err i))
ten false v i e = inl (refl, same_place 10 512 i e)
ten true (Ok u) i e = absurd (omega (arith, same_number e))
ten true (Err j) i e = inr (refl, ap (λ (j : ℕ). Err j) (sym (same_place 10 j i e)))

zero_given : (t : Bool) (v : Verdict) → comes_to t v ≡ plain 0 → (t ≡ true) × (v ≡ good)
zero_given false v e = absurd (omega (arith, same_number e))
zero_given true (Ok u) e = (refl, refl)
zero_given true (Err j) e = absurd (omega (arith, same_number e))

pub tested_there : TestedThere
unfolding tested is_content wrong_place
tested_there s i = ((λ e. go (ten (leb (length s) 512) (verdict s) i e)), back)
  where
    go : ((leb (length s) 512 ≡ false) × (i ≡ 512)) ⊎ ((leb (length s) 512 ≡ true) × (verdict s ≡ Err i)) → TenAt s i
    go (inl h) = inl (leb-false (length s) 512 h.0, h.1)
    go (inr h) = inr (leb-true (length s) 512 h.0, (unfit_there s i).0 h.1)

    back : TenAt s i → comes_to (leb (length s) 512) (verdict s) ≡ placed 10 i
    back (inl h) = rw (lt-leb (length s) 512 h.0, h.1)
    back (inr h) = rw (le-leb (length s) 512 h.0, (unfit_there s i).1 h.1)

pub tested_good : TestedGood
unfolding tested is_content wrong_place
tested_good s = (
  (λ e.
      let h = zero_given (leb (length s) 512) (verdict s) e in
      let c = correct s h.1 in
      (leb-true (length s) 512 h.0, (tree_of s, c.0, c.1))),
  (λ h. rw (le-leb (length s) 512 h.0, ap verdict (sym h.1.2) ∙ complete h.1.0 h.1.1)),
)

-- ---- Of n numbers that are tested all pass, or there is a first that fails.
abbrev AllPass : (ℕ → Bool) → ℕ → Type 0
AllPass f n = (k : ℕ) → k < n → f k ≡ true

abbrev Fails : (ℕ → Bool) → ℕ → ℕ → Type 0
Fails f n i = (i < n) × (f i ≡ false) × AllPass f i

abbrev Searched : (ℕ → Bool) → ℕ → Type 0
Searched f n = AllPass f n ⊎ ((i : ℕ) × Fails f n i)

first : (f : ℕ → Bool) (n : ℕ) → Searched f n
first f zero = inl (λ k h. absurd (omega arith))
first f (suc n) = go (f n) refl (first f n)
  where
    go : (t : Bool) → f n ≡ t → Searched f n → Searched f (suc n)
    go t e (inr x) = inr (x.0, (omega (arith, x.1.0), x.1.1, x.1.2))
    go false e (inl h) = inr (n, (omega arith, e, h))
    go true e (inl h) = inl (λ k l. one k l (ltb k n) refl)
      where
        one : (k : ℕ) → k < suc n → (t : Bool) → ltb k n ≡ t → f k ≡ true
        one k l true q = h k (ltb-true k n q)
        one k l false q = let g : k ≡ n = omega (arith, ltb-false k n q) in rw g e

-- ---- 13: the first byte that is no character.
abbrev character_at : List ℕ → ℕ → Bool
character_at s i = is_character (get_or s i 0)

other_in_front : (s : List ℕ) (i : ℕ) → i < length s → character_at s i ≡ false → AllPass (character_at s) i → prefix_len is_character s ≡ i
other_in_front [] i h e l = absurd (omega arith)
other_in_front (b ∷ s) zero h e l = rw e
other_in_front (b ∷ s) (suc i) h e l = rw (l 0 (omega arith), one-add) (ap suc (other_in_front s i (omega arith) e (λ k g. l (suc k) (omega arith))))

all_are : (s : List ℕ) → AllPass (character_at s) (length s) → all_characters s ≡ true
all_are [] h = refl
all_are (b ∷ s) h = true_both (is_character b) (all_characters s) (h 0 (omega arith)) (all_are s (λ k g. h (suc k) (omega arith)))

pub first_other : (s : List ℕ) (i : ℕ) → FirstOther s i ↔ ((i ≡ prefix_len is_character s) × (all_characters s ≡ false))
first_other s i = (there i, (λ h. back h (first (character_at s) (length s))))
  where
    there : (j : ℕ) → FirstOther s j → (j ≡ prefix_len is_character s) × (all_characters s ≡ false)
    there j f =
        let e = other_in_front s j f.inside f.other f.least in
        (sym e, some_other s (rw e f.inside))

    back : (i ≡ prefix_len is_character s) × (all_characters s ≡ false) → Searched (character_at s) (length s) → FirstOther s i
    back h (inl a) = never (sym h.1 ∙ all_are s a)
    back h (inr x) =
        let f : FirstOther s x.0 = record { inside = x.1.0; other = x.1.1; least = x.1.2 } in
        subst (FirstOther s) ((there x.0 f).0 ∙ sym h.0) f

-- The second of two tests gives 13 where the first holds and it fails.
thirteen : (x y : Bool) (g : Given) (k i : ℕ) → (g.number ≡ 13 → ⊥) → unless x g (unless y (placed 13 k) (plain 0)) ≡ placed 13 i → (x ≡ true) × (i ≡ k) × (y ≡ false)
thirteen true true g k i n e = absurd (omega (arith, same_number e))
thirteen true false g k i n e = (refl, same_place 13 k i e, refl)
thirteen false y g k i n e = absurd (n (same_number e))

-- ---- 12: the first address astray.
twelve : (x y : Bool) (n k i : ℕ) → unless x (placed 12 n) (unless y (placed 13 k) (plain 0)) ≡ placed 12 i → (x ≡ false) × (i ≡ n)
twelve true true n k i e = absurd (omega (arith, same_number e))
twelve true false n k i e = absurd (omega (arith, same_number e))
twelve false y n k i e = (refl, same_place 12 n i e)

-- ---- Edits, by the marks of the tree.
module _ (s : List ℕ) (address : ℕ) (symbols : List ℕ) (i : ℕ) where
  abbrev all-marks : List Mark
  all-marks = tree_marks (tree_of s)

  abbrev there : List Mark
  there = drop address all-marks

  strays_first : i ≡ astray address symbols there → addressed symbols there ≡ false → FirstAstray s address (length symbols) i
  strays_first e f = go (first (lands there) (length symbols))
    where
      go : Searched (lands there) (length symbols) → FirstAstray s address (length symbols) i
      go (inl h) = never (sym f ∙ all_land symbols there h)
      go (inr x) =
          let q : i ≡ address + x.0 = e ∙ (strayed_at address symbols there (one_strays symbols there address x.0 x.1.0 x.1.1 x.1.2)).1 in
          record {
            behind = omega (arith, q);
            before = omega (arith, q, x.1.0);
            astray = rw q (ap is_position (sym (get_or-drop address all-marks x.0 Structure)) ∙ x.1.1);
            least = λ k a b. sym (from_address all-marks address k a) ∙ x.1.2 (k - address) (omega (arith, q, a, b));
          }

  abbrev given-there : Given
  given-there = unless (addressed symbols there) (placed 12 (astray address symbols there)) (unless (all_characters symbols) (placed 13 (prefix_len is_character symbols)) (plain 0))

  module _ (v : verdict s ≡ good) where
    edit_given : {g : Given} → edited s address symbols ≡ Err g → given-there ≡ g
    edit_given e = rw (← marks_of_content s v) (sym (edit_told s address symbols {r = edited s address symbols} refl refl).first ∙ ap given_by e)

    astray_there : edited s address symbols ≡ Err (placed 12 i) → FirstAstray s address (length symbols) i
    astray_there e = let t = twelve (addressed symbols there) (all_characters symbols) (astray address symbols there) (prefix_len is_character symbols) i (edit_given e) in strays_first t.1 t.0

    astray_back : FirstAstray s address (length symbols) i → edited s address symbols ≡ Err (placed 12 i)
    unfolding edited
    astray_back f =
        let t = strayed_at address symbols there (strays_at all-marks address symbols i f.behind f.before f.astray f.least) in
        rw (marks_of_content s v, t.0, t.1)

    other_there : edited s address symbols ≡ Err (placed 13 i) → OnCharacters s address (length symbols) × FirstOther symbols i
    other_there e =
        let t = thirteen (addressed symbols there) (all_characters symbols) (placed 12 (astray address symbols there)) (prefix_len is_character symbols) i (λ n. omega arith) (edit_given e) in (
          (λ k a b. sym (from_address all-marks address k a) ∙ addressed_at symbols there (k - address) t.0 (omega arith)),
          (first_other symbols i).1 (t.1, t.2),
        )

    other_back : OnCharacters s address (length symbols) × FirstOther symbols i → edited s address symbols ≡ Err (placed 13 i)
    unfolding edited
    other_back h =
        let t = (first_other symbols i).0 h.1 in
        rw (marks_of_content s v, all_addressed all-marks address symbols h.0, t.1, t.0)

pub edit_astray : EditAstray
edit_astray s address symbols i v = (astray_there s address symbols i v, astray_back s address symbols i v)

pub edit_other : EditOther
edit_other s address symbols i v = (other_there s address symbols i v, other_back s address symbols i v)

pub update_other : UpdateOther
unfolding updated
update_other s text i v = (there, back)
  where
    n : field_positions s ≡ length (tree_letters (tree_of s))
    n = positions_of_content s v

    there : updated s text ≡ Err (placed 13 i) → (length text ≡ length (tree_letters (tree_of s))) × FirstOther text i
    there e =
        let g : given (update_tests (field_positions s) text) ≡ placed 13 i = sym (update_told s text {r = updated s text} refl refl).first ∙ ap given_by e in
        let t = thirteen (eqb (length text) (field_positions s)) (all_characters text) (plain 18) (prefix_len is_character text) i (λ n. omega arith) g in
        (eqb-true _ _ t.0 ∙ n, (first_other text i).1 (t.1, t.2))

    back : (length text ≡ length (tree_letters (tree_of s))) × FirstOther text i → updated s text ≡ Err (placed 13 i)
    back h =
        let t = (first_other text i).0 h.1 in
        rw (eq-eqb (length text) (field_positions s) (h.0 ∙ sym n), t.1, t.0)
