-- What the tests say of an answer: its number and place are those of the first that fails, and a strip's length is that of the bytes written.
use Prim.Native.Nat.{ℕ}
use mathlib.Core.Bool.{Bool, true, false}
use mathlib.Core.List.{List}
use mathlib.Core.Path.{◌≡◌, refl, sym, ◌∙◌, ap, subst}
use Rattle.std.specs.Prelude.{Result, Ok, Err}
use native.Mathlib.Omega.{arith}
use lib.ListN.{length}
use Rattle.frame.specs.Ground.{Test, over, placed, plain}
use Rattle.frame.specs.declared.given.Given.{Given}
use Rattle.frame.specs.Given.{given_in, given_of}
use Rattle.frame.specs.declared.given.Refusal.{Refusal}
use Rattle.frame.specs.declared.given.Refusal.TheVariants.{BadState, ShortBuffer, NotWhole, TooLong, WrongCheck, UnknownIdentifier, WrongLength, NoSuchJet, NoSuchMessage, BadParameters, NoContent, NoRoom, Missing, WrongCount, NoPosition, NoCharacter, NoSuchType, NoSuchMoment}
use Rattle.frame.specs.Build.{Built, given_by, length_given}
use Rattle.content.specs.Content.{Tests, is_content, tested, wrong_place}
use Rattle.content.specs.Edit as edits
use Rattle.content.specs.Edit.{Edited, done}
use Rattle.content.specs.Update as updates
use Rattle.content.specs.Position.{field_positions}
use Rattle.content.specs.Strip.{Gives, strip, strip_bytes, stripped}
use Rattle.content.specs.declared.strip.Values.{Values}
use Rattle.frame.proofs.Ground.{checked_case, checked_map}

-- What the test gives tells whether the bytes are a content.
module _ {s : List ℕ} {g : Given} (t : Tests s g) where
  pub test_accepts : g.number ≡ 0 → (is_content s ≡ true) × (g ≡ plain 0)
  unfolding tested
  test_accepts f = go (is_content s) refl
    where
      go : (b : Bool) → is_content s ≡ b → (b ≡ true) × (g ≡ plain 0)
      go true q = (refl, t.answer ∙ rw q)
      go false q = let n : g.number ≡ 10 = ap (λ (x : Given). x.number) t.answer ∙ rw q in absurd (omega (arith, f, n))

  pub test_refuses : (g.number ≡ 0 → ⊥) → (is_content s ≡ false) × (g ≡ placed 10 (wrong_place s))
  unfolding tested
  test_refuses f = go (is_content s) refl
    where
      go : (b : Bool) → is_content s ≡ b → (b ≡ false) × (g ≡ placed 10 (wrong_place s))
      go false q = (refl, t.answer ∙ rw q)
      go true q = absurd (f (ap (λ (x : Given). x.number) t.answer ∙ rw q))

-- The same of a refusal by its name.
refused : (why : Refusal) → (given_of why).number ≡ 0 → ⊥
refused BadState e = omega arith
refused ShortBuffer e = omega arith
refused NotWhole e = omega arith
refused TooLong e = omega arith
refused WrongCheck e = omega arith
refused UnknownIdentifier e = omega arith
refused WrongLength e = omega arith
refused NoSuchJet e = omega arith
refused NoSuchMessage e = omega arith
refused BadParameters e = omega arith
refused (NoContent i) e = omega arith
refused NoRoom e = omega arith
refused Missing e = omega arith
refused WrongCount e = omega arith
refused (NoPosition i) e = omega arith
refused (NoCharacter i) e = omega arith
refused NoSuchType e = omega arith
refused NoSuchMoment e = omega arith

module _ {s : List ℕ} {r : Result Unit Refusal} (t : Tests s (given_in r)) where
  pub test_passes : {u : Unit} → r ≡ Ok u → is_content s ≡ true
  test_passes e = (test_accepts t (ap (λ (x : Result Unit Refusal). (given_in x).number) e)).0

  pub test_fails : {why : Refusal} → r ≡ Err why → (is_content s ≡ false) × (given_of why ≡ placed 10 (wrong_place s))
  test_fails {why} e =
      let g : given_in r ≡ given_of why = ap given_in e in
      let h = test_refuses t (λ n. refused why (ap (λ (x : Given). x.number) (sym g) ∙ n)) in
      (h.0, sym g ∙ h.1)

pub edit_told :
    (s : List ℕ) (address : ℕ) (symbols : List ℕ) {r : Edited} {after : List ℕ} → r ≡ edits.edited s address symbols →
    after ≡ edits.bytes_after r s address symbols → edits.Edits s address symbols r after
unfolding edits.edited
edit_told s address symbols e f =
    record { answer = e; first = ap given_by e ∙ checked_map given_by (edits.edit_tests s address symbols) (λ g. Err g) done; bytes = f }

pub update_told :
    (s text : List ℕ) {r : Edited} {after : List ℕ} → r ≡ updates.updated s text →
    after ≡ updates.bytes_after r s text → updates.Updates s text r after
unfolding updates.updated
update_told s text e f =
    record {
      answer = e;
      first = ap given_by e ∙ checked_map given_by (updates.update_tests (field_positions s) text) (λ g. Err g) done;
      bytes = f;
    }

pub strip_told :
    (tests : List Test) (v : Values) (s before : List ℕ) {r : Built} {after : List ℕ} → r ≡ stripped tests v s →
    after ≡ over (strip_bytes r v s) before → Gives tests v s before r after
unfolding stripped
strip_told tests v s before e f =
    record {
      answer = e;
      reports =
          record {
            first = ap given_by e ∙ checked_map given_by tests (λ g. Err g) (Ok (length (strip v s)));
            size =
                subst (λ (x : Built). length_given x ≡ length (strip_bytes x v s)) (sym e)
                (checked_case (λ (x : Built). length_given x ≡ length (strip_bytes x v s)) tests (λ g. Err g) (Ok (length (strip v s)))
                (λ t g. refl) (λ a. refl));
          };
      buffer = f;
    }
