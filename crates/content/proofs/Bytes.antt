-- What tests tell: of two of them, of a choice, and of a single byte and its kind, where characters, expansions and codes are no marks.
use Prim.Native.Nat.{ℕ, ◌<◌}
use mathlib.Core.Bool.{Bool, true, false}
use mathlib.Core.Path.{◌≡◌, subst}
use native.Mathlib.Omega.{arith}
use borrow.Author.Tests.{eqb-true, ne_eqb, lt-leb, le-leb}
use lib.Dec.{eqb}
use Rattle.frame.specs.Ground.{pick}
use Rattle.frame.proofs.Ground.{never, within_true, pick_case}
use Rattle.content.specs.Byte.{is_character, is_expansion, kind_of, code_of, is_code}
use Rattle.content.specs.declared.byte.Kind.{Kind}
use Rattle.content.specs.declared.byte.Kind.TheVariants as kind

-- What its kind tells of a byte.
abbrev pub Means : Kind → ℕ → Type 0
Means kind.Line b = b ≡ 0x0A
Means kind.End b = b ≡ 0x0D
Means kind.Field b = b ≡ 0x12
Means kind.Date b = b ≡ 0x1B
Means kind.Counter b = b ≡ 0x1C
Means kind.Tabulation b = b ≡ 0x1E
Means kind.Expansion b = is_expansion b ≡ true
Means kind.Character b = is_character b ≡ true
Means kind.Other b = Unit {0}

pub kind_means : (b : ℕ) → Means (kind_of b) b
unfolding kind_of
kind_means b =
    has (eqb b 0x0A) _ _ (eqb-true b 0x0A)
    (has (eqb b 0x0D) _ _ (eqb-true b 0x0D)
    (has (eqb b 0x12) _ _ (eqb-true b 0x12)
    (has (eqb b 0x1B) _ _ (eqb-true b 0x1B)
    (has (eqb b 0x1C) _ _ (eqb-true b 0x1C)
    (has (eqb b 0x1E) _ _ (eqb-true b 0x1E)
    (has (is_expansion b) _ _ (λ e. e)
    (has (is_character b) _ _ (λ e. e) tt)))))))
  where
    has : (x : Bool) (k j : Kind) → (x ≡ true → Means k b) → Means j b → Means (pick x k j) b
    has x k j p q = pick_case (λ (i : Kind). Means i b) x k j p (λ e. q)

pub told : (b : ℕ) (k : Kind) → kind_of b ≡ k → Means k b
told b k e = subst (λ (j : Kind). Means j b) e (kind_means b)

-- All marks lie between the expansions and the characters.
pub mark_is_no_character : (b : ℕ) → b < 0x20 → is_character b ≡ false
unfolding is_character
mark_is_no_character b h = rw (lt-leb 0x20 b h)

pub character_is_no_mark : (b k : ℕ) → is_character b ≡ true → k < 0x20 → eqb b k ≡ false
unfolding is_character
character_is_no_mark b k e h = let p = within_true 0x20 0x7E b e in ne_eqb b k (omega arith)

pub expansion_is_no_character : (b : ℕ) → is_expansion b ≡ true → is_character b ≡ false
unfolding is_expansion
expansion_is_no_character b e = let p = within_true 0x01 0x09 b e in mark_is_no_character b (omega arith)

pub expansion_is_no_mark : (b k : ℕ) → is_expansion b ≡ true → 0x09 < k → eqb b k ≡ false
unfolding is_expansion
expansion_is_no_mark b k e h = let p = within_true 0x01 0x09 b e in ne_eqb b k (omega arith)

kind_of_no_mark :
    (b : ℕ) → ((k : ℕ) → 0x09 < k → k < 0x20 → eqb b k ≡ false) →
    kind_of b ≡ pick (is_expansion b) kind.Expansion (pick (is_character b) kind.Character kind.Other)
unfolding kind_of
kind_of_no_mark b h =
    rw (h 0x0A (omega arith) (omega arith), h 0x0D (omega arith) (omega arith), h 0x12 (omega arith) (omega arith))
    (rw (h 0x1B (omega arith) (omega arith), h 0x1C (omega arith) (omega arith), h 0x1E (omega arith) (omega arith)))

pub kind_of_character : (b : ℕ) → is_character b ≡ true → kind_of b ≡ kind.Character
unfolding is_character is_expansion
kind_of_character b e =
    let h = within_true 0x20 0x7E b e in
    rw (kind_of_no_mark b (λ k p q. character_is_no_mark b k e q), le-leb 0x01 b (omega arith), lt-leb b 0x09 (omega arith), e)

pub kind_of_expansion : (b : ℕ) → is_expansion b ≡ true → kind_of b ≡ kind.Expansion
kind_of_expansion b e = rw (kind_of_no_mark b (λ k p q. expansion_is_no_mark b k e p), e)

pub code_is_no_mark : (b : ℕ) → is_code (code_of b) ≡ true → eqb b 0x1B ≡ false
unfolding code_of
code_is_no_mark b e = ne_eqb b 0x1B (λ (q : b ≡ 0x1B). never (rw q at e))
