-- The laws of rows of records, in whatever store: when the numbers fit, what taking one out and putting it last leaves, and zeros behind.
use Prim.Native.Nat.{ℕ, zero, suc, ◌+◌, ◌*◌, ◌<◌}
use mathlib.Core.Bool.{Bool, true, false, not, ◌&&◌, ◌||◌}
use mathlib.Core.List.{List, [], ◌∷◌, ◌++◌, append_assoc, append-nil}
use mathlib.Core.Path.{◌≡◌, refl, sym, ◌∙◌, ap, ap₂}
use native.Mathlib.Nat.{not-suc-le-zero, le_of_suc-le-suc}
use native.Mathlib.Omega.{arith}
use Rattle.std.specs.Int.Bits.{bit_or, or_zero_l}
use Rattle.std.specs.List.{fold, list_all}
use Rattle.std.specs.Simd.{first_chunks}
use Rattle.std.proofs.lemmas.Nat.{le_or_l}
use borrow.Author.Tests.{eq-eqb, ne_eqb, eqb-true, eqb-false, not-true}
use lib.Dec.{eqb}
use lib.ListN.{length, take, drop, replicate, length-append}
use lib.Seq.{drop-drop}
use Rattle.frame.specs.Ground.{both, has, pick}
use Rattle.frame.proofs.Ground.{both_true, never}
use Rattle.library.specs.Record.{Record, head_size, record_bytes, written}
use Rattle.library.specs.Store.{blank, body_of, fit, fit_behind, held, is_number, kept, without}
use Rattle.library.specs.StoreLaws.{number_at}
use Rattle.library.proofs.Records.{by_test}

abbrev pub new : ℕ → List ℕ → Record
new n body = record { number = n; body = body }

both_true_r : (x : Bool) → x ≡ both x true
both_true_r true = refl
both_true_r false = refl

both_assoc : (x y z : Bool) → both x (both y z) ≡ both (both x y) z
both_assoc true y z = refl
both_assoc false y z = refl

-- ---- Records in a row, written.
pub written_append : (rs us : List Record) → written (rs ++ us) ≡ written rs ++ written us
written_append [] us = refl
written_append (r ∷ rs) us =
    ap (λ (l : List ℕ). record_bytes r ++ l) (written_append rs us) ∙ sym (append_assoc (record_bytes r) (written rs) (written us))

pub kept_length : (n : ℕ) (body : List ℕ) (rs : List Record) → length (written (kept n body rs)) ≡ length (written (without n rs)) + (head_size + length body)
kept_length n body rs =
    ap length (written_append (without n rs) (new n body ∷ []))
    ∙ length-append (written (without n rs)) (written (new n body ∷ []))
    ∙ omega (arith, ap length (append-nil body))

-- ---- Zeros.
pub blank_zeros : (s : List ℕ) → blank s ≡ true → s ≡ replicate (length s) 0
blank_zeros [] e = refl
blank_zeros (b ∷ s) e =
    let h = both_true (eqb b 0) (blank s) e in
    ap₂ (λ (a : ℕ) (l : List ℕ). a ∷ l) (eqb-true b 0 h.0) (blank_zeros s h.1)

pub zeros_blank : (n : ℕ) → blank (replicate n 0) ≡ true
zeros_blank zero = refl
zeros_blank (suc n) = zeros_blank n

-- Bytes are 00h where no bit of any is set.
or_none : (a b : ℕ) → eqb (bit_or a b) 0 ≡ both (eqb a 0) (eqb b 0)
or_none zero b = ap (λ (k : ℕ). eqb k 0) (or_zero_l b)
or_none (suc a) b = rw (ne_eqb (suc a) 0 (λ e. omega arith)) (ne_eqb (bit_or (suc a) b) 0 (λ e. omega (arith, le_or_l (suc a) b)))

any_from : (a : ℕ) (s : List ℕ) → eqb (fold bit_or a s) 0 ≡ both (eqb a 0) (blank s)
any_from a [] = both_true_r (eqb a 0)
any_from a (b ∷ s) = any_from (bit_or a b) s ∙ rw (or_none a b) (sym (both_assoc (eqb a 0) (eqb b 0) (blank s)))

pub any_blank : (s : List ℕ) → eqb (fold bit_or 0 s) 0 ≡ blank s
any_blank s = any_from 0 s

-- Bytes are 00h where each part is, and what stands behind the last.
blank_split : (n : ℕ) (s : List ℕ) → blank s ≡ both (blank (take n s)) (blank (drop n s))
blank_split zero s = refl
blank_split (suc n) [] = refl
blank_split (suc n) (b ∷ s) = rw (blank_split n s) (both_assoc (eqb b 0) (blank (take n s)) (blank (drop n s)))

both_and : (x y z : Bool) → both x (y && z) ≡ ((x && y) && z)
both_and true y z = refl
both_and false y z = refl

parts_of : (n k : ℕ) (s : List ℕ) → blank s ≡ (list_all blank (first_chunks n k s) && blank (drop (k * n) s))
parts_of n zero s =
    let none : 0 ≡ 0 * n = omega arith in
    ap (λ (i : ℕ). blank (drop i s)) none
parts_of n (suc k) s =
    let count : n + k * n ≡ suc k * n = omega arith in
    let behind : drop (k * n) (drop n s) ≡ drop (suc k * n) s = drop-drop (k * n) n s ∙ ap (λ (i : ℕ). drop i s) count in
    blank_split n s
    ∙ ap (both (blank (take n s))) (parts_of n k (drop n s))
    ∙ ap (λ (l : List ℕ). both (blank (take n s)) (list_all blank (first_chunks n k (drop n s)) && blank l)) behind
    ∙ both_and (blank (take n s)) (list_all blank (first_chunks n k (drop n s))) (blank (drop (suc k * n) s))

pub parts_blank : (n k : ℕ) (s : List ℕ) → list_all blank (first_chunks n k s) ≡ true → blank (drop (k * n) s) ≡ blank s
parts_blank n k s e = sym (parts_of n k s ∙ rw e)

pub parts_not : (n k : ℕ) (s : List ℕ) → list_all blank (first_chunks n k s) ≡ false → false ≡ blank s
parts_not n k s e = sym (parts_of n k s ∙ rw e)

-- ---- A number that is among some, or not.
pub has_split : (n x : ℕ) (xs : List ℕ) → has n (x ∷ xs) ≡ false → (eqb x n ≡ false) × (has n xs ≡ false)
has_split n x xs e = go (eqb x n) e
  where
    go : (b : Bool) → (b || has n xs) ≡ false → (b ≡ false) × (has n xs ≡ false)
    go true e = never (sym e)
    go false e = (refl, e)

-- ---- Numbers that fit.
pub record Fits (before : List ℕ) (n : ℕ) : Type 0 where
  pub inside : is_number n ≡ true
  pub fresh : has n before ≡ false

fit_first : (before : List ℕ) (r : Record) (rs : List Record) → fit_behind before (r ∷ rs) ≡ true
    → Fits before r.number × (fit_behind (r.number ∷ before) rs ≡ true)
fit_first before r rs e =
    let h = both_true (is_number r.number) _ e in
    let k = both_true (not (has r.number before)) _ h.1 in
    (record { inside = h.0; fresh = not-true (has r.number before) k.0 }, k.1)

first_fit : (before : List ℕ) (r : Record) (rs : List Record) → Fits before r.number → fit_behind (r.number ∷ before) rs ≡ true
    → fit_behind before (r ∷ rs) ≡ true
first_fit before r rs f e = rw (f.inside, f.fresh) e

-- Of numbers that fit each is 1 to 79 and none of those before; and none stands twice.
pub fit_each : (before : List ℕ) (rs : List Record) (i : ℕ) → i < length rs → fit_behind before rs ≡ true → Fits before (number_at rs i)
fit_each before [] i h e = absurd (not-suc-le-zero h)
fit_each before (r ∷ rs) zero h e = (fit_first before r rs e).0
fit_each before (r ∷ rs) (suc i) h e =
    let f = fit_each (r.number ∷ before) rs i (le_of_suc-le-suc h) (fit_first before r rs e).1 in
    record { inside = f.inside; fresh = (has_split (number_at rs i) r.number before f.fresh).1 }

pub fit_once : (before : List ℕ) (rs : List Record) (i j : ℕ) → i < j → j < length rs → fit_behind before rs ≡ true → number_at rs i ≡ number_at rs j → ⊥
fit_once before [] i j h g e q = not-suc-le-zero g
fit_once before (r ∷ rs) i zero h g e q = not-suc-le-zero h
fit_once before (r ∷ rs) zero (suc j) h g e q =
    let f = fit_each (r.number ∷ before) rs j (le_of_suc-le-suc g) (fit_first before r rs e).1 in
    eqb-false r.number (number_at rs j) (has_split (number_at rs j) r.number before f.fresh).0 q
fit_once before (r ∷ rs) (suc i) (suc j) h g e q =
    fit_once (r.number ∷ before) rs i j (le_of_suc-le-suc h) (le_of_suc-le-suc g) (fit_first before r rs e).1 q

-- And the other way round.
pub each_fit : (before : List ℕ) (rs : List Record) → ((i : ℕ) → i < length rs → Fits before (number_at rs i))
    → ((i j : ℕ) → i < j → j < length rs → number_at rs i ≡ number_at rs j → ⊥) → fit_behind before rs ≡ true
each_fit before [] f once = refl
each_fit before (r ∷ rs) f once =
    first_fit before r rs (f 0 (omega arith))
    (each_fit (r.number ∷ before) rs
    (λ i h.
    let g = f (suc i) (omega arith) in
    record { inside = g.inside; fresh = rw (ne_eqb r.number (number_at rs i) (once 0 (suc i) (omega arith) (omega arith))) g.fresh })
    (λ i j h g. once (suc i) (suc j) (omega arith) (omega arith)))

-- ---- A number put last.
module _ (n : ℕ) (body : List ℕ) where
  -- Fewer numbers stand before than did, and the number put last is none of them.
  fit_last : (before fewer : List ℕ) (rs : List Record) → ((k : ℕ) → has k before ≡ false → has k fewer ≡ false) → Fits fewer n
      → fit_behind before rs ≡ true → fit_behind fewer (kept n body rs) ≡ true
  fit_last before fewer [] sub f e = first_fit fewer (new n body) [] f refl
  fit_last before fewer (r ∷ rs) sub f e =
      let h = fit_first before r rs e in
      let one = h.0 in
      by_test (eqb r.number n)
      (λ q. rw q (fit_last (r.number ∷ before) fewer rs (λ k g. sub k (has_split k r.number before g).1) f h.1))
      (λ q.
      rw q
      (first_fit fewer r (kept n body rs)
      record { inside = one.inside; fresh = sub r.number one.fresh }
      (fit_last (r.number ∷ before) (r.number ∷ fewer) rs
      (λ k g. let p = has_split k r.number before g in rw p.0 (sub k p.1))
      record { inside = f.inside; fresh = rw q f.fresh }
      h.1)))

  pub fit_kept : (rs : List Record) → is_number n ≡ true → fit rs ≡ true → fit (kept n body rs) ≡ true
  fit_kept rs i e = fit_last [] [] rs (λ k g. g) record { inside = i; fresh = refl } e

  -- It is found.
  pub kept_here : (rs : List Record) → (held n (kept n body rs) ≡ true) × (body_of n (kept n body rs) ≡ body)
  kept_here [] = rw (eq-eqb n n refl) (refl, refl)
  kept_here (r ∷ rs) = by_test (eqb r.number n) (λ q. rw q (kept_here rs)) (λ q. rw (q, q) (kept_here rs))

  -- What is looked for of another number is found as before.
  pub kept_others : (rs : List Record) (k : ℕ) → (k ≡ n → ⊥)
      → (held k (kept n body rs) ≡ held k rs) × (body_of k (kept n body rs) ≡ body_of k rs)
  kept_others [] k m = rw (ne_eqb n k (λ e. m (sym e))) (refl, refl)
  kept_others (r ∷ rs) k m =
      by_test (eqb r.number n)
      (λ q.
      let other : eqb r.number k ≡ false = ne_eqb r.number k (λ e. m (sym e ∙ eqb-true r.number n q)) in
      rw (q, other) (kept_others rs k m))
      (λ q. rw q (by_test (eqb r.number k) (λ p. rw p (refl, refl)) (λ p. rw p (kept_others rs k m))))

-- Where no record has a number, no bytes are its body.
pub none_held : (n : ℕ) (rs : List Record) → held n rs ≡ false → body_of n rs ≡ []
none_held n [] e = refl
none_held n (r ∷ rs) e = go (eqb r.number n) e (none_held n rs)
  where
    go : (b : Bool) → pick b true (held n rs) ≡ false → (held n rs ≡ false → body_of n rs ≡ []) → pick b r.body (body_of n rs) ≡ []
    go true e again = never (sym e)
    go false e again = again e
