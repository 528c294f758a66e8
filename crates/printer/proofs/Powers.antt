-- A number's digits by subtracting powers of ten: what the power above leaves of a number is parted into the digit that a power counts and
-- what the power leaves.
use Prim.Native.Nat.{ℕ, zero, suc, ◌+◌, ◌-◌, ◌*◌, ◌/◌, ◌%◌, ◌≤◌, ◌<◌}
use mathlib.Core.Bool.{true}
use mathlib.Core.List.{List, [], ◌∷◌, ◌++◌, map}
use mathlib.Core.Path.{◌≡◌, refl, sym, ◌∙◌, ap, ap₂}
use native.Mathlib.Nat.{div-eq_of_lt, div-eq-sub-div, le_of_suc-le-suc, mod-eq_of_lt, mod-eq-sub-mod, mod-lt, not-suc-le-zero}
use native.Mathlib.Numerals.{add-one}
use native.Mathlib.Omega.{arith}
use borrow.Author.Tests.{ltb-true}
use lib.Arith.{digits_div, digits_mod, mod-mul}
use lib.Dec.{ltb}
use lib.ListN.{length, get_or, take, set, replicate, length-set, get_or-replicate}
use lib.Seq.{get_or-set_same, get_or-set_other, get_or-take, take_all, take-set-le, take-suc}
use Rattle.printer.specs.Number.{digit, digits}

-- The law of a power of ten.
parted : (n power : ℕ) → 0 < power → (n % (10 * power) / power ≡ n / power % 10) × (n % (10 * power) % power ≡ n % power)
parted n power h =
    let e = mod-mul n {m = 10} {c = power} (omega arith) h in (
      ap (λ (k : ℕ). k / power) e ∙ digits_div (n / power % 10) {m = power} {r = n % power} (mod-lt n {m = power} h),
      ap (λ (k : ℕ). k % power) e ∙ digits_mod (n / power % 10) {m = power} {r = n % power} (mod-lt n {m = power} h),
    )

-- ---- The ten powers, each with the one above it, and the digits that they count.

abbrev powers : List ℕ
powers = 1_000_000_000 ∷ 100_000_000 ∷ 10_000_000 ∷ 1_000_000 ∷ 100_000 ∷ 10_000 ∷ 1_000 ∷ 100 ∷ 10 ∷ 1 ∷ []

abbrev above : List ℕ
above = 10_000_000_000 ∷ powers

abbrev counted : ℕ → List ℕ
counted n = digit n 1_000_000_000 ∷ digits n

at_map : {A B : Type 0} (f : A → B) (l : List A) (i : ℕ) (d : A) (e : B) → i < length l → get_or (map f l) i e ≡ f (get_or l i d)
at_map f [] i d e h = absurd (not-suc-le-zero h)
at_map f (x ∷ l) zero d e h = refl
at_map f (x ∷ l) (suc i) d e h = at_map f l i d e (le_of_suc-le-suc h)

pub some : (i : ℕ) → i < 10 → 0 < get_or powers i 0
some i h = ltb-true 0 (get_or powers i 0) (sym (at_map (ltb 0) powers i 0 true h) ∙ get_or-replicate 10 i true true h)

ten_times : (i : ℕ) → i < 10 → get_or above i 0 ≡ 10 * get_or powers i 0
ten_times i h = sym (get_or-take 10 above i 0 h) ∙ at_map (◌*◌ 10) powers i 0 0 h

digit_at : (n i : ℕ) → i < 10 → get_or (counted n) i 0 ≡ digit n (get_or powers i 0)
unfolding digits
digit_at n i h = at_map (digit n) powers i 0 0 h

-- What the i-th power is subtracted from, and into what it is parted.
abbrev whole : ℕ → ℕ → ℕ
whole n i = n % get_or above i 0

parts : (n i : ℕ) → i < 10 → (whole n i / get_or powers i 0 ≡ n / get_or powers i 0 % 10) × (whole n i % get_or powers i 0 ≡ n % get_or powers i 0)
parts n i h = rw (ten_times i h) (parted n (get_or powers i 0) (some i h))

-- ---- The loop.

-- The i-th power was subtracted as often as the row's byte says, and so much is left.
pub record Subtracted (n : ℕ) (row : List ℕ) (left i : ℕ) : Type 0 where
  pub times : get_or row i 0 + left / get_or powers i 0 ≡ 0x30 + whole n i / get_or powers i 0
  pub same : left % get_or powers i 0 ≡ whole n i % get_or powers i 0

-- The first i digits are there; the i-th power, if there is one, is being subtracted, and those behind it were not.
pub record Reached (n : ℕ) (row : List ℕ) (left i : ℕ) : Type 0 where
  pub most : i ≤ 10
  pub size : length row ≡ 10
  pub done : take i row ≡ take i (counted n)
  pub now : i < 10 → Subtracted n row left i
  pub later : (k : ℕ) → i < k → k < 10 → get_or row k 0 ≡ 0x30

begins : {n left i : ℕ} {row : List ℕ} → left ≡ whole n i → get_or row i 0 ≡ 0x30 → Subtracted n row left i
begins {i = i} e z =
    record { times = ap₂ (λ (b k : ℕ). b + k / get_or powers i 0) z e; same = ap (λ (k : ℕ). k % get_or powers i 0) e }

pub none_yet : (n : ℕ) → n < 10_000_000_000 → Reached n (replicate 10 0x30) n 0
none_yet n h =
    record {
      most = omega arith;
      size = refl;
      done = refl;
      now = λ _. begins (sym (mod-eq_of_lt {n = n} {m = 10_000_000_000} h)) refl;
      later = λ k _ g. get_or-replicate 10 k 0x30 0 g;
    }

-- A digit is 9 at most.
pub at_most_9 : {n left i : ℕ} {row : List ℕ} → i < 10 → Reached n row left i → get_or row i 0 ≤ 0x39
at_most_9 {n} {i = i} h p =
    let m = mod-lt (n / get_or powers i 0) {m = 10} (omega arith) in
    omega (arith, (p.now h).times, (parts n i h).0)

pub subtracted : {n left i : ℕ} {row : List ℕ} → i < 10 → get_or powers i 0 ≤ left → Reached n row left i
    → Reached n (set row i (get_or row i 0 + 1)) (left - get_or powers i 0) i
subtracted {left = left} {i} {row} h g p =
    let more = get_or row i 0 + 1 in
    let less = div-eq-sub-div {m = get_or powers i 0} {n = left} (some i h) g in
    record {
      most = p.most;
      size = length-set row i more ∙ p.size;
      done = take-set-le i row i more (omega arith) ∙ p.done;
      now = λ _. record {
        times = rw (get_or-set_same row i more 0 (omega (arith, p.size))) (omega (arith, less, (p.now h).times));
        same = sym (mod-eq-sub-mod {n = left} {m = get_or powers i 0} g) ∙ (p.now h).same;
      };
      later = λ k a b. get_or-set_other row i k more 0 (λ e. omega (arith, a, e)) ∙ p.later k a b;
    }

pub goes_on : {n left i : ℕ} {row : List ℕ} → i < 10 → left < get_or powers i 0 → Reached n row left i → Reached n row left (i + 1)
unfolding digits
goes_on {n} {left} {i} {row} h g p =
    let q = parts n i h in
    let none = div-eq_of_lt {n = left} {m = get_or powers i 0} g in
    let here : get_or row i 0 ≡ get_or (counted n) i 0 = omega (arith, none, (p.now h).times, q.0, digit_at n i h) in
    let rest : left ≡ whole n (i + 1) =
    sym (mod-eq_of_lt {n = left} {m = get_or powers i 0} g) ∙ (p.now h).same ∙ q.1 ∙ ap (λ (k : ℕ). n % get_or above k 0) (sym (add-one i)) in
    record {
      most = omega arith;
      size = p.size;
      done =
          ap (λ (k : ℕ). take k row) (add-one i)
          ∙ take-suc row i 0 (omega (arith, p.size))
          ∙ ap₂ (λ (l : List ℕ) (b : ℕ). l ++ (b ∷ [])) p.done here
          ∙ sym (take-suc (counted n) i 0 h)
          ∙ ap (λ (k : ℕ). take k (counted n)) (sym (add-one i));
      now = λ m. begins rest (p.later (i + 1) (omega arith) m);
      later = λ k a b. p.later k (omega (arith, a)) b;
    }

pub all_ten : {n left i : ℕ} {row : List ℕ} → 10 ≤ i → Reached n row left i → row ≡ counted n
unfolding digits
all_ten {n} {i = i} {row} h p =
    let e : i ≡ 10 = omega (arith, p.most) in
    sym (take_all i row (omega (arith, p.size))) ∙ p.done ∙ ap (λ (k : ℕ). take k (counted n)) e
