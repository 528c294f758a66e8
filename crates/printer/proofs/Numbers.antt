-- The laws of numbers in bytes and in digits: each way of writing undoes the other, and how large a number of so many bytes or digits can be.
use Prim.Native.Nat.{ℕ, zero, suc, ◌+◌, ◌*◌, ◌-◌, ◌/◌, ◌%◌, ◌^◌, ◌≤◌, ◌<◌}
use mathlib.Core.Bool.{Bool, true, false}
use mathlib.Core.List.{List, [], ◌∷◌, ◌++◌, append_assoc, append-nil}
use mathlib.Core.Path.{◌≡◌, refl, sym, ◌∙◌, ap}
use native.Mathlib.Nat.{add-zero, add-suc, suc-add, zero-add, div-add-mod', div-eq_of_lt, div-lt_iff_lt-mul, mod-eq_of_lt, mul-add-div_right, mul-add-mod_self_right, mul_assoc, not-suc-le-zero, pow-le-pow_right, pow-suc, pow-succ'}
use native.Mathlib.Numerals.{add-one}
use native.Mathlib.Omega.{arith}
use mir.Syntax.{w8, w32}
use mir.Val.{Fits}
use lib.ListN.{length, get_or, take, drop, length-append}
use lib.Seq.{drop-drop, get_or-drop, take-nil}
use Rattle.std.specs.Int.{to_be_bytes}
use Rattle.std.specs.List.{list_all}
use Rattle.std.specs.Prelude.{◌&&◌}
use Rattle.frame.specs.Ground.{both}
use Rattle.frame.proofs.Ground.{both_true, true_both, within_true, drop_next}
use Rattle.printer.specs.Number.{all_digits, in_bytes, is_digit, number_from, number_of, value, value_from}

-- ---- Numbers in bytes.
-- Every byte is one; a slice that is lent tells this of itself.
abbrev pub Bytes : List ℕ → Type 0
Bytes s = (i : ℕ) → Fits w8 (get_or s i 0)

pub bytes_drop : (n : ℕ) (s : List ℕ) → Bytes s → Bytes (drop n s)
bytes_drop n s f i = rw (get_or-drop n s i 0) (f (n + i))

pub bytes_take : (n : ℕ) (s : List ℕ) → Bytes s → Bytes (take n s)
bytes_take zero s f i = record { fits = omega arith }
bytes_take (suc n) [] f i = f i
bytes_take (suc n) (b ∷ s) f zero = f zero
bytes_take (suc n) (b ∷ s) f (suc i) = bytes_take n s (λ j. f (suc j)) i

pub length_in_bytes : (k n : ℕ) → length (in_bytes k n) ≡ k
length_in_bytes zero n = refl
length_in_bytes (suc k) n = length-append (in_bytes k (n / 256)) (n % 256 ∷ []) ∙ rw (length_in_bytes k (n / 256)) (add-one k)

-- One more byte behind those that were read.
pub number_snoc : (n : ℕ) (s : List ℕ) (b : ℕ) → number_from n (s ++ (b ∷ [])) ≡ number_from n s * 256 + b
number_snoc n [] b = refl
number_snoc n (a ∷ s) b = number_snoc (n * 256 + a) s b

pub number_in_bytes : (k n : ℕ) → n < 256 ^ k → number_of (in_bytes k n) ≡ n
number_in_bytes zero n h = omega arith
number_in_bytes (suc k) n h =
    let less : n / 256 < 256 ^ k = (div-lt_iff_lt-mul {k = 256} {x = n} {y = 256 ^ k} (omega arith)).1 (rw pow-suc at h) in
    number_snoc 0 (in_bytes k (n / 256)) (n % 256)
    ∙ ap (λ (m : ℕ). m * 256 + n % 256) (number_in_bytes k (n / 256) less)
    ∙ div-add-mod' n 256

-- The bytes behind a number that was read before them, and the bytes of that number in front.
in_bytes_from : (s : List ℕ) (j n : ℕ) → Bytes s → in_bytes (j + length s) (number_from n s) ≡ in_bytes j n ++ s
in_bytes_from [] j n f = rw add-zero (sym (append-nil (in_bytes j n)))
in_bytes_from (b ∷ s) j n f =
    let less : b < 256 = (f 0).fits in
    let high : (n * 256 + b) / 256 ≡ n = mul-add-div_right {m = 256} (omega arith) n b ∙ rw (div-eq_of_lt {n = b} {m = 256} less) (add-zero n) in
    let low : (n * 256 + b) % 256 ≡ b = mul-add-mod_self_right n 256 b ∙ mod-eq_of_lt {n = b} {m = 256} less in
    ap (λ (k : ℕ). in_bytes k (number_from (n * 256 + b) s)) (add-suc j (length s) ∙ sym (suc-add j (length s)))
    ∙ in_bytes_from s (suc j) (n * 256 + b) (λ i. f (suc i))
    ∙ rw (high, low) (append_assoc (in_bytes j n) (b ∷ []) s)

pub bytes_of_number : (s : List ℕ) → Bytes s → in_bytes (length s) (number_of s) ≡ s
bytes_of_number s f = ap (λ (k : ℕ). in_bytes k (number_of s)) (sym (zero-add (length s))) ∙ in_bytes_from s 0 0 f

-- The same for a list of a known length.
pub bytes_back : (k : ℕ) (s : List ℕ) → length s ≡ k → Bytes s → in_bytes k (number_of s) ≡ s
bytes_back k s e f = ap (λ (n : ℕ). in_bytes n (number_of s)) (sym e) ∙ bytes_of_number s f

number_below : (s : List ℕ) (n m : ℕ) → Bytes s → n < m → number_from n s < m * 256 ^ length s
number_below [] n m f h = omega arith
number_below (b ∷ s) n m f h =
    let less : b < 256 = (f 0).fits in
    rw (pow-succ', ← mul_assoc) (number_below s (n * 256 + b) (m * 256) (λ i. f (suc i)) (omega arith))

pub number_small : (s : List ℕ) → Bytes s → number_of s < 256 ^ length s
number_small s f = omega (arith, number_below s 0 1 f (omega arith))

-- At most k bytes.
pub number_fits : (k : ℕ) (s : List ℕ) → length s ≤ k → Bytes s → number_of s < 256 ^ k
number_fits k s h f =
    let wider : 256 ^ length s ≤ 256 ^ k = pow-le-pow_right (omega arith) h in
    omega (arith, number_small s f)

pub three_fit : (s : List ℕ) → length s ≤ 3 → Bytes s → number_of s < 16777216
three_fit s h f = number_fits 3 s h f

pub be_bytes : (n : ℕ) → to_be_bytes w32 n ≡ in_bytes 4 n
be_bytes n =
    let a : n / 256 ^ 3 % 256 ≡ n / 256 / 256 / 256 % 256 = omega arith in
    let b : n / 256 ^ 2 % 256 ≡ n / 256 / 256 % 256 = omega arith in
    let c : n / 256 ^ 1 % 256 ≡ n / 256 % 256 = omega arith in
    cc

-- ---- Numbers in digits.
pub all_digits_listed : (s : List ℕ) → list_all is_digit s ≡ all_digits s
all_digits_listed [] = refl
all_digits_listed (b ∷ s) = go (is_digit b) (all_digits_listed s)
  where
    go : (t : Bool) → list_all is_digit s ≡ all_digits s → (t && list_all is_digit s) ≡ both t (all_digits s)
    go true e = e
    go false e = refl

-- One more digit of a row.
pub value_on : (s : List ℕ) (n i : ℕ) {w : ℕ} → i < length s → w ≡ get_or s i 0 - 0x30
    → value_from n (drop i s) ≡ value_from (n * 10 + w) (drop (i + 1) s)
value_on s n i h e = ap (value_from n) (drop_next s i h) ∙ rw e

pub digit_next : (s : List ℕ) (i : ℕ) → i < length s → all_digits (drop i s) ≡ true
    → (is_digit (get_or s i 0) ≡ true) × (all_digits (drop (i + 1) s) ≡ true)
digit_next s i h e = both_true _ _ (ap all_digits (sym (drop_next s i h)) ∙ e)

pub is_digit_true : (b : ℕ) → is_digit b ≡ true → (0x30 ≤ b) × (b ≤ 0x39)
unfolding is_digit
is_digit_true b e = within_true 0x30 0x39 b e

-- Where a part is of digits, so is each part of it.
digits_front : (s : List ℕ) (m k : ℕ) → k ≤ m → all_digits (take m s) ≡ true → all_digits (take k s) ≡ true
digits_front s m zero h e = refl
digits_front s zero (suc k) h e = absurd (not-suc-le-zero h)
digits_front [] (suc m) (suc k) h e = refl
digits_front (b ∷ s) (suc m) (suc k) h e =
    let p = both_true (is_digit b) (all_digits (take m s)) e in
    true_both (is_digit b) (all_digits (take k s)) p.0 (digits_front s m k (omega arith) p.1)

digits_inside : (s : List ℕ) (m j k : ℕ) → j + k ≤ m → all_digits (take m s) ≡ true → all_digits (take k (drop j s)) ≡ true
digits_inside s m zero k h e = digits_front s m k (omega arith) e
digits_inside [] m (suc j) k h e = rw take-nil
digits_inside (b ∷ s) zero (suc j) k h e = absurd (omega arith)
digits_inside (b ∷ s) (suc m) (suc j) k h e = digits_inside s m j k (omega arith) (both_true (is_digit b) (all_digits (take m s)) e).1

pub digits_part : (s : List ℕ) (i m j k : ℕ) → j + k ≤ m → all_digits (take m (drop i s)) ≡ true → all_digits (take k (drop (i + j) s)) ≡ true
digits_part s i m j k h e = rw (← drop-drop j i s) (digits_inside (drop i s) m j k h e)

value_below : (s : List ℕ) (n m : ℕ) → all_digits s ≡ true → n < m → value_from n s < m * 10 ^ length s
value_below [] n m e h = omega arith
value_below (b ∷ s) n m e h =
    let p = both_true (is_digit b) (all_digits s) e in
    let d = is_digit_true b p.0 in
    rw (pow-succ', ← mul_assoc) (value_below s (n * 10 + (b - 0x30)) (m * 10) p.1 (omega arith))

pub value_fits : (k : ℕ) (s : List ℕ) → length s ≤ k → all_digits s ≡ true → value s < 10 ^ k
value_fits k s h e =
    let wider : 10 ^ length s ≤ 10 ^ k = pow-le-pow_right (omega arith) h in
    omega (arith, value_below s 0 1 e (omega arith))

-- A running value of i digits.
pub value_grows : (n i b : ℕ) → n < 10 ^ i → is_digit b ≡ true → n * 10 + (b - 0x30) < 10 ^ (i + 1)
value_grows n i b h e = let d = is_digit_true b e in rw (add-one, pow-succ') (omega arith)

pub value_small : (n i : ℕ) → i < 9 → n < 10 ^ i → n < 100_000_000
value_small n i h g = let p : 10 ^ i ≤ 10 ^ 8 = pow-le-pow_right (omega arith) {i = i} {j = 8} (omega arith) in omega arith

pub value_nine : (n i : ℕ) → i ≤ 9 → n < 10 ^ i → n < 1_000_000_000
value_nine n i h g = let p : 10 ^ i ≤ 10 ^ 9 = pow-le-pow_right (omega arith) h in omega arith
