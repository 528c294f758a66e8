-- What the functions' proofs cite: one more byte in hex, a number's digits one by one, and a line written piece by piece over the front of a buffer.
use Prim.Native.Nat.{ℕ, zero, suc, ◌+◌, ◌*◌, ◌-◌, ◌/◌, ◌%◌, ◌^◌, ◌≤◌, ◌<◌}
use mathlib.Core.List.{List, [], ◌∷◌, ◌++◌, append_assoc}
use mathlib.Core.Path.{◌≡◌, refl, sym, ◌∙◌, ap}
use Rattle.std.proofs.Common.{Option, Some, None}
use native.Mathlib.Nat.{not-suc-le-zero, le_of_suc-le-suc, pow-suc}
use native.Mathlib.Numerals.{add-one}
use native.Mathlib.Omega.{arith}
use borrow.Author.Tests.{le-ltb, lt-ltb, ltb-true, ltb-false}
use borrow.Rule.Slice.PartMut.{mid_of, put_mid}
use lib.Dec.{ltb}
use lib.ListN.{length, get_or, take, drop, set, length-append}
use lib.Seq.{length-take-le, take-suc, append_snoc, set_at}
use Rattle.frame.specs.Ground.{over}
use Rattle.frame.specs.declared.given.Given.{Given}
use Rattle.frame.proofs.Ground.{pick_case, over_next}
use Rattle.frame.proofs.Lent.{Laid, laid_more}
use Rattle.line.specs.Line.{space, newline, colon, decimal_in, decimal, hex_digit, hex, place_text, given_text, line, lined, bytes_of, line_length, longest_given, Writes}

-- ---- Hex: two digits a byte.
pub length_hex : (s : List ℕ) → length (hex s) ≡ 2 * length s
length_hex [] = refl
length_hex (b ∷ s) = let again = length_hex s in omega arith

hex_suc : (s : List ℕ) (i : ℕ) → i < length s → hex (take (suc i) s) ≡ hex (take i s) ++ (hex_digit (get_or s i 0 / 16) ∷ hex_digit (get_or s i 0 % 16) ∷ [])
hex_suc [] i h = absurd (not-suc-le-zero h)
hex_suc (b ∷ s) zero h = refl
hex_suc (b ∷ s) (suc i) h = ap (λ (l : List ℕ). hex_digit (b / 16) ∷ hex_digit (b % 16) ∷ l) (hex_suc s i (le_of_suc-le-suc h))

-- A buffer that has i bytes in hex over its front takes the two digits of the next.
pub hex_next : (s before : List ℕ) (i : ℕ) → i < length s → 2 * length s ≤ length before
    → set (set (over (hex (take i s)) before) (2 * i) (hex_digit (get_or s i 0 / 16))) (2 * i + 1) (hex_digit (get_or s i 0 % 16)) ≡ over (hex (take (i + 1) s)) before
hex_next s before i h g =
    let w = hex (take i s) in
    let hi = hex_digit (get_or s i 0 / 16) in
    let lo = hex_digit (get_or s i 0 % 16) in
    let n : length w ≡ 2 * i = length_hex (take i s) ∙ ap (λ (k : ℕ). 2 * k) (length-take-le i s (omega arith)) in
    let n₁ : length (w ++ (hi ∷ [])) ≡ 2 * i + 1 = length-append w (hi ∷ []) ∙ ap (λ (k : ℕ). k + 1) n in
    ap (λ (l : List ℕ). set l (2 * i + 1) lo) (over_next w before (2 * i) hi n (omega arith))
    ∙ over_next (w ++ (hi ∷ [])) before (2 * i + 1) lo n₁ (omega arith)
    ∙ ap (λ (l : List ℕ). over l before) (append_assoc w (hi ∷ []) (lo ∷ []) ∙ sym (hex_suc s i h) ∙ ap (λ (k : ℕ). hex (take k s)) (sym (add-one i)))

-- ---- Decimal: one digit, or the digits of the number divided by 10 and the last digit.
digit_case : {A : Type 0} (n : ℕ) → (n < 10 → A) → (10 ≤ n → A) → A
digit_case {A} n one more = pick_case (λ (k : ℕ). A) (ltb n 10) n n (λ e. one (ltb-true n 10 e)) (λ e. more (ltb-false n 10 e))

-- What holds of every number of one digit, and of a longer one if it holds of that number divided by 10, holds of all.
pub by_digits : (P : ℕ → Type 0) → ((n : ℕ) → n < 10 → P n) → ((n : ℕ) → 10 ≤ n → P (n / 10) → P n) → (n : ℕ) → P n
by_digits P one more n = go n n (omega arith)
  where
    go : (steps n : ℕ) → n ≤ steps → P n
    go zero n h = one n (omega arith)
    go (suc steps) n h = digit_case n (one n) (λ g. more n g (go steps (n / 10) (omega arith)))

in_one : (steps n : ℕ) → n < 10 → decimal_in steps n ≡ (n + 0x30) ∷ []
unfolding decimal_in
in_one zero n h = refl
in_one (suc steps) n h = rw (lt-ltb n 10 h)

in_more : (steps n : ℕ) → 10 ≤ n → decimal_in (suc steps) n ≡ decimal_in steps (n / 10) ++ ((n % 10 + 0x30) ∷ [])
unfolding decimal_in
in_more steps n h = rw (le-ltb n 10 h)

-- Steps that are enough all write the same.
in_enough : (n steps steps' : ℕ) → n ≤ steps → n ≤ steps' → decimal_in steps n ≡ decimal_in steps' n
in_enough =
    by_digits (λ (n : ℕ). (steps steps' : ℕ) → n ≤ steps → n ≤ steps' → decimal_in steps n ≡ decimal_in steps' n)
    (λ n h steps steps' g g'. in_one steps n h ∙ sym (in_one steps' n h)) longer
  where
    longer : (n : ℕ) → 10 ≤ n → ((steps steps' : ℕ) → n / 10 ≤ steps → n / 10 ≤ steps' → decimal_in steps (n / 10) ≡ decimal_in steps' (n / 10))
        → (steps steps' : ℕ) → n ≤ steps → n ≤ steps' → decimal_in steps n ≡ decimal_in steps' n
    longer n h again zero steps' g g' = absurd (omega arith)
    longer n h again (suc steps) zero g g' = absurd (omega arith)
    longer n h again (suc steps) (suc steps') g g' =
        in_more steps n h
        ∙ ap (λ (l : List ℕ). l ++ ((n % 10 + 0x30) ∷ [])) (again steps steps' (omega arith) (omega arith))
        ∙ sym (in_more steps' n h)

pub one_digit : (n : ℕ) → n < 10 → decimal n ≡ (n + 0x30) ∷ []
unfolding decimal
one_digit n h = in_one n n h

pub more_digits : (n : ℕ) → 10 ≤ n → decimal n ≡ decimal (n / 10) ++ ((n % 10 + 0x30) ∷ [])
unfolding decimal
more_digits n h =
    in_enough n n (suc n) (omega arith) (omega arith) ∙ in_more n n h
    ∙ ap (λ (l : List ℕ). l ++ ((n % 10 + 0x30) ∷ [])) (in_enough (n / 10) n (n / 10) (omega arith) (omega arith))

-- How many digits a number has.
pub one_width : (n : ℕ) → n < 10 → length (decimal n) ≡ 1
one_width n h = ap length (one_digit n h)

pub more_width : (n : ℕ) → 10 ≤ n → length (decimal n) ≡ length (decimal (n / 10)) + 1
more_width n h = ap length (more_digits n h) ∙ length-append (decimal (n / 10)) _

pub most_digits : (k n : ℕ) → n < 10 ^ suc k → length (decimal n) ≤ suc k
most_digits zero n h = omega (arith, one_width n (omega arith))
most_digits (suc k) n h =
    digit_case n (λ g. omega (arith, one_width n g)) (λ g. omega (arith, more_width n g, most_digits k (n / 10) (omega (arith, pow-suc 10 (suc k)))))

one_power : (k : ℕ) → 1 ≤ 10 ^ k
one_power zero = omega arith
one_power (suc k) = omega (arith, pow-suc 10 k, one_power k)

least_digits : (k n : ℕ) → 10 ^ k ≤ n → suc k ≤ length (decimal n)
least_digits zero n h =
    digit_case n (λ g. omega (arith, one_width n g)) (λ g. omega (arith, more_width n g))
least_digits (suc k) n h =
    digit_case n (λ g. absurd (omega (arith, pow-suc 10 k, one_power k))) (λ g. omega (arith, more_width n g, least_digits k (n / 10) (omega (arith, pow-suc 10 k))))

pub digits_of_power : (k n : ℕ) → 10 ^ k ≤ n → n < 10 * 10 ^ k → length (decimal n) ≡ k + 1
digits_of_power k n l m = omega (arith, least_digits k n l, most_digits k n (omega (arith, pow-suc 10 k)))

pub byte_digits : (n : ℕ) → n < 256 → length (decimal n) ≤ 3
byte_digits n h = most_digits 2 n (omega arith)

pub usize_digits : (n : ℕ) → n < 2 ^ 64 → length (decimal n) ≤ 20
usize_digits n h = most_digits 19 n (omega arith)

-- A number that is written from its last digit on: the digits before place i, those of `left`, are still to be written, and those behind stand.
pub record Partly (n left i : ℕ) (before now : List ℕ) : Type 0 where
  pub front : List ℕ
  pub behind : List ℕ
  pub whole : decimal n ≡ front ++ behind
  pub count : length front ≡ i
  pub digits : 0 < i → front ≡ decimal left
  pub inside : i ≤ length before
  pub same : now ≡ take i before ++ (behind ++ drop (length (decimal n)) before)

-- The place before is written.
stored : {n left i : ℕ} {before now : List ℕ} (p : Partly n left i before now) (j d : ℕ) → i ≡ suc j
    → set now j d ≡ take j before ++ (d ∷ (p.behind ++ drop (length (decimal n)) before))
stored {n} {left} {i} {before} p j d e =
    let rest = p.behind ++ drop (length (decimal n)) before in
    ap (λ (l : List ℕ). set l j d) p.same
    ∙ ap (λ (l : List ℕ). set (l ++ rest) j d) (ap (λ (k : ℕ). take k before) e ∙ take-suc before j 0 (omega (arith, p.inside)))
    ∙ ap (λ (l : List ℕ). set l j d) (append_snoc (take j before) (get_or before j 0) rest)
    ∙ set_at (take j before) (get_or before j 0) rest d j (length-take-le j before (omega (arith, p.inside)))

module _ {n left i : ℕ} {before now : List ℕ} (p : Partly n left i before now) where
  -- The digits still to be written end with the last of `left`, and before it are those of `left` divided by 10, or none.
  step : (j : ℕ) (front : List ℕ) → i ≡ suc j → p.front ≡ front ++ ((left % 10 + 0x30) ∷ []) → (0 < j → front ≡ decimal (left / 10))
      → Partly n (left / 10) j before (set now j (left % 10 + 0x30))
  step j front e q digits =
      record {
        front = front;
        behind = (left % 10 + 0x30) ∷ p.behind;
        whole = p.whole ∙ ap (λ (l : List ℕ). l ++ p.behind) q ∙ append_snoc front (left % 10 + 0x30) p.behind;
        count = omega (arith, p.count, ap length q ∙ length-append front ((left % 10 + 0x30) ∷ []));
        digits = digits;
        inside = omega (arith, p.inside);
        same = stored p j (left % 10 + 0x30) e;
      }

  pub partly_next : (j : ℕ) → i ≡ suc j → Partly n (left / 10) j before (set now j (left % 10 + 0x30))
  partly_next j e =
      let q : p.front ≡ decimal left = p.digits (omega arith) in
      digit_case left
      (λ h.
      let one : left ≡ left % 10 = omega arith in
      step j [] e (q ∙ one_digit left h ∙ ap (λ (k : ℕ). (k + 0x30) ∷ []) one) (λ g. absurd (omega (arith, p.count, ap length q, one_width left h))))
      (λ h. step j (decimal (left / 10)) e (q ∙ more_digits left h) (λ g. refl))

-- ---- What is given: a number alone, or a number, a colon and a place.
pub length_given : (g : Given) → length (given_text g) ≡ length (decimal g.number) + length (place_text g.place)
length_given g = length-append (decimal g.number) (place_text g.place)

pub at_text : (g : Given) (i : ℕ) → g.place ≡ Some i → given_text g ≡ decimal g.number ++ (colon ∷ decimal i)
at_text g i e = ap (λ (w : Option ℕ). decimal g.number ++ place_text w) e

pub at_length : (g : Given) (i : ℕ) → g.place ≡ Some i → length (given_text g) ≡ length (decimal g.number) + 1 + length (decimal i)
at_length g i e = ap length (at_text g i e) ∙ length-append (decimal g.number) (colon ∷ decimal i) ∙ omega arith

-- ---- One more byte behind those laid over the front of a buffer.
pub laid_byte : (w before after : List ℕ) (n v : ℕ) → n ≡ length w → n < length before → after ≡ over w before → Laid (n + 1) (w ++ (v ∷ [])) before (set after n v)
laid_byte w before after n v e h p =
    record {
      count = length-append w (v ∷ []) ∙ ap (λ (k : ℕ). k + 1) (sym e);
      inside = omega arith;
      same = ap (λ (l : List ℕ). set l n v) p ∙ over_next w before n v (sym e) h;
    }

-- ---- The line: how long it is, and the two answers.
pub length_line : (g : Given) (answer : List ℕ) → length (line g answer) ≡ length (given_text g) + 2 * length answer + 2
length_line g answer = simp (length-append, length_hex) (omega arith)

pub too_short : (before : List ℕ) (g : Given) (answer : List ℕ) → length (given_text g) ≤ longest_given
    → length before < length (given_text g) + 2 * length answer + 2 → Writes before g answer None before
unfolding lined
too_short before g answer s h =
    record { answered = rw (lt-ltb (length before) (length (line g answer)) (omega (arith, length_line g answer))); buffer = refl; short = s }

-- What is given is written, a space behind it, the answer in hex into the part behind that, and the newline last.
pub written : (before : List ℕ) (g : Given) (at size : ℕ) (answer first last : List ℕ)
    → length (given_text g) ≤ longest_given
    → at ≡ length (given_text g)
    → size ≡ at + 2 * length answer + 2
    → size ≤ length before
    → first ≡ over (given_text g) before
    → last ≡ over (hex answer) (mid_of (at + 1) (length (set first at space) - (at + 1)) (set first at space))
    → Writes before g answer (Some size)
    (set (put_mid (at + 1) (length (set first at space) - (at + 1)) (set first at space) last) (size - 1) newline)
unfolding lined
written before g at size answer first last s d e h p q =
    let w = given_text g ++ (space ∷ []) in
    let xs = set first at space in
    let back : Laid (at + 1 + 2 * length answer) (w ++ hex answer) before (put_mid (at + 1) (length xs - (at + 1)) xs last) =
    laid_more (2 * length answer) (hex answer) last (laid_byte (given_text g) before first at space d (omega arith) p) (length_hex answer) (omega arith) q in
    record {
      answered = rw (le-ltb (length before) (length (line g answer)) (omega (arith, length_line g answer))) (ap Some (omega (arith, length_line g answer)));
      buffer = (laid_byte (w ++ hex answer) before _ (size - 1) newline (omega (arith, back.count)) (omega arith) back.same).same;
      short = s;
    }

-- Bytes laid over the front of a buffer lie inside, and so does the line.
pub front_fits : (w before after : List ℕ) (n : ℕ) → n ≡ length w → after ≡ over w before → n ≤ length after
front_fits w before after n e p =
    let m : length after ≡ length w + length (drop (length w) before) = ap length p ∙ length-append w (drop (length w) before) in
    omega arith

pub line_fits : (before : List ℕ) (g : Given) (answer after : List ℕ) (r : Option ℕ) (n : ℕ) → r ≡ Some n → Writes before g answer r after → n ≤ length after
unfolding lined
line_fits before g answer after r n e p =
    let a : Some n ≡ lined (length before) g answer = sym e ∙ p.answered in
    let b : after ≡ over (line g answer) before = p.buffer ∙ ap (λ (q : Option ℕ). over (bytes_of q g answer) before) e in
    let most : line_length (lined (length before) g answer) ≤ length (line g answer) =
    pick_case (λ (q : Option ℕ). line_length q ≤ length (line g answer)) (ltb (length before) (length (line g answer))) None (Some (length (line g answer)))
    (λ t. omega arith) (λ t. omega arith) in
    omega (arith, ap line_length a, front_fits (line g answer) before after (length (line g answer)) refl b)
