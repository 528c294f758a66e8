-- A number's digits read back as the number, and no other digits do: each digit more is the remainder by 10, and a front that is not 0 says how many there are.
use Prim.Native.Nat.{ℕ, ◌+◌, ◌*◌, ◌-◌, ◌/◌, ◌%◌, ◌≤◌, ◌<◌}
use mathlib.Core.Bool.{true}
use mathlib.Core.List.{List, [], ◌∷◌, ◌++◌}
use mathlib.Core.Path.{◌≡◌, refl, sym, ◌∙◌, ap, ap₂, subst}
use native.Mathlib.Omega.{arith}
use lib.ListN.{length, length-append}
use Rattle.frame.specs.Ground.{every}
use Rattle.frame.proofs.Ground.{both_true, true_both, within_true, true_within, every_append}
use Rattle.line.specs.Line.{decimal}
use Rattle.line.specs.LineLaws.{value_from, value, digit, Decimal, DecimalReads, DecimalUnique}
use Rattle.line.proofs.Laws.{by_digits, one_digit, more_digits}

-- ---- One digit more.
value_snoc : (n : ℕ) (s : List ℕ) (b : ℕ) → value_from n (s ++ (b ∷ [])) ≡ value_from n s * 10 + (b - 0x30)
value_snoc n [] b = refl
value_snoc n (x ∷ s) b = value_snoc (n * 10 + (x - 0x30)) s b

value_most : (n : ℕ) (s : List ℕ) → n ≤ value_from n s
value_most n [] = omega arith
value_most n (b ∷ s) = let again = value_most (n * 10 + (b - 0x30)) s in omega arith

digits_more : (s : List ℕ) (d : ℕ) → d < 10 → every digit 0 s ≡ true → every digit 0 (s ++ ((d + 0x30) ∷ [])) ≡ true
digits_more s d h p =
    every_append digit 0 s ((d + 0x30) ∷ []) ∙ true_both _ _ p (true_both _ true (true_within 0x30 0x39 (d + 0x30) (omega arith) (omega arith)) refl)

digits_less : (s : List ℕ) (b : ℕ) → every digit 0 (s ++ (b ∷ [])) ≡ true → (every digit 0 s ≡ true) × ((0x30 ≤ b) × (b ≤ 0x39))
digits_less s b p =
    let h = both_true _ _ (sym (every_append digit 0 s (b ∷ [])) ∙ p) in
    (h.0, within_true 0x30 0x39 b (both_true _ true h.1).0)

-- ---- The writing reads back.
decimal_one : (n : ℕ) → n < 10 → Decimal n ((n + 0x30) ∷ [])
decimal_one n h =
    record {
      some = omega arith;
      digits = digits_more [] n h refl;
      front = λ e. ap (λ (b : ℕ). b ∷ []) e;
      reads = omega arith;
    }

decimal_more : (n d : ℕ) (s : List ℕ) → 0 < n → d < 10 → Decimal n s → Decimal (n * 10 + d) (s ++ ((d + 0x30) ∷ []))
decimal_more n d [] g h p = absurd (omega (arith, p.some))
decimal_more n d (b ∷ s) g h p =
    record {
      some = omega arith;
      digits = digits_more (b ∷ s) d h p.digits;
      front = λ e. let zero : value (b ∷ s) ≡ 0 = ap value (p.front e) in absurd (omega (arith, p.reads));
      reads = value_snoc 0 (b ∷ s) (d + 0x30) ∙ omega (arith, p.reads);
    }

pub decimal_reads : DecimalReads
decimal_reads =
    by_digits (λ (n : ℕ). Decimal n (decimal n)) (λ n h. subst (Decimal n) (sym (one_digit n h)) (decimal_one n h))
    (λ n h again.
    let e : n / 10 * 10 + n % 10 ≡ n = omega arith in
    subst (Decimal n) (sym (more_digits n h)) (rw e at (decimal_more (n / 10) (n % 10) (decimal (n / 10)) (omega arith) (omega arith) again)))

-- ---- No other does.
unique_one : (n : ℕ) (s : List ℕ) → n < 10 → Decimal n s → s ≡ (n + 0x30) ∷ []
unique_one n [] h p = absurd (omega (arith, p.some))
unique_one n (b ∷ []) h p =
    let d = within_true 0x30 0x39 b (both_true _ _ p.digits).0 in
    ap (λ (x : ℕ). x ∷ []) (omega (arith, p.reads))
unique_one n (b ∷ x ∷ s) h p =
    let d = within_true 0x30 0x39 b (both_true _ _ p.digits).0 in
    let most = value_most (value (b ∷ x ∷ [])) s in
    let alone = ap length (p.front (omega (arith, p.reads))) in
    absurd (omega arith)

-- The digits before the last, and the last.
record Ends (s : List ℕ) : Type 0 where
  front : List ℕ
  last : ℕ
  same : s ≡ front ++ (last ∷ [])

ends : (b : ℕ) (s : List ℕ) → Ends (b ∷ s)
ends b [] = record { front = []; last = b; same = refl }
ends b (x ∷ s) = let e = ends x s in record { front = b ∷ e.front; last = e.last; same = ap (λ (l : List ℕ). b ∷ l) e.same }

unique_last : (n b : ℕ) (s : List ℕ) → 10 ≤ n → Decimal n (s ++ (b ∷ [])) → Decimal (n / 10) s × (b ≡ n % 10 + 0x30)
unique_last n b [] h p =
    let d = digits_less [] b p.digits in
    absurd (omega (arith, p.reads))
unique_last n b (x ∷ s) h p =
    let d = digits_less (x ∷ s) b p.digits in
    let reads : value (x ∷ s) * 10 + (b - 0x30) ≡ n = sym (value_snoc 0 (x ∷ s) b) ∙ p.reads in (
      record {
        some = omega arith;
        digits = d.0;
        front = λ e. let alone = ap length (p.front e) in absurd (omega (arith, length-append s (b ∷ [])));
        reads = omega arith;
      },
      omega arith,
    )

unique_more : (n : ℕ) → 10 ≤ n → ((s : List ℕ) → Decimal (n / 10) s → s ≡ decimal (n / 10)) → (s : List ℕ) → Decimal n s → s ≡ decimal n
unique_more n h again [] p = absurd (omega (arith, p.some))
unique_more n h again (b ∷ s) p =
    let e = ends b s in
    let m = unique_last n e.last e.front h (subst (Decimal n) e.same p) in
    e.same ∙ ap₂ (λ (l : List ℕ) (d : ℕ). l ++ (d ∷ [])) (again e.front m.0) m.1 ∙ sym (more_digits n h)

pub decimal_unique : DecimalUnique
decimal_unique = by_digits (λ (n : ℕ). (s : List ℕ) → Decimal n s → s ≡ decimal n) (λ n h s p. unique_one n s h p ∙ sym (one_digit n h)) unique_more
