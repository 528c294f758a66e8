-- What the proofs of all crates share: a set that turns the tests on the way to a return into the values of a rule's tests, and the laws of such tests, of tests in a row, of what there are several of, of a buffer that is written from its front, and of an update's text.
use Prim.Native.Nat.{ℕ, zero, suc, ◌+◌, ◌-◌, ◌≤◌, ◌<◌, min}
use mathlib.Core.Bool.{Bool, true, false, not}
use mathlib.Core.List.{List, [], ◌∷◌, ◌++◌, append_assoc, append-nil}
use mathlib.Core.Path.{◌≡◌, refl, sym, ◌∙◌, ap, ap₂, subst}
use native.Mathlib.Nat.{not-suc-le-zero, le_of_suc-le-suc}
use native.Mathlib.Numerals.{add-one}
use native.Mathlib.Omega.{arith}
use Rattle.std.proofs.Common.{Option, Some, None}
use borrow.Author.Rules.{rules}
use borrow.Author.Tests.{eq-eqb, ne_eqb, lt-ltb, le-ltb, le-leb, lt-leb, leb-true, ltb-true, ltb-false}
use borrow.Rule.Slice.PartMut.{mid_of, put_mid}
use lib.Dec.{eqb, leb, ltb}
use lib.ListN.{length, get_or, take, drop, set, length-append, length-take, length-drop, drop_of_length-le, take-append-drop, get_or-eq_default}
use lib.Seq.{drop-cons, drop-drop, drop-append-add, length-take-le, append_snoc, set_at, take_at, drop_at, take_all, take-length}
use Rattle.frame.specs.Ground.{pick, unless, both, plain, Test, checked, given, first_failing, all, every, each, joined, within, over}
use Rattle.frame.specs.declared.given.Given.{Given}
use Rattle.frame.specs.Numbers.{has_place}
use Rattle.frame.specs.Wire.{longest_update}
use Rattle.frame.specs.Receive.{run, text_space}
use Rattle.frame.specs.Build.{Lays}

pub ruleset tests = (eq-eqb, ne_eqb, lt-ltb, le-ltb, le-leb, lt-leb, rules)

-- ---- Ways through a chain of tests.
-- What holds of either choice holds of the choice.
pub pick_case : {A : Type 0} (P : A → Type 0) (b : Bool) (x y : A) → (b ≡ true → P x) → (b ≡ false → P y) → P (pick b x y)
pick_case P true x y p q = p refl
pick_case P false x y p q = q refl

pub unless_tells : {A : Type 0} (P : A → Type 0) (b : Bool) (x y : A) → (b ≡ false → P x) → (b ≡ true → P y) → P (unless b x y)
unless_tells P true x y p q = q refl
unless_tells P false x y p q = p refl

-- The same where neither choice needs the test.
pub unless_case : {A : Type 0} (P : A → Type 0) (b : Bool) (x y : A) → P x → P y → P (unless b x y)
unless_case P b x y p q = unless_tells P b x y (λ _. p) (λ _. q)

-- ---- What tests tell.
-- No test is both true and false.
pub never : {A : Type 0} → false ≡ true → A
never e = let z : ◌≡◌ {A = ℕ} 0 1 = cc in absurd (omega arith)

pub both_true : (x y : Bool) → both x y ≡ true → (x ≡ true) × (y ≡ true)
both_true true y e = (refl, e)
both_true false y e = never e

pub true_both : (x y : Bool) → x ≡ true → y ≡ true → both x y ≡ true
true_both x y p q = rw p q

pub within_true : (least most n : ℕ) → within least most n ≡ true → (least ≤ n) × (n ≤ most)
within_true least most n e =
    let h = both_true (leb least n) (leb n most) e in
    (leb-true least n h.0, leb-true n most h.1)

pub true_within : (least most n : ℕ) → least ≤ n → n ≤ most → within least most n ≡ true
true_within least most n p q = true_both (leb least n) (leb n most) (le-leb least n p) (le-leb n most q)

-- ---- Tests in a row.
-- Where all hold, what is accepted is given.
pub checked_all : {A : Type 0} (ts : List Test) (f : Given → A) (a : A) → all ts ≡ true → checked ts f a ≡ a
checked_all [] f a e = refl
checked_all (t ∷ ts) f a e = let h = both_true t.holds (all ts) e in rw h.0 (checked_all ts f a h.1)

-- A property of every test of the row.
abbrev pub every_test : (Test → Bool) → List Test → Bool
every_test p [] = true
every_test p (t ∷ ts) = both (p t) (every_test p ts)

-- Where one fails, the first that does gives its refusal, whatever is made of it; and it has each property that every test of the row has.
pub record Refuses (ts : List Test) : Type 1 where
  pub failed : Test
  pub fails : failed.holds ≡ false
  pub gives : {A : Type 0} (f : Given → A) (a : A) → checked ts f a ≡ f failed.otherwise
  pub among : (p : Test → Bool) → every_test p ts ≡ true → p failed ≡ true

pub checked_refuses : (ts : List Test) → all ts ≡ false → Refuses ts
checked_refuses [] e = absurd (never (sym e))
checked_refuses (t ∷ ts) e = go t.holds refl (λ q. checked_refuses ts q)
  where
    go : (h : Bool) → t.holds ≡ h → (all ts ≡ false → Refuses ts) → Refuses (t ∷ ts)
    go false q again = record { failed = t; fails = q; gives = λ f a. rw q; among = λ p m. (both_true (p t) (every_test p ts) m).0 }
    go true q again =
        let r : Refuses ts = again (rw q at e) in
        record {
          failed = r.failed;
          fails = r.fails;
          gives = λ f a. rw q (r.gives f a);
          among = λ p m. r.among p (both_true (p t) (every_test p ts) m).1;
        }

-- So where what is accepted is given, and no refusal is like it, all hold.
pub accepted_all : {A : Type 0} (ts : List Test) (f : Given → A) (a : A) → ((g : Given) → f g ≡ a → ⊥) → checked ts f a ≡ a → all ts ≡ true
accepted_all ts f a n e = go (all ts) refl
  where
    go : (b : Bool) → all ts ≡ b → b ≡ true
    go true q = refl
    go false q = let r = checked_refuses ts q in absurd (n r.failed.otherwise (sym (r.gives f a) ∙ e))

-- What holds of every refusal and of what is accepted holds of the answer.
pub checked_case : {A : Type 0} (P : A → Type 0) (ts : List Test) (f : Given → A) (a : A)
    → ((t : Test) → t.holds ≡ false → P (f t.otherwise)) → (all ts ≡ true → P a) → P (checked ts f a)
checked_case P [] f a p q = q refl
checked_case P (t ∷ ts) f a p q =
    unless_tells P t.holds _ _ (p t) (λ h. checked_case P ts f a p (λ m. q (true_both t.holds (all ts) h m)))

-- What is made of an answer is made of each refusal and of what is accepted.
pub checked_map : {A B : Type 0} (g : A → B) (ts : List Test) (f : Given → A) (a : A) → g (checked ts f a) ≡ checked ts (λ r. g (f r)) (g a)
checked_map g [] f a = refl
checked_map g (t ∷ ts) f a = go t.holds (checked_map g ts f a)
  where
    go : (h : Bool) → g (checked ts f a) ≡ checked ts (λ r. g (f r)) (g a) → g (unless h (f t.otherwise) (checked ts f a)) ≡ unless h (g (f t.otherwise)) (checked ts (λ r. g (f r)) (g a))
    go true again = again
    go false again = refl

-- The number of what tests give; and where none of them has a place, the number is all that they give.
pub given_number : (ts : List Test) → (given ts).number ≡ first_failing ts
given_number ts = checked_map (λ (g : Given). g.number) ts (λ r. r) (plain 0)

abbrev pub placeless : List Test → Bool
placeless [] = true
placeless (t ∷ ts) = both (not (has_place t.otherwise.place)) (placeless ts)

pub plain_given : (ts : List Test) → placeless ts ≡ true → plain (first_failing ts) ≡ given ts
plain_given [] e = refl
plain_given (t ∷ ts) e =
    let h = both_true (not (has_place t.otherwise.place)) (placeless ts) e in
    go t.holds t.otherwise h.0 (plain_given ts h.1)
  where
    alone : (n : ℕ) (w : Option ℕ) → not (has_place w) ≡ true → plain n ≡ record { number = n; place = w }
    alone n None e = refl
    alone n (Some i) e = never e

    go : (h : Bool) (g : Given) → not (has_place g.place) ≡ true → plain (first_failing ts) ≡ given ts
        → plain (unless h g.number (first_failing ts)) ≡ unless h g (given ts)
    go true g p again = again
    go false g p again = alone g.number g.place p

pub checked_append : {A : Type 0} (ts us : List Test) (f : Given → A) (a : A) → checked (ts ++ us) f a ≡ checked ts f (checked us f a)
checked_append [] us f a = refl
checked_append (t ∷ ts) us f a = rw (checked_append ts us f a)

pub all_append : (ts us : List Test) → all (ts ++ us) ≡ both (all ts) (all us)
all_append [] us = refl
all_append (t ∷ ts) us = rw (all_append ts us) (go t.holds)
  where
    go : (h : Bool) → both h (both (all ts) (all us)) ≡ both (both h (all ts)) (all us)
    go true = refl
    go false = refl

-- ---- What there are several of, numbered from n on.
here : (n : ℕ) → n + 0 ≡ n
here n = omega arith

later : (n i : ℕ) → n + 1 + i ≡ n + suc i
later n i = omega arith

pub every_at : {A : Type 0} (f : ℕ → A → Bool) (n : ℕ) (xs : List A) (i : ℕ) (d : A) → i < length xs → every f n xs ≡ true → f (n + i) (get_or xs i d) ≡ true
every_at f n [] i d h e = absurd (not-suc-le-zero h)
every_at f n (x ∷ xs) zero d h e = rw here (both_true (f n x) (every f (n + 1) xs) e).0
every_at f n (x ∷ xs) (suc i) d h e =
    rw later at (every_at f (n + 1) xs i d (le_of_suc-le-suc h) (both_true (f n x) (every f (n + 1) xs) e).1)

pub every_from : {A : Type 0} (f : ℕ → A → Bool) (n : ℕ) (xs : List A) (d : A) → ((i : ℕ) → i < length xs → f (n + i) (get_or xs i d) ≡ true) → every f n xs ≡ true
every_from f n [] d h = refl
every_from f n (x ∷ xs) d h =
    true_both (f n x) (every f (n + 1) xs) (rw here at (h 0 (omega arith)))
    (every_from f (n + 1) xs d (λ i g. ap (λ (k : ℕ). f k (get_or xs i d)) (later n i) ∙ h (suc i) (omega arith)))

-- One more of those that are left from i on.
pub every_next : {A : Type 0} (f : ℕ → A → Bool) (n : ℕ) (xs : List A) (i : ℕ) (d : A) → i < length xs
    → every f n (drop i xs) ≡ both (f n (get_or xs i d)) (every f (n + 1) (drop (i + 1) xs))
every_next f n xs i d h = rw (add-one i, drop-cons xs i d h)

pub each_next : {A B : Type 0} (f : ℕ → A → B) (n : ℕ) (xs : List A) (i : ℕ) (d : A) → i < length xs
    → each f n (drop i xs) ≡ f n (get_or xs i d) ∷ each f (n + 1) (drop (i + 1) xs)
each_next f n xs i d h = rw (add-one i, drop-cons xs i d h)

pub length_each : {A B : Type 0} (f : ℕ → A → B) (n : ℕ) (xs : List A) → length (each f n xs) ≡ length xs
length_each f n [] = refl
length_each f n (x ∷ xs) = ap suc (length_each f (n + 1) xs)

pub each_at : {A B : Type 0} (f : ℕ → A → B) (n : ℕ) (xs : List A) (i : ℕ) (e : B) (d : A) → i < length xs → get_or (each f n xs) i e ≡ f (n + i) (get_or xs i d)
each_at f n [] i e d h = absurd (not-suc-le-zero h)
each_at f n (x ∷ xs) zero e d h = rw here
each_at f n (x ∷ xs) (suc i) e d h = rw later at (each_at f (n + 1) xs i e d (le_of_suc-le-suc h))

pub each_set : {A B : Type 0} (f : ℕ → A → B) (n : ℕ) (xs : List A) (i : ℕ) (v : A) → each f n (set xs i v) ≡ set (each f n xs) i (f (n + i) v)
each_set f n [] i v = refl
each_set f n (x ∷ xs) zero v = rw here
each_set f n (x ∷ xs) (suc i) v = ap (λ l. f n x ∷ l) (rw later at (each_set f (n + 1) xs i v))

pub each_append : {A B : Type 0} (f : ℕ → A → B) (n : ℕ) (xs ys : List A) → each f n (xs ++ ys) ≡ each f n xs ++ each f (n + length xs) ys
each_append f n [] ys = rw here
each_append f n (x ∷ xs) ys = ap (λ l. f n x ∷ l) (rw later at (each_append f (n + 1) xs ys))

pub every_append : {A : Type 0} (f : ℕ → A → Bool) (n : ℕ) (xs ys : List A) → every f n (xs ++ ys) ≡ both (every f n xs) (every f (n + length xs) ys)
every_append f n [] ys = rw here
every_append f n (x ∷ xs) ys = go (f n x) (rw later at (every_append f (n + 1) xs ys))
  where
    go : (h : Bool) → every f (n + 1) (xs ++ ys) ≡ both (every f (n + 1) xs) (every f (n + suc (length xs)) ys)
        → both h (every f (n + 1) (xs ++ ys)) ≡ both (both h (every f (n + 1) xs)) (every f (n + suc (length xs)) ys)
    go true again = again
    go false again = refl

pub joined_append : {A : Type 0} (xs ys : List (List A)) → joined (xs ++ ys) ≡ joined xs ++ joined ys
joined_append [] ys = refl
joined_append (x ∷ xs) ys = rw (joined_append xs ys) (sym (append_assoc x (joined xs) (joined ys)))

-- ---- A list that is read from a place on.
-- One more byte.
pub drop_next : (s : List ℕ) (i : ℕ) → i < length s → drop i s ≡ get_or s i 0 ∷ drop (i + 1) s
drop_next s i h = drop-cons s i 0 h ∙ ap (λ (n : ℕ). get_or s i 0 ∷ drop n s) (sym (add-one i))

-- Three bytes of a list.
pub three_at : (s : List ℕ) (i : ℕ) → i + 2 < length s → take 3 (drop i s) ≡ get_or s i 0 ∷ get_or s (i + 1) 0 ∷ get_or s (i + 2) 0 ∷ []
three_at s i h =
    let a : drop i s ≡ get_or s i 0 ∷ drop (i + 1) s = drop_next s i (omega arith) in
    let b : drop (i + 1) s ≡ get_or s (i + 1) 0 ∷ drop (i + 1 + 1) s = drop_next s (i + 1) (omega arith) in
    let e : i + 1 + 1 ≡ i + 2 = omega arith in
    let d : drop (i + 2) s ≡ get_or s (i + 2) 0 ∷ drop (i + 2 + 1) s = drop_next s (i + 2) (omega arith) in
    rw (a, b, e, d)

-- A byte that is not 0, which `get_or` gives behind the end, stands inside.
pub stands : (s : List ℕ) (i : ℕ) → (get_or s i 0 ≡ 0 → ⊥) → i < length s
stands s i n = go (ltb i (length s)) refl
  where
    go : (t : Bool) → ltb i (length s) ≡ t → i < length s
    go true h = ltb-true i (length s) h
    go false h = absurd (n (get_or-eq_default s 0 {n = i} (ltb-false i (length s) h)))

-- ---- A buffer of which the first n bytes are those of s.
copied_suc : (s before : List ℕ) (n : ℕ) → n < length s → n < length before → set (take n s ++ drop n before) n (get_or s n 0) ≡ take (suc n) s ++ drop (suc n) before
copied_suc [] before n h g = absurd (not-suc-le-zero h)
copied_suc (x ∷ s) [] n h g = absurd (not-suc-le-zero g)
copied_suc (x ∷ s) (y ∷ before) zero h g = refl
copied_suc (x ∷ s) (y ∷ before) (suc n) h g = ap (λ (l : List ℕ). x ∷ l) (copied_suc s before n (le_of_suc-le-suc h) (le_of_suc-le-suc g))

pub copied_more : (s before : List ℕ) (n : ℕ) → n < length s → n < length before → set (take n s ++ drop n before) n (get_or s n 0) ≡ take (n + 1) s ++ drop (n + 1) before
copied_more s before n h g = rw add-one (copied_suc s before n h g)

pub copied_all : (s before : List ℕ) (n : ℕ) → n ≡ length s → take n s ++ drop n before ≡ over s before
copied_all s before n e = rw (e, take-length)

-- ---- A buffer with bytes laid over its front: one more byte, more bytes, and the part behind them when it was lent.
pub length_over : (w before : List ℕ) → length w ≤ length before → length (over w before) ≡ length before
length_over w before h = simp (length-append, length-drop) (omega arith)

pub over_next : (w before : List ℕ) (n v : ℕ) → length w ≡ n → n < length before → set (over w before) n v ≡ over (w ++ (v ∷ [])) before
over_next w before n v e h =
    ap (λ (l : List ℕ). set (w ++ l) n v) (drop-cons before (length w) 0 (omega arith))
    ∙ set_at w (get_or before (length w) 0) (drop (suc (length w)) before) v n e
    ∙ sym (append_snoc w v (drop (suc (length w)) before))
    ∙ ap (λ (k : ℕ). (w ++ (v ∷ [])) ++ drop k before) (longer w v)
  where
    longer : (w : List ℕ) (v : ℕ) → suc (length w) ≡ length (w ++ (v ∷ []))
    longer w v = simp length-append (omega arith)

pub over_over : (w more before : List ℕ) → w ++ over more (drop (length w) before) ≡ over (w ++ more) before
over_over w more before = simp (append_assoc, drop-drop, length-append)

-- Bytes that stand there already change nothing, and bytes laid over are gone under more bytes.
pub over_kept : (w before : List ℕ) (n : ℕ) → length w + n ≤ length before → over (w ++ take n (drop (length w) before)) before ≡ over w before
over_kept w before n h =
    sym (over_over w (take n (drop (length w) before)) before)
    ∙ ap (λ (k : ℕ). w ++ (take n (drop (length w) before) ++ drop k (drop (length w) before)))
    (length-take-le n (drop (length w) before) (simp length-drop (omega arith)))
    ∙ ap (λ (l : List ℕ). w ++ l) (take-append-drop n (drop (length w) before))

pub over_under : (f w before : List ℕ) → length w ≤ length f → over f (over w before) ≡ over f before
over_under f w before h =
    let k : length f ≡ length w + (length f - length w) = omega arith in
    ap (λ (j : ℕ). f ++ drop j (over w before)) k
    ∙ ap (λ (l : List ℕ). f ++ l) (drop-append-add w (drop (length w) before) (length f - length w) ∙ drop-drop (length f - length w) (length w) before)
    ∙ ap (λ (j : ℕ). f ++ drop j before) (sym k)

pub lent_tail : (a : ℕ) (xs : List ℕ) → mid_of a (length xs - a) xs ≡ drop a xs
lent_tail a xs = take_all (length xs - a) (drop a xs) (simp length-drop (omega arith))

pub tail_back : (a : ℕ) (xs ys : List ℕ) → put_mid a (length xs - a) xs ys ≡ take a xs ++ ys
tail_back a xs ys =
    ap (λ (l : List ℕ). take a xs ++ (ys ++ l)) (drop_of_length-le (drop a xs) {i = length xs - a} (simp length-drop (omega arith)))
    ∙ ap (λ (l : List ℕ). take a xs ++ l) (append-nil ys)

pub tail_laid : (a : ℕ) (w more before : List ℕ) → length w ≡ a → a ≤ length before
    → put_mid a (length (over w before) - a) (over w before) (over more (mid_of a (length (over w before) - a) (over w before))) ≡ over (w ++ more) before
tail_laid a w more before e h =
    tail_back a (over w before) (over more (mid_of a (length (over w before) - a) (over w before)))
    ∙ ap₂ (λ (p q : List ℕ). p ++ over more q) (take_at w (drop (length w) before) a e) (lent_tail a (over w before) ∙ drop_at w (drop (length w) before) a e)
    ∙ over_over w more before

laid_here : (a : ℕ) (w d before last : List ℕ) (r : Bool) → length w ≡ a → a + length d ≤ length before
    → Lays (mid_of a (length (over w before) - a) (over w before)) d r last → put_mid a (length (over w before) - a) (over w before) last ≡ over (w ++ d) before
laid_here a w d before last r e h p =
    let xs : List ℕ = over w before in
    let part : List ℕ = mid_of a (length xs - a) xs in
    ap (λ (l : List ℕ). put_mid a (length xs - a) xs l) (p.buffer ∙ ap (λ (b : Bool). over (pick b d []) part) (le-leb _ _ (room a w d before e h)))
    ∙ tail_laid a w d before e (omega arith)
  where
    room : (a : ℕ) (w d before : List ℕ) → length w ≡ a → a + length d ≤ length before → length d ≤ length (mid_of a (length (over w before) - a) (over w before))
    room a w d before e h = rw lent_tail (simp length-drop (omega (arith, length_over w before (omega arith))))

-- What a callee leaves in a buffer whose part from a on it was lent, where w stands before a and it laid bytes over the part's front.
pub left_behind : (a : ℕ) (w more before last xs : List ℕ) → length w ≡ a → a ≤ length before → xs ≡ over w before
    → last ≡ over more (mid_of a (length xs - a) xs) → put_mid a (length xs - a) xs last ≡ over (w ++ more) before
left_behind a w more before last xs e h q p =
    subst (λ (l : List ℕ). last ≡ over more (mid_of a (length l - a) l) → put_mid a (length l - a) l last ≡ over (w ++ more) before) (sym q)
    (λ u. ap (λ (l : List ℕ). put_mid a (length (over w before) - a) (over w before) l) u ∙ tail_laid a w more before e h)
    p

-- What `lay` leaves in a buffer whose part from a on it was lent, where w stands before a.
pub laid_behind : (a : ℕ) (w d before last : List ℕ) (r : Bool) (xs : List ℕ) → length w ≡ a → a + length d ≤ length before → xs ≡ over w before
    → Lays (mid_of a (length xs - a) xs) d r last → put_mid a (length xs - a) xs last ≡ over (w ++ d) before
laid_behind a w d before last r xs e h q p =
    subst (λ (l : List ℕ). Lays (mid_of a (length l - a) l) d r last → put_mid a (length l - a) l last ≡ over (w ++ d) before) (sym q) (laid_here a w d before last r e h) p

-- ---- The bytes before the first b.
-- The first b and what stands before it give the count, whatever stands behind.
pub run_kept : (b : ℕ) (s rest : List ℕ) → run b s < length s → run b (take (suc (run b s)) s ++ rest) ≡ run b s
run_kept b [] rest h = absurd (not-suc-le-zero h)
run_kept b (x ∷ s) rest h = go (eqb x b) refl (λ g. run_kept b s rest g)
  where
    go : (t : Bool) → eqb x b ≡ t → (run b s < length s → run b (take (suc (run b s)) s ++ rest) ≡ run b s)
        → run b (take (suc (run b (x ∷ s))) (x ∷ s) ++ rest) ≡ run b (x ∷ s)
    go true e again = rw e
    go false e again =
        let g : run b s + 1 < suc (length s) = rw e at h in
        rw e (ap (λ (k : ℕ). k + 1) (rw add-one (again (omega arith))))

pub text_length : (s : List ℕ) → length (text_space s) ≡ min (longest_update + 1) (length s - 1)
text_length s = simp (length-take, length-drop)
