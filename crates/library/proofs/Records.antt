-- The laws of records in bytes: what stands at the front is read first, bytes are their records written and what is left behind them, and
-- records that were written are read back.
use Prim.Native.Nat.{ℕ, zero, suc, ◌+◌, ◌≤◌, ◌<◌}
use mathlib.Core.Bool.{Bool, true, false}
use mathlib.Core.List.{List, [], ◌∷◌, ◌++◌, append_assoc}
use mathlib.Core.Path.{◌≡◌, refl, sym, ◌∙◌, ap, ap₂}
use native.Mathlib.Omega.{arith}
use borrow.Author.Tests.{eq-eqb, le-leb, leb-true, eqb-true}
use lib.ListN.{length, get_or, take, drop, replicate, length-append, length-drop, take-append-drop}
use lib.Seq.{drop-append-add, drop-append_seam, get_or-drop, length-take-le, take-add, take-append_seam}
use Rattle.frame.specs.Wire.{word, high, low}
use Rattle.frame.proofs.Ground.{both_true, true_both}
use Rattle.library.specs.Record.{Record, begins, body_size, front, head, head_size, record_bytes, record_size, records, records_in, rest, rest_in, written}
use Rattle.library.specs.StoreLaws.{AllBytes}

-- What follows from a test's being true, and what from its being false, follows.
pub by_test : {A : Type 0} (b : Bool) → (b ≡ true → A) → (b ≡ false → A) → A
by_test true p q = p refl
by_test false p q = q refl

pub bytes_drop : (n : ℕ) (s : List ℕ) → AllBytes s → AllBytes (drop n s)
bytes_drop n s f i = rw (get_or-drop n s i 0) (f (n + i))

-- ---- A record at the front.
pub record Begins (s : List ℕ) : Type 0 where
  pub mark : get_or s 0 0 ≡ 0x4C
  pub second : get_or s 1 0 ≡ 0x52
  pub inside : record_size s ≤ length s

pub begins_tells : (s : List ℕ) → begins s ≡ true → Begins s
unfolding begins
begins_tells s e =
    let m = both_true _ _ e in
    let n = both_true _ _ m.1 in
    record {
      mark = eqb-true (get_or s 0 0) 0x4C m.0;
      second = eqb-true (get_or s 1 0) 0x52 n.0;
      inside = leb-true (record_size s) (length s) n.1;
    }

pub tells_begins : (s : List ℕ) → Begins s → begins s ≡ true
unfolding begins
tells_begins s b =
    true_both _ _ (eq-eqb (get_or s 0 0) 0x4C b.mark)
    (true_both _ _ (eq-eqb (get_or s 1 0) 0x52 b.second) (le-leb (record_size s) (length s) b.inside))

pub not_begins : (s : List ℕ) → (Begins s → ⊥) → begins s ≡ false
not_begins s n = by_test (begins s) (λ e. absurd (n (begins_tells s e))) (λ e. e)

too_short : (s : List ℕ) → length s < head_size → begins s ≡ false
too_short s h = not_begins s (λ b. let i = b.inside in omega arith)

-- Where 00h stands no record does.
pub zeros_end : (n : ℕ) → begins (replicate n 0) ≡ false
zeros_end zero = too_short [] (omega arith)
zeros_end (suc n) = not_begins (0 ∷ replicate n 0) (λ b. let m = b.mark in omega arith)

-- ---- What is read first. As many readings as there are bytes are enough, and more change nothing.
shorter : (s : List ℕ) (most : ℕ) → length s ≤ suc most → length (drop (record_size s) s) ≤ most
shorter s most h = simp length-drop (omega arith)

enough : (f g : ℕ) (s : List ℕ) → length s ≤ f → length s ≤ g → (records_in f s ≡ records_in g s) × (rest_in f s ≡ rest_in g s)
enough zero zero s h k = (refl, refl)
enough zero (suc g) s h k = rw (too_short s (omega arith)) (refl, refl)
enough (suc f) zero s h k = rw (too_short s (omega arith)) (refl, refl)
enough (suc f) (suc g) s h k =
    by_test (begins s)
    (λ e.
    let again = enough f g (drop (record_size s) s) (shorter s f h) (shorter s g k) in
    rw e (ap (λ (l : List Record). front s ∷ l) again.0, again.1))
    (λ e. rw e (refl, refl))

pub record Turned (s : List ℕ) : Type 0 where
  pub first : records s ≡ front s ∷ records (drop (record_size s) s)
  pub behind : rest s ≡ rest (drop (record_size s) s)

pub turned : (s : List ℕ) → begins s ≡ true → Turned s
unfolding records rest
turned s e =
    let t : List ℕ = drop (record_size s) s in
    let more = enough (length s) (suc (length s)) s (omega arith) (omega arith) in
    let less = enough (length s) (length t) t (shorter s (length s) (omega arith)) (omega arith) in
    record { first = more.0 ∙ rw e (ap (λ (l : List Record). front s ∷ l) less.0); behind = more.1 ∙ rw e less.1 }

pub none_left : (s : List ℕ) → begins s ≡ false → (records s ≡ []) × (rest s ≡ s)
unfolding records rest
none_left s e =
    let more = enough (length s) (suc (length s)) s (omega arith) (omega arith) in
    (more.0 ∙ rw e, more.1 ∙ rw e)

-- What holds where no record stands, and where one stands if it holds behind it, holds of all bytes.
pub by_records : (P : List ℕ → Type 0) → ((s : List ℕ) → begins s ≡ false → P s)
    → ((s : List ℕ) → begins s ≡ true → P (drop (record_size s) s) → P s) → (s : List ℕ) → P s
by_records P end turn s = go (length s) s (omega arith)
  where
    go : (most : ℕ) (s : List ℕ) → length s ≤ most → P s
    go zero s h = end s (too_short s (omega arith))
    go (suc most) s h = by_test (begins s) (λ e. turn s e (go most (drop (record_size s) s) (shorter s most h))) (end s)

-- ---- The bytes of a record.
pub high_back : (a b : ℕ) → b < 256 → high (word a b) ≡ a
high_back a b h = omega arith

pub low_back : (a b : ℕ) → b < 256 → low (word a b) ≡ b
low_back a b h = omega arith

pub word_back : (n : ℕ) → word (high n) (low n) ≡ n
word_back n = omega arith

head_at : (s : List ℕ) → head_size ≤ length s → take head_size s ≡ get_or s 0 0 ∷ get_or s 1 0 ∷ get_or s 2 0 ∷ get_or s 3 0 ∷ get_or s 4 0 ∷ []
head_at [] h = absurd (omega arith)
head_at (a ∷ []) h = absurd (omega arith)
head_at (a ∷ b ∷ []) h = absurd (omega arith)
head_at (a ∷ b ∷ c ∷ []) h = absurd (omega arith)
head_at (a ∷ b ∷ c ∷ d ∷ []) h = absurd (omega arith)
head_at (a ∷ b ∷ c ∷ d ∷ e ∷ s) h = refl

same_head : {a b c d a' b' c' d' : ℕ} (n : ℕ) (l : List ℕ) → a ≡ a' → b ≡ b' → c ≡ c' → d ≡ d' → a ∷ b ∷ n ∷ c ∷ d ∷ l ≡ a' ∷ b' ∷ n ∷ c' ∷ d' ∷ l
same_head n l p q r s = cc

front_length : (s : List ℕ) → begins s ≡ true → length (front s).body ≡ body_size s
front_length s e =
    let b = begins_tells s e in
    length-take-le (body_size s) (drop head_size s) (simp length-drop (omega (arith, b.inside)))

-- The record read at the front is the bytes that it was read from.
pub front_bytes : (s : List ℕ) → begins s ≡ true → AllBytes s → record_bytes (front s) ≡ take (record_size s) s
front_bytes s e f =
    let b = begins_tells s e in
    let k = front_length s e in
    same_head (get_or s 2 0) (front s).body (sym b.mark) (sym b.second)
    (ap high k ∙ high_back (get_or s 3 0) (get_or s 4 0) (f 4))
    (ap low k ∙ low_back (get_or s 3 0) (get_or s 4 0) (f 4))
    ∙ sym (take-add head_size (body_size s) s ∙ ap (λ (l : List ℕ). l ++ take (body_size s) (drop head_size s)) (head_at s (omega (arith, b.inside))))

-- Bytes are their records, written, and what is left.
pub rewritten : (s : List ℕ) → AllBytes s → written (records s) ++ rest s ≡ s
rewritten =
    by_records (λ (s : List ℕ). AllBytes s → written (records s) ++ rest s ≡ s)
    (λ s e f. rw (none_left s e).0 (none_left s e).1)
    (λ s e again f.
    let t : List ℕ = drop (record_size s) s in
    ap₂ (λ (l : List Record) (m : List ℕ). written l ++ m) (turned s e).first (turned s e).behind
    ∙ append_assoc (record_bytes (front s)) (written (records t)) (rest t)
    ∙ ap₂ (λ (l m : List ℕ). l ++ m) (front_bytes s e f) (again (bytes_drop (record_size s) s f))
    ∙ take-append-drop (record_size s) s)

-- ---- What was written is read back.
module _ (n : ℕ) (body t : List ℕ) where
  sized : body_size (head n (length body) ++ (body ++ t)) ≡ length body
  sized = word_back (length body)

  stands : begins (head n (length body) ++ (body ++ t)) ≡ true
  stands = tells_begins _ record { mark = refl; second = refl; inside = omega (arith, sized, length-append body t) }

  read : front (head n (length body) ++ (body ++ t)) ≡ record { number = n; body = body }
  read =
      ap (λ (l : List ℕ). record { number = n; body = l }) (ap (λ (k : ℕ). take k (body ++ t)) sized ∙ take-append_seam body t)

  passed : drop (record_size (head n (length body) ++ (body ++ t))) (head n (length body) ++ (body ++ t)) ≡ t
  passed =
      ap (λ (k : ℕ). drop (head_size + k) (head n (length body) ++ (body ++ t))) sized
      ∙ drop-append-add (head n (length body)) (body ++ t) (length body)
      ∙ drop-append_seam body t

pub record_first : (r : Record) (t : List ℕ) → (records (record_bytes r ++ t) ≡ r ∷ records t) × (rest (record_bytes r ++ t) ≡ rest t)
record_first r t =
    let there = turned (record_bytes r ++ t) (stands r.number r.body t) in
    let behind = passed r.number r.body t in (
      there.first ∙ ap₂ (λ (one : Record) (l : List ℕ). one ∷ records l) (read r.number r.body t) behind,
      there.behind ∙ ap rest behind,
    )

pub read_back : (rs : List Record) (t : List ℕ) → begins t ≡ false → (records (written rs ++ t) ≡ rs) × (rest (written rs ++ t) ≡ t)
read_back [] t e = none_left t e
read_back (r ∷ rs) t e =
    let again = read_back rs t e in
    let there = record_first r (written rs ++ t) in
    let laid = append_assoc (record_bytes r) (written rs) t in (
      ap records laid ∙ there.0 ∙ ap (λ (l : List Record). r ∷ l) again.0,
      ap rest laid ∙ there.1 ∙ again.1,
    )
