-- The bytes of a state: what the part of a jet is, and what the whole becomes when that part is written anew.
use Prim.Native.Nat.{ℕ, zero, suc, ◌+◌, ◌-◌, ◌*◌, ◌≤◌, ◌<◌}
use mathlib.Core.Bool.{Bool, true, false}
use mathlib.Core.List.{List, [], ◌∷◌, ◌++◌, append_assoc, map}
use mathlib.Core.Path.{◌≡◌, refl, sym, ◌∙◌, ap, ap₂}
use native.Mathlib.Nat.{mul-suc, not-suc-le-zero, le_of_suc-le-suc}
use native.Mathlib.Omega.{arith}
use borrow.Rule.Slice.PartMut.{mid_of, put_mid, mid_len}
use lib.ListN.{length, get_or, replicate, replicate-append-replicate, set, take, drop, length-drop, length-take, take-append-drop}
use lib.Seq.{drop-drop, take-add, take_at, drop_at}
use Rattle.std.specs.List.{list_all, range_with_len}
use Rattle.std.specs.Prelude.{◌&&◌}
use Rattle.frame.specs.Ground.{both, joined, every}
use Rattle.printer.specs.Counter.{counter_of}
use Rattle.printer.specs.Jet.{Jet, jet_size, jet_of, jet_bytes}
use Rattle.printer.specs.State.{state_size, jets_place, jet_at, with_jet, with_jets, with_clock, with_date_change, clock_bytes, jets_of, jet_place, empty_jet, fresh_printer, front_bytes, printer_of, bytes_of}
use Rattle.calendar.specs.declared.clock.Clock.{Clock}
use Rattle.calendar.specs.declared.date_change.TimeOfDay.{TimeOfDay}
use Rattle.printer.proofs.Numbers.{Bytes, bytes_take, bytes_drop}
use Rattle.printer.proofs.Jets.{jet_back}

pub part_bytes : (a k : ℕ) (m : List ℕ) → Bytes m → Bytes (mid_of a k m)
part_bytes a k m f = bytes_take k (drop a m) (bytes_drop a m f)

-- ---- A row of jets: all of it, the jet at a place, and the row with another jet there.
pub next_place : (i : ℕ) → jet_size * suc i ≡ jet_size + jet_size * i
next_place i = rw mul-suc (omega arith)

behind : (a n : ℕ) → a + n - a ≡ n
behind a n = omega arith

mid_behind : (a i k : ℕ) (b : List ℕ) → mid_of (a + i) k b ≡ mid_of i k (drop a b)
mid_behind a i k b = ap (take k) (sym (drop-drop i a b))

put_behind : (a i k : ℕ) (b ys : List ℕ) → put_mid (a + i) k b ys ≡ take a b ++ put_mid i k (drop a b) ys
put_behind a i k b ys = rw (take-add, append_assoc, ← drop-drop i a b) refl

first_back : (b : List ℕ) → jet_size ≤ length b → Bytes b → jet_bytes (jet_of (take jet_size b)) ≡ take jet_size b
first_back b h f = jet_back (take jet_size b) (rw length-take (omega arith)) (bytes_take jet_size b f)

pub jets_back : (k : ℕ) (b : List ℕ) → length b ≡ jet_size * k → Bytes b → joined (map jet_bytes (jets_of k b)) ≡ b
jets_back zero [] full f = refl
jets_back zero (x ∷ b) full f = absurd (omega arith)
jets_back (suc k) b full f =
    let n = next_place k in
    ap₂ (λ (x y : List ℕ). x ++ y) (first_back b (omega arith) f) (jets_back k (drop jet_size b) (rw length-drop (omega arith)) (bytes_drop jet_size b f))
    ∙ take-append-drop jet_size b

pub jets_at : (k i : ℕ) (b : List ℕ) (j : Jet) → i < k → get_or (jets_of k b) i j ≡ jet_of (mid_of (jet_size * i) jet_size b)
jets_at zero i b j h = absurd (not-suc-le-zero h)
jets_at (suc k) zero b j h = refl
jets_at (suc k) (suc i) b j h =
    jets_at k i (drop jet_size b) j (le_of_suc-le-suc h)
    ∙ ap jet_of (sym (mid_behind jet_size (jet_size * i) jet_size b) ∙ ap (λ (a : ℕ). mid_of a jet_size b) (sym (next_place i)))

pub jets_put : (k i : ℕ) (b : List ℕ) (j : Jet) → i < k → length b ≡ jet_size * k → Bytes b
    → put_mid (jet_size * i) jet_size b (jet_bytes j) ≡ joined (map jet_bytes (set (jets_of k b) i j))
jets_put zero i b j h full f = absurd (not-suc-le-zero h)
jets_put (suc k) zero b j h full f =
    let n = next_place k in
    ap (λ (l : List ℕ). jet_bytes j ++ l) (sym (jets_back k (drop jet_size b) (rw length-drop (omega arith)) (bytes_drop jet_size b f)))
jets_put (suc k) (suc i) b j h full f =
    let n = next_place k in
    ap (λ (a : ℕ). put_mid a jet_size b (jet_bytes j)) (next_place i)
    ∙ put_behind jet_size (jet_size * i) jet_size b (jet_bytes j)
    ∙ ap₂ (λ (x y : List ℕ). x ++ y) (sym (first_back b (omega arith) f))
    (jets_put k i (drop jet_size b) j (le_of_suc-le-suc h) (rw length-drop (omega arith)) (bytes_drop jet_size b f))

-- ---- The nine bytes before the jets.
data Headed : List ℕ → Type 0 where
  headed : (a b c d e f g h i : ℕ) (r : List ℕ) → Headed (a ∷ b ∷ c ∷ d ∷ e ∷ f ∷ g ∷ h ∷ i ∷ r)

head_of : (m : List ℕ) → jets_place ≤ length m → Headed m
head_of [] h = absurd (omega arith)
head_of (a ∷ []) h = absurd (omega arith)
head_of (a ∷ b ∷ []) h = absurd (omega arith)
head_of (a ∷ b ∷ c ∷ []) h = absurd (omega arith)
head_of (a ∷ b ∷ c ∷ d ∷ []) h = absurd (omega arith)
head_of (a ∷ b ∷ c ∷ d ∷ e ∷ []) h = absurd (omega arith)
head_of (a ∷ b ∷ c ∷ d ∷ e ∷ f ∷ []) h = absurd (omega arith)
head_of (a ∷ b ∷ c ∷ d ∷ e ∷ f ∷ g ∷ []) h = absurd (omega arith)
head_of (a ∷ b ∷ c ∷ d ∷ e ∷ f ∷ g ∷ i ∷ []) h = absurd (omega arith)
head_of (a ∷ b ∷ c ∷ d ∷ e ∷ f ∷ g ∷ i ∷ j ∷ r) h = headed a b c d e f g i j r

-- They are the type, the clock and the date change.
pub front_back : (m : List ℕ) → jets_place ≤ length m → front_bytes (printer_of m) ≡ take jets_place m
unfolding printer_of
front_back m h = go (head_of m h)
  where
    go : {m : List ℕ} → Headed m → front_bytes (printer_of m) ≡ take jets_place m
    go (headed a b c d e f g h i r) = refl

pub state_back : (m : List ℕ) → length m ≡ state_size → Bytes m → bytes_of (printer_of m) ≡ m
unfolding printer_of bytes_of
state_back m full f =
    ap (λ (l : List ℕ). l ++ joined (map jet_bytes (jets_of 4 (drop jets_place m)))) (front_back m (omega arith))
    ∙ ap (λ (l : List ℕ). take jets_place m ++ l) (jets_back 4 (drop jets_place m) (rw length-drop (omega arith)) (bytes_drop jets_place m f))
    ∙ take-append-drop jets_place m

-- Another moment in its place.
pub clock_put : (m : List ℕ) (c : Clock) {l : List ℕ} → length m ≡ state_size → Bytes m → l ≡ clock_bytes c
    → put_mid 1 6 m l ≡ bytes_of (with_clock (printer_of m) c)
unfolding printer_of bytes_of
clock_put m c full f q = ap (put_mid 1 6 m) q ∙ go (head_of m (omega arith)) (jets_back 4 (drop jets_place m) (rw length-drop (omega arith)) (bytes_drop jets_place m f))
  where
    go : {m : List ℕ} → Headed m → joined (map jet_bytes (jets_of 4 (drop jets_place m))) ≡ drop jets_place m
        → put_mid 1 6 m (clock_bytes c) ≡ bytes_of (with_clock (printer_of m) c)
    go (headed a _ _ _ _ _ _ h i r) e =
        ap (λ (l : List ℕ). a ∷ c.second ∷ c.minute ∷ c.hour ∷ c.date.day ∷ c.date.month ∷ c.date.year ∷ h ∷ i ∷ l) (sym e)

-- Another date change in its place.
pub date_change_put : (m : List ℕ) (t : TimeOfDay) → length m ≡ state_size → Bytes m
    → set (set m 7 t.hour) 8 t.minute ≡ bytes_of (with_date_change (printer_of m) t)
unfolding printer_of bytes_of
date_change_put m t full f = go (head_of m (omega arith)) (jets_back 4 (drop jets_place m) (rw length-drop (omega arith)) (bytes_drop jets_place m f))
  where
    go : {m : List ℕ} → Headed m → joined (map jet_bytes (jets_of 4 (drop jets_place m))) ≡ drop jets_place m
        → set (set m 7 t.hour) 8 t.minute ≡ bytes_of (with_date_change (printer_of m) t)
    go (headed a b c d e f g _ _ r) p = ap (λ (l : List ℕ). a ∷ b ∷ c ∷ d ∷ e ∷ f ∷ g ∷ t.hour ∷ t.minute ∷ l) (sym p)

-- The part of a jet has 559 bytes, and is that jet.
pub part_full : (m : List ℕ) (at : ℕ) → length m ≡ state_size → at + jet_size ≤ state_size → length (mid_of at (at + jet_size - at) m) ≡ jet_size
part_full m at full h = mid_len at (at + jet_size) m (omega arith) ∙ behind at jet_size

pub jet_lent : (m : List ℕ) (n : ℕ) {at : ℕ} → at ≡ jet_place n → 1 ≤ n → n ≤ 4 → jet_of (mid_of at (at + jet_size - at) m) ≡ jet_at (printer_of m) n
unfolding printer_of
jet_lent m n e h g = rw (e, behind (jet_place n) jet_size)
    (ap jet_of (mid_behind jets_place (jet_size * (n - 1)) jet_size m) ∙ sym (jets_at 4 (n - 1) (drop jets_place m) empty_jet (omega arith)))

-- A jet's bytes written into its part.
pub jet_put : (m : List ℕ) (n : ℕ) (j : Jet) {at : ℕ} {last : List ℕ} → length m ≡ state_size → Bytes m → at ≡ jet_place n → 1 ≤ n → n ≤ 4
    → last ≡ jet_bytes j → put_mid at (at + jet_size - at) m last ≡ bytes_of (with_jet (printer_of m) n j)
unfolding printer_of bytes_of
jet_put m n j full f e h g q = rw (e, q, behind (jet_place n) jet_size)
    (put_behind jets_place (jet_size * (n - 1)) jet_size m (jet_bytes j)
    ∙ ap (λ (l : List ℕ). take jets_place m ++ l) (jets_put 4 (n - 1) (drop jets_place m) j (omega arith) (rw length-drop (omega arith)) (bytes_drop jets_place m f))
    ∙ ap (λ (l : List ℕ). l ++ joined (map jet_bytes (set (jets_of 4 (drop jets_place m)) (n - 1) j))) (sym (front_back m (omega arith))))

-- ---- A state of zeros, which a fresh printer is but for its type and its moment; midnight is two of them.
zero_jet : jet_of (replicate jet_size 0) ≡ empty_jet
unfolding jet_of counter_of empty_jet
zero_jet = refl

zero_jets : (k : ℕ) → jets_of k (replicate (jet_size * k) 0) ≡ replicate k empty_jet
zero_jets zero = refl
zero_jets (suc k) =
    let first : List ℕ = replicate jet_size 0 in
    let rest : List ℕ = replicate (jet_size * k) 0 in
    ap (λ (n : ℕ). jets_of (suc k) (replicate n 0)) (next_place k)
    ∙ ap (jets_of (suc k)) (sym (replicate-append-replicate jet_size (jet_size * k) 0))
    ∙ ap₂ (λ (l m : List ℕ). jet_of l ∷ jets_of k m) (take_at first rest jet_size refl) (drop_at first rest jet_size refl)
    ∙ ap₂ (λ (j : Jet) (js : List Jet). j ∷ js) zero_jet (zero_jets k)

pub zeros_fresh : (model : ℕ) (c : Clock) {m : List ℕ} → m ≡ replicate state_size 0 → with_clock (printer_of (set m 0 model)) c ≡ fresh_printer model c
unfolding printer_of
zeros_fresh model c e =
    ap (λ (l : List ℕ). with_clock (printer_of (set l 0 model)) c) e
    ∙ ap (with_jets (fresh_printer model c)) (zero_jets 4)

-- ---- A test of one jet after the other.
and_both : (a b : Bool) → (a && b) ≡ both a b
and_both true b = refl
and_both false b = refl

pub four_asked : (f : ℕ → Jet → Bool) (m : List ℕ) → list_all (λ (n : ℕ). f n (jet_at (printer_of m) n)) (range_with_len 1 4) ≡ every f 1 (printer_of m).jets
unfolding printer_of
four_asked f m = simp and_both
