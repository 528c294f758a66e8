-- What a valid state tells of each part of it: the tests that it passed, taken apart.
use Prim.Native.Nat.{ℕ, zero, suc, ◌+◌, ◌-◌, ◌≤◌}
use mathlib.Core.Bool.{Bool, true, false}
use mathlib.Core.List.{List, [], ◌∷◌}
use mathlib.Core.Path.{◌≡◌, refl, sym, ◌∙◌}
use native.Mathlib.Omega.{arith}
use borrow.Author.Tests.{eqb-true, leb-true, le-leb, ltb-false, ne_eqb, not-true}
use lib.Dec.{eqb, leb}
use lib.ListN.{length, get_or}
use Rattle.frame.specs.Ground.{within, every}
use Rattle.frame.proofs.Ground.{never, both_true, within_true, pick_case}
use Rattle.content.specs.Content.{is_content}
use Rattle.calendar.specs.Clock.{is_real}
use Rattle.calendar.specs.DateChange.{is_time}
use Rattle.printer.specs.Counter.{Counter, valid_counter}
use Rattle.printer.specs.Jet.{Jet, has_jet, has_message, message, valid_message, valid_jet}
use Rattle.printer.specs.State.{Printer, empty_jet, jet_at, valid, valid_jets, valid_state, printer_of, state_size}

pub valid_size : (m : List ℕ) → valid_state m ≡ true → length m ≡ state_size
unfolding valid_state
valid_size m v = eqb-true (length m) state_size (both_true _ _ v).0

pub valid_printer : (m : List ℕ) → valid_state m ≡ true → valid (printer_of m) ≡ true
unfolding valid_state
valid_printer m v = (both_true (eqb (length m) state_size) _ v).1

pub valid_model : (p : Printer) → valid p ≡ true → within 1 4 p.model ≡ true
unfolding valid
valid_model p v = (both_true _ _ v).0

pub valid_clock : (p : Printer) → valid p ≡ true → is_real p.clock ≡ true
unfolding valid
valid_clock p v = (both_true _ _ (both_true (within 1 4 p.model) _ v).1).0

pub valid_time : (p : Printer) → valid p ≡ true → is_time p.date_change ≡ true
unfolding valid
valid_time p v = (both_true _ _ (both_true (is_real p.clock) _ (both_true (within 1 4 p.model) _ v).1).1).0

pub valid_row : (p : Printer) → valid p ≡ true → valid_jets p ≡ true
unfolding valid
valid_row p v =
    (both_true (is_time p.date_change) _ (both_true (is_real p.clock) _ (both_true (within 1 4 p.model) _ v).1).1).1

-- What holds of every one of a row holds of the one at a place, and behind the row of what is given there.
pub every_at : {A : Type 0} (f : ℕ → A → Bool) (n i : ℕ) (xs : List A) (d : A) {m : ℕ} → m ≡ n + i → every f n xs ≡ true → f m d ≡ true
    → f m (get_or xs i d) ≡ true
every_at f n i [] d e v w = w
every_at f n zero (x ∷ xs) d {m} e v w =
    let same : m ≡ n = omega arith in
    rw same (both_true _ _ v).0
every_at f n (suc i) (x ∷ xs) d {m} e v w = every_at f (n + 1) i xs d (omega arith) (both_true (f n x) _ v).1 w

pub empty_valid : (b : Bool) → valid_jet b empty_jet ≡ true
unfolding valid_jet valid_message valid_counter empty_jet
empty_valid true = refl
empty_valid false = refl

-- Every jet, also one that the printer lacks.
pub valid_at : (p : Printer) (n : ℕ) → valid p ≡ true → 1 ≤ n → valid_jet (has_jet p.model n) (jet_at p n) ≡ true
valid_at p n v h =
    every_at (λ (k : ℕ) (j : Jet). valid_jet (has_jet p.model k) j) 1 (n - 1) p.jets empty_jet (omega arith) (valid_row p v)
    (empty_valid (has_jet p.model n))

message_content : (j : Jet) → valid_message j ≡ true → has_message j ≡ true → (j.length ≤ 512) × (is_content (message j) ≡ true)
unfolding valid_message
message_content j e h =
    let a = both_true (leb j.length 512) (is_content (message j)) (rw h at e) in
    (leb-true j.length 512 a.0, a.1)

present_tells : (j : Jet) → valid_jet true j ≡ true → (valid_message j ≡ true) × (valid_counter j.counter ≡ true)
unfolding valid_jet
present_tells j v = both_true _ _ v

-- A jet that the printer lacks holds nothing.
pub absent_empty : (j : Jet) → valid_jet false j ≡ true → (has_message j ≡ false) × (j.counter.set ≡ 0)
unfolding valid_jet
absent_empty j v = let a = both_true _ _ v in (not-true _ a.0, eqb-true j.counter.set 0 a.1)

-- No valid jet's message is longer than 512 bytes.
pub jet_short : (b : Bool) (j : Jet) → valid_jet b j ≡ true → j.length ≤ 512
jet_short true j v = go (has_message j) refl
  where
    go : (t : Bool) → has_message j ≡ t → j.length ≤ 512
    go true h = (message_content j (present_tells j v).0 h).0
    go false h = let z = ltb-false 0 j.length h in omega arith
jet_short false j v = let z = ltb-false 0 j.length (absent_empty j v).0 in omega arith

unset_valid : (c : Counter) → c.set ≡ 0 → valid_counter c ≡ true
unfolding valid_counter
unset_valid c e = rw (le-leb c.set 1 (omega arith), ne_eqb c.set 1 (λ q. omega arith)) refl

pub jet_counter : (b : Bool) (j : Jet) → valid_jet b j ≡ true → valid_counter j.counter ≡ true
jet_counter true j v = (present_tells j v).1
jet_counter false j v = unset_valid j.counter (absent_empty j v).1

pub jet_content : (b : Bool) (j : Jet) → valid_jet b j ≡ true → has_message j ≡ true → is_content (message j) ≡ true
jet_content true j v h = (message_content j (present_tells j v).0 h).1
jet_content false j v h = never (sym (absent_empty j v).0 ∙ h)

-- Jets have the numbers 1 to 4.
pub on_row : (model n : ℕ) → has_jet model n ≡ true → (1 ≤ n) × (n ≤ 4)
unfolding has_jet
on_row model n =
    pick_case P (eqb model 1) _ _ (λ _ e. let q = eqb-true n 1 e in omega arith)
    (λ _. pick_case P (eqb model 2) _ _ (λ _ e. let w = within_true 1 2 n e in omega arith)
    (λ _. pick_case P (eqb model 3) _ _
    (λ _. pick_case P (eqb n 1) _ _ (λ e _. let q = eqb-true n 1 e in omega arith) (λ _ e. let q = eqb-true n 3 e in omega arith))
    (λ _. pick_case P (eqb model 4) _ _ (λ _ e. within_true 1 4 n e) (λ _ e. never e))))
  where
    P : Bool → Type 0
    P t = t ≡ true → (1 ≤ n) × (n ≤ 4)

-- A content is never longer than a jet has room for.
pub content_short : (s : List ℕ) → is_content s ≡ true → length s ≤ 512
unfolding is_content
content_short s h = leb-true (length s) 512 (both_true _ _ h).0

-- Every state has four jets, also those that the printer lacks.
pub four_jets : (m : List ℕ) → length (printer_of m).jets ≡ 4
unfolding printer_of
four_jets m = refl
