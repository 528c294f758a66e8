-- The laws of counters: what good settings and a valid counter tell, and that the 34 bytes of a counter and the counter are one.
use Prim.Native.Nat.{ℕ, ◌-◌, ◌≤◌, ◌<◌}
use mathlib.Core.Bool.{Bool, true, false}
use mathlib.Core.List.{List, [], ◌∷◌, ◌++◌, append_assoc, append-nil}
use mathlib.Core.Path.{◌≡◌, refl, sym, ◌∙◌, ap, ap₂, subst}
use native.Mathlib.Omega.{arith}
use borrow.Author.Tests.{eqb-true, leb-true, lt-ltb, ltb-true}
use borrow.Rule.Slice.PartMut.{put_mid, same_len_mid}
use lib.Dec.{eqb, leb, ltb}
use lib.ListN.{length, get_or, take, drop, set, length-append, length-drop, length-take, drop_of_length-le, take-append-drop}
use lib.Seq.{drop_at, drop-drop, get_or_at, length-take-le, take_all, take_at, take-suc, take-suc-set}
use Rattle.frame.specs.Ground.{both, unless, within}
use Rattle.frame.proofs.Ground.{both_true, true_both, true_within, within_true, drop_next}
use Rattle.printer.specs.Number.{digits, in_bytes, number_of}
use Rattle.printer.specs.Counter.{Counter, all_digits_in, control, counted, counter_bytes, counter_of, counter_size, counter_text, final, good_settings, initial, is_set, lot, next_batch, next_value, set_to, step, valid_counter}
use Rattle.std.proofs.Common.{Option, Some}
use Rattle.std.specs.Option.{IfSome}
use Rattle.printer.specs.Settings.{Reads, Says}
use Rattle.printer.specs.declared.counter.Settings.{Settings}
use Rattle.printer.proofs.Numbers.{Bytes, bytes_back, bytes_drop, bytes_take, number_in_bytes}

-- ---- What a test of a counter tells.
pub record Good (q : List ℕ) : Type 0 where
  pub digits : all_digits_in q ≡ true
  pub order : initial q ≤ final q
  pub grows : 1 ≤ step q
  pub some : 1 ≤ lot q

pub good_tells : (q : List ℕ) → good_settings q ≡ true → Good q
unfolding good_settings
good_tells q e =
    let a = both_true (eqb (control q) 0x89) _ e in
    let b = both_true (all_digits_in q) _ a.1 in
    let d = both_true (leb (initial q) (final q)) _ b.1 in
    let f = both_true (leb 1 (step q)) (leb 1 (lot q)) d.1 in
    record {
      digits = b.0;
      order = leb-true (initial q) (final q) d.0;
      grows = leb-true 1 (step q) f.0;
      some = leb-true 1 (lot q) f.1;
    }

-- 01, Numbers: "the counter lies from initial to final with batch below lot".
pub record Counting (c : Counter) : Type 0 where
  pub good : good_settings c.settings ≡ true
  pub least : initial c.settings ≤ c.value
  pub most : c.value ≤ final c.settings
  pub below : c.batch < lot c.settings

pub valid_tells : (c : Counter) → valid_counter c ≡ true → is_set c ≡ true → Counting c
unfolding valid_counter
valid_tells c v s =
    let q = c.settings in
    let rest : Bool = both (good_settings q) (both (within (initial q) (final q) c.value) (ltb c.batch (lot q))) in
    let a : rest ≡ true = ap (λ (b : Bool). unless b true rest) (sym s) ∙ (both_true (leb c.set 1) (unless (is_set c) true rest) v).1 in
    let b = both_true (good_settings q) _ a in
    let d = both_true (within (initial q) (final q) c.value) (ltb c.batch (lot q)) b.1 in
    let w = within_true (initial q) (final q) c.value d.0 in
    record { good = b.0; least = w.0; most = w.1; below = ltb-true c.batch (lot q) d.1 }

pub tells_valid : (c : Counter) → c.set ≡ 1 → Counting c → valid_counter c ≡ true
unfolding valid_counter
tells_valid c s k =
    let q = c.settings in
    rw s
    (true_both _ _ k.good
    (true_both _ _ (true_within (initial q) (final q) c.value k.least k.most) (lt-ltb c.batch (lot q) k.below)))

pub set_one : (c : Counter) → is_set c ≡ true → c.set ≡ 1
set_one c e = eqb-true c.set 1 e

-- What settings say, where they are read.
pub said_by : {q : List ℕ} {r : Option Settings} {s : Settings} → Reads q r → r ≡ Some s → Says q s
said_by {q} p e = subst (λ (o : Option Settings). IfSome o (Says q)) e p.said

-- ---- A counter and its bytes.
module _ (b : List ℕ) (full : length b ≡ counter_size) where
  pub settings_long : length (take 26 b) ≡ 26
  settings_long = length-take-le 26 b (omega arith)

  -- The last seven bytes: value and batch.
  figures : Bytes b → in_bytes 4 (number_of (take 4 (drop 27 b))) ++ in_bytes 3 (number_of (take 3 (drop 31 b))) ≡ drop 27 b
  figures f =
      ap₂ (λ (k l : List ℕ). k ++ l)
      (bytes_back 4 (take 4 (drop 27 b)) (length-take-le 4 (drop 27 b) (simp length-drop (omega arith))) (bytes_take 4 (drop 27 b) (bytes_drop 27 b f)))
      (bytes_back 3 (take 3 (drop 31 b)) (length-take-le 3 (drop 31 b) (simp length-drop (omega arith))) (bytes_take 3 (drop 31 b) (bytes_drop 31 b f))
      ∙ take_all 3 (drop 31 b) (simp length-drop (omega arith)) ∙ sym (drop-drop 4 27 b))
      ∙ take-append-drop 4 (drop 27 b)

  pub counter_back : Bytes b → counter_bytes (counter_of b) ≡ b
  unfolding counter_of counter_bytes
  counter_back f =
      ap (λ (l : List ℕ). take 26 b ++ (get_or b 26 0 ∷ l)) (figures f)
      ∙ ap (λ (l : List ℕ). take 26 b ++ l) (sym (drop_next b 26 (omega arith)))
      ∙ take-append-drop 26 b

  -- The bytes in front of value and batch.
  front : take 27 b ≡ take 26 b ++ (get_or b 26 0 ∷ [])
  front = take-suc b 26 0 (omega arith)

  pub uncounted : Bytes b → is_set (counter_of b) ≡ false → b ≡ counter_bytes (counted (counter_of b))
  unfolding counted
  uncounted f e = rw e (sym (counter_back f))

  pub counted_bytes : {v n : ℕ} → is_set (counter_of b) ≡ true
      → v ≡ next_value (take 26 b) (number_of (take 4 (drop 27 b))) (number_of (take 3 (drop 31 b)))
      → n ≡ next_batch (take 26 b) (number_of (take 3 (drop 31 b)))
      → take 27 b ++ (in_bytes 4 v ++ in_bytes 3 n) ≡ counter_bytes (counted (counter_of b))
  unfolding counted counter_of counter_bytes
  counted_bytes {v} {n} e p q =
      rw (e, ← p, ← q) (ap (λ (l : List ℕ). l ++ (in_bytes 4 v ++ in_bytes 3 n)) front ∙ append_assoc (take 26 b) (get_or b 26 0 ∷ []) (in_bytes 4 v ++ in_bytes 3 n))

  -- Value and batch are written behind the front.
  pub figures_put : (vs ws : List ℕ) → length vs ≡ 4 → length ws ≡ 3
      → put_mid 31 (length (put_mid 27 4 b vs) - 31) (put_mid 27 4 b vs) ws ≡ take 27 b ++ (vs ++ ws)
  figures_put vs ws v w =
      let rest : List ℕ = drop 4 (drop 27 b) in
      let m : List ℕ = put_mid 27 4 b vs in
      let size : length m ≡ 34 = same_len_mid 27 4 b vs (v ∙ sym (length-take-le 4 (drop 27 b) (simp length-drop (omega arith)))) ∙ full in
      let long : length (take 27 b ++ vs) ≡ 31 = simp (length-append, length-take) (omega arith) in
      let front : take 31 m ≡ take 27 b ++ vs = ap (take 31) (sym (append_assoc (take 27 b) vs rest)) ∙ take_at (take 27 b ++ vs) rest 31 long in
      let none : drop (length m - 31) (drop 31 m) ≡ [] = drop_of_length-le (drop 31 m) {i = length m - 31} (simp length-drop (omega arith)) in
      ap₂ (λ (x y : List ℕ). x ++ (ws ++ y)) front none
      ∙ ap (λ (l : List ℕ). (take 27 b ++ vs) ++ l) (append-nil ws)
      ∙ append_assoc (take 27 b) vs ws

  -- Other settings stand in front, the flag behind them, and a count from the start.
  pub set_bytes : (q : List ℕ) {n : ℕ} → length q ≡ 26 → n ≡ initial q
      → take 27 (set (put_mid 0 26 b q) 26 1) ++ (in_bytes 4 n ++ in_bytes 3 0) ≡ counter_bytes (set_to q)
  unfolding counter_bytes
  set_bytes q {n} h e =
      let last : List ℕ = q ++ drop 26 b in
      let long : 26 < length last = simp (length-append, length-drop) (omega arith) in
      ap (λ (k : List ℕ). k ++ (in_bytes 4 n ++ in_bytes 3 0))
      (take-suc-set last 26 1 long ∙ ap (λ (k : List ℕ). k ++ (1 ∷ [])) (take_at q (drop 26 b) 26 h))
      ∙ append_assoc q (1 ∷ []) (in_bytes 4 n ++ in_bytes 3 0)
      ∙ rw e

-- The digits of the value, and the batch behind them.
pub text_put : (c : Counter) {d w : List ℕ} → d ≡ digits c.value → w ≡ in_bytes 3 c.batch → put_mid 9 3 (d ++ (0 ∷ 0 ∷ 0 ∷ [])) w ≡ counter_text c
unfolding digits
text_put c e g = rw (e, g) refl

-- A counter is its four parts.
same : (c : Counter) {s : List ℕ} {x v n : ℕ} → s ≡ c.settings → x ≡ c.set → v ≡ c.value → n ≡ c.batch
    → ◌≡◌ {A = Counter} (record { settings = s; set = x; value = v; batch = n }) c
same c p q r t = rw (p, q, r, t)

-- What is written of a counter is read back.
pub counter_again : (c : Counter) → length c.settings ≡ 26 → c.value < 4294967296 → c.batch < 16777216 → counter_of (counter_bytes c) ≡ c
unfolding counter_of counter_bytes
counter_again c h v n =
    let rest : List ℕ = in_bytes 4 c.value ++ in_bytes 3 c.batch in
    let l : List ℕ = c.settings ++ (c.set ∷ rest) in
    let behind : drop 27 l ≡ rest = sym (drop-drop 1 26 l) ∙ ap (drop 1) (drop_at c.settings (c.set ∷ rest) 26 h) in
    let last : drop 31 l ≡ in_bytes 3 c.batch = sym (drop-drop 4 27 l) ∙ ap (drop 4) behind in
    same c (take_at c.settings (c.set ∷ rest) 26 h)
    (get_or_at c.settings c.set rest 0 26 h)
    (ap (λ (k : List ℕ). number_of (take 4 k)) behind ∙ number_in_bytes 4 c.value v)
    (ap (λ (k : List ℕ). number_of (take 3 k)) last ∙ number_in_bytes 3 c.batch n)
