-- The mode that bytes lead to, and its tie to the verdict: bytes are good exactly where they lead to `Done`.
use Prim.Native.Nat.{ℕ, suc, ◌+◌}
use mathlib.Core.Bool.{Bool, true, false}
use mathlib.Core.List.{List, [], ◌∷◌, ◌++◌, append-nil, append_assoc}
use mathlib.Core.Path.{◌≡◌, refl, ap, ◌∙◌, sym}
use native.Mathlib.Nat.{zero-add}
use native.Mathlib.Numerals.{one-add}
use native.Mathlib.Omega.{arith}
use lib.ListN.{length}
use Rattle.frame.specs.Ground.{pick}
use Rattle.content.specs.Machine.{Spot, Mode, Reading, Done, Bad, start, step}
use Rattle.content.specs.Content.{Verdict, good, verdict, read, ended, onward}
use Rattle.content.specs.declared.item.Seen.{Seen}
use Rattle.content.specs.Position.{at_fields, field_positions_from, is_field_position, mark_of, marks}
use Rattle.content.specs.Strip.{strip_from}
use Rattle.content.specs.declared.strip.Values.{Values}

-- The mode after bytes.
abbrev pub run : Mode → List ℕ → Mode
run m [] = m
run m (b ∷ s) = run (step m b) s

-- No way leads out of `Bad`.
run_bad : (s : List ℕ) → run Bad s ≡ Bad
run_bad [] = refl
run_bad (b ∷ s) = run_bad s

pub bad_is_not_done : (s : List ℕ) → run Bad s ≡ Done → ⊥
bad_is_not_done s e = let z : ◌≡◌ {A = ℕ} 0 1 = cc (run_bad s) in omega arith

pub reading_is_not_done : (spot : Spot) (seen : Seen) → Reading spot seen ≡ Done → ⊥
reading_is_not_done spot seen e = let z : ◌≡◌ {A = ℕ} 0 1 = cc in omega arith

-- A test that bytes get past holds.
pub passed : (t : Bool) (m : Mode) (s : List ℕ) → run (pick t m Bad) s ≡ Done → t ≡ true
passed true m s e = refl
passed false m s e = absurd (bad_is_not_done s e)

-- Bytes that don't lead to `Bad` are read past.
onward_past : (i : ℕ) (m : Mode) (s : List ℕ) (v : Verdict) → (run m s ≡ Bad → ⊥) → onward i m v ≡ v
onward_past i (Reading spot seen) s v h = refl
onward_past i Done s v h = refl
onward_past i Bad s v h = absurd (h (run_bad s))

pub read_past :
    (i : ℕ) (m : Mode) (p q : List ℕ) → (run m p ≡ Bad → ⊥) → read i m (p ++ q) ≡ read (i + length p) (run m p) q
read_past i m [] q h = let n : i + 0 ≡ i = omega arith in rw n
read_past i m (b ∷ p) q h =
    let n : i + suc (length p) ≡ i + 1 + length p = omega arith in
    rw n (onward_past i (step m b) p _ h ∙ read_past (i + 1) (step m b) p q h)

pub run_verdict : (s : List ℕ) → run start s ≡ Done → verdict s ≡ good
unfolding verdict
run_verdict s e =
    ap (read 0 start) (sym (append-nil s))
    ∙ read_past 0 start s [] (λ b. let z : ◌≡◌ {A = ℕ} 0 1 = cc in omega arith)
    ∙ ap (ended (0 + length s)) e

onward_good : (i : ℕ) (m : Mode) (v : Verdict) → onward i m v ≡ good → v ≡ good
onward_good i (Reading spot seen) v e = e
onward_good i Done v e = e
onward_good i Bad v e = cc

ended_good : (i : ℕ) (m : Mode) → ended i m ≡ good → m ≡ Done
ended_good i (Reading spot seen) e = cc
ended_good i Done e = refl
ended_good i Bad e = cc

good_runs : (i : ℕ) (m : Mode) (s : List ℕ) → read i m s ≡ good → run m s ≡ Done
good_runs i m [] e = ended_good i m e
good_runs i m (b ∷ s) e = good_runs (i + 1) (step m b) s (onward_good i (step m b) (read (i + 1) (step m b) s) e)

pub verdict_runs : (s : List ℕ) → verdict s ≡ good → run start s ≡ Done
unfolding verdict
verdict_runs s e = good_runs 0 start s e

-- Of bytes in two parts the second is read in the mode that the first leads to.
pub run_append : (m : Mode) (p q : List ℕ) → run m (p ++ q) ≡ run (run m p) q
run_append m [] q = refl
run_append m (b ∷ p) q = run_append (step m b) p q

pub length_marks : (m : Mode) (s : List ℕ) → length (marks m s) ≡ length s
length_marks m [] = refl
length_marks m (b ∷ s) = ap suc (length_marks (step m b) s)

pub marks_append : (m : Mode) (p q : List ℕ) → marks m (p ++ q) ≡ marks m p ++ marks (run m p) q
marks_append m [] q = refl
marks_append m (b ∷ p) q = ap (◌∷◌ (mark_of m b)) (marks_append (step m b) p q)

pub at_fields_append : (m : Mode) (p q : List ℕ) → at_fields m (p ++ q) ≡ at_fields m p ++ at_fields (run m p) q
at_fields_append m [] q = refl
at_fields_append m (b ∷ p) q = rw (at_fields_append (step m b) p q) (go (is_field_position (mark_of m b)) (at_fields (step m b) p) _)
  where
    go : (t : Bool) (x y : List ℕ) → pick t (b ∷ (x ++ y)) (x ++ y) ≡ pick t (b ∷ x) x ++ y
    go true x y = refl
    go false x y = refl

-- There are as many bytes at field positions as there are field positions.
pub length_at_fields : (m : Mode) (s : List ℕ) → field_positions_from m s ≡ length (at_fields m s)
length_at_fields m [] = refl
length_at_fields m (b ∷ s) = rw (length_at_fields (step m b) s) (go (is_field_position (mark_of m b)) (at_fields (step m b) s))
  where
    go : (t : Bool) (x : List ℕ) → pick t 1 0 + length x ≡ length (pick t (b ∷ x) x)
    go true x = one-add (length x)
    go false x = zero-add (length x)

pub strip_append :
    (v : Values) (m : Mode) (p q : List ℕ) → strip_from v m (p ++ q) ≡ strip_from v m p ++ strip_from v (run m p) q
strip_append v m [] q = refl
strip_append v m (b ∷ p) q = rw (strip_append v (step m b) p q, append_assoc)
