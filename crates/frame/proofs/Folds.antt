-- The check byte is the library's fold, and the count before the first 03h the library's search.
use Rattle.std.proofs.Common.{ℕ, suc, ◌*◌, Bool, true, false, cond, List, [], ◌∷◌, ◌≡◌, refl, sym, ◌∙◌, ap, length, bit_xor, fold, Option, Some, None, eqb, ltb, arith, ◌+◌, ◌==◌}
use Rattle.std.proofs.iter.runs.Made.{at-is}
use Rattle.std.proofs.iter.runs.Sources.{iter_runs}
use Rattle.std.proofs.iter.runs.Strides.{step_by_runs}
use Rattle.std.proofs.lemmas.List.Recursion.{is_position_or_len}
use Rattle.std.specs.Iterator.Adapters.{step_by_first_take, step_by_gap, step_by_source, step_by_steps}
use Rattle.std.specs.Iterator.Runs.{EveryRun, FoldEquals}
use Rattle.std.specs.List.{position, position_or_len, slice_get}
use Rattle.std.specs.Slice.Iter.{iter_rest, iter_steps}
use Rattle.frame.specs.Ground.{pick}
use Rattle.frame.specs.Wire.{check, check_from, update_closes, longest_update, update_marks}
use Rattle.frame.specs.Receive.{run, text_space, updated}
use Rattle.frame.specs.declared.given.Refusal.TheVariants.{TooLong}
use Rattle.frame.specs.declared.receive.Received.{Received}
use Rattle.frame.specs.declared.receive.Received.TheVariants.{Partial, Refused, Update}

folded : (c : ℕ) (s : List ℕ) → fold bit_xor c s ≡ check_from c s
folded c [] = refl
folded c (b ∷ s) = folded (bit_xor c b) s

pub check_folds : (s : List ℕ) → fold bit_xor 0 s ≡ check s
check_folds s = folded 0 s

same_places : {A : Type 0} (xs ys : List A) → ((k : ℕ) → slice_get xs k ≡ slice_get ys k) → xs ≡ ys
same_places [] [] h = refl
same_places [] (y ∷ ys) h = let e = h 0 in cc
same_places (x ∷ xs) [] h = let e = h 0 in cc
same_places (x ∷ xs) (y ∷ ys) h = let e = h 0 in let again = same_places xs ys (λ k. h (suc k)) in cc

-- `step_by(1)` gives every byte. So an edit with a larger step is refused for the bytes that it passes over, and not for its `step_by`.
pub one_apart : EveryRun (step_by_steps (iter_steps {A = ℕ})) (λ p. step_by_first_take p.from ≡ true → step_by_gap p.from ≡ 0 → FoldEquals p (λ y. y.now) (iter_rest (step_by_source p.from)))
one_apart p seen first gap h n whole =
    let s = step_by_runs iter_steps p.from (step_by_source p.from) 1 refl (omega arith) first p seen refl in
    let once : (k : ℕ) → k * 1 ≡ k = λ k. omega arith in
    let same : p.items ≡ s.0.items = same_places p.items s.0.items (λ k. sym (at-is p k) ∙ s.2.4 k ∙ ap s.0.at (once k) ∙ at-is s.0 k) in
    ap (fold (λ a x. h a x.now) n) same
    ∙ (iter_runs s.0 s.0.seen).5 h n (s.2.0 ∙ whole)
    ∙ ap (λ t. fold h n (iter_rest t)) s.1

-- What comes of an update by the place of the first 03h among the bytes that it may stand among.
abbrev pub by_end : List ℕ → Option ℕ → Received
by_end s (Some n) = Update n (n + update_marks)
by_end s None = pick (ltb (length s) (longest_update + update_marks)) Partial (Refused TooLong (length s))

run_position : (b : ℕ) (s : List ℕ) → run b s ≡ position_or_len (λ x. x == b) s
run_position b s = is_position_or_len (run b) (λ x. x == b) refl (λ x xs. go (eqb x b) (run b xs)) s
  where
    go : (t : Bool) (n : ℕ) → pick t 0 (n + 1) ≡ cond t 0 (1 + n)
    go true n = refl
    go false n = omega arith

pub ended : (s : List ℕ) → by_end s (position (λ x. x == update_closes) (text_space s)) ≡ updated s (run update_closes (text_space s))
unfolding updated
ended s = rw (← run_position update_closes (text_space s)) (go (ltb (run update_closes (text_space s)) (length (text_space s))) (run update_closes (text_space s)))
  where
    go : (t : Bool) (n : ℕ) → by_end s (cond t (Some n) None) ≡ pick t (Update n (n + update_marks)) (by_end s None)
    go true n = refl
    go false n = refl
