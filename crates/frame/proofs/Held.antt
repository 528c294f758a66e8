-- What is held is what is not whole yet: the rule of what is held asks the same as the receiver's, in the same order.
use Prim.Native.Nat.{ℕ, suc, ◌+◌, ◌≤◌, ◌<◌}
use mathlib.Core.Bool.{Bool, true, false, ◌||◌, false≢true}
use mathlib.Core.List.{List, [], ◌∷◌}
use mathlib.Core.Path.{◌≡◌, refl, sym, ◌∙◌, ap}
use native.Mathlib.Omega.{arith}
use borrow.Author.Tests.{eq-eqb, ne_eqb, eqb-true, eqb-false, lt-ltb, le-ltb, ltb-true, ltb-false, leb-true, leb-false}
use lib.Dec.{eqb, leb, ltb}
use lib.ListN.{length, get_or, drop, length-drop}
use lib.Seq.{take_all}
use Rattle.frame.specs.Ground.{pick, both, has}
use Rattle.frame.specs.Wire.{enquiry, update_opens, update_closes, longest_update, update_marks, head_size, around, longest_data}
use Rattle.frame.specs.Receive.{received, updated, framed, run, text_space, data_length}
use Rattle.frame.specs.Holding.{free_of, is_held}
use Rattle.frame.specs.declared.receive.Received.{Received}
use Rattle.frame.specs.declared.given.Refusal.TheVariants.{TooLong}
use Rattle.frame.specs.declared.receive.Received.TheVariants.{Partial, Refused, Misfit, Enquiry, Update, Frame}
use Rattle.frame.proofs.Laws.{verified, verified_case}

-- ---- No 03h is among bytes exactly where all of them stand before the first.
run_most : (b : ℕ) (s : List ℕ) → run b s ≤ length s
run_most b [] = omega arith
run_most b (x ∷ s) = go (eqb x b) (run_most b s)
  where
    go : (t : Bool) → run b s ≤ length s → pick t 0 (run b s + 1) ≤ length (x ∷ s)
    go true again = omega arith
    go false again = omega (arith, again)

eqb_next : (m n : ℕ) → eqb (m + 1) (suc n) ≡ eqb m n
eqb_next m n = go (eqb m n) refl
  where
    go : (t : Bool) → eqb m n ≡ t → eqb (m + 1) (suc n) ≡ eqb m n
    go true e = eq-eqb (m + 1) (suc n) (omega (arith, eqb-true m n e)) ∙ sym e
    go false e = ne_eqb (m + 1) (suc n) (λ z. eqb-false m n e (omega arith)) ∙ sym e

free_run : (b : ℕ) (s : List ℕ) → eqb (run b s) (length s) ≡ free_of b s
free_run b [] = refl
free_run b (x ∷ s) = go (eqb x b) (free_run b s)
  where
    go : (t : Bool) → eqb (run b s) (length s) ≡ free_of b s → eqb (pick t 0 (run b s + 1)) (length (x ∷ s)) ≡ pick (t || has b s) false true
    go true again = ne_eqb 0 (length (x ∷ s)) (λ z. omega arith)
    go false again = eqb_next (run b s) (length s) ∙ again

-- Of an update that is not too long, the text is all behind the 02h.
short_text : (s : List ℕ) → length s ≤ longest_update + 1 → text_space s ≡ drop 1 s
short_text s h = take_all (longest_update + 1) (drop 1 s) (simp length-drop (omega arith))

free_text : (s : List ℕ) → length s ≤ longest_update + 1 → eqb (run update_closes (text_space s)) (length (text_space s)) ≡ free_of update_closes (drop 1 s)
free_text s h = ap (λ (t : List ℕ). eqb (run update_closes t) (length t)) (short_text s h) ∙ free_run update_closes (drop 1 s)

-- ---- What is not whole yet.
unfoldable pub is_partial : Received → Bool
is_partial Partial = true
is_partial (Refused k c) = false
is_partial (Misfit k i n c) = false
is_partial Enquiry = false
is_partial (Update n c) = false
is_partial (Frame i n c) = false

pub partial_tells : (r : Received) → is_partial r ≡ true → r ≡ Partial
unfolding is_partial
partial_tells Partial e = refl
partial_tells (Refused k c) e = absurd (false≢true e)
partial_tells (Misfit k i n c) e = absurd (false≢true e)
partial_tells Enquiry e = absurd (false≢true e)
partial_tells (Update n c) e = absurd (false≢true e)
partial_tells (Frame i n c) e = absurd (false≢true e)

updated_open : (s : List ℕ) (n : ℕ) → length (text_space s) ≤ n → length s < longest_update + update_marks → is_partial (updated s n) ≡ true
unfolding updated is_partial
updated_open s n h g = rw (le-ltb n (length (text_space s)) h, lt-ltb (length s) (longest_update + update_marks) g) refl

updated_closed : (s : List ℕ) (n : ℕ) → n < length (text_space s) → is_partial (updated s n) ≡ false
unfolding updated is_partial
updated_closed s n h = rw (lt-ltb n (length (text_space s)) h) refl

updated_over : (s : List ℕ) (n : ℕ) → length (text_space s) ≤ n → longest_update + update_marks ≤ length s → is_partial (updated s n) ≡ false
unfolding updated is_partial
updated_over s n h g = rw (le-ltb n (length (text_space s)) h, le-ltb (length s) (longest_update + update_marks) g) refl

held_update : (s : List ℕ)
    → both (leb (length s) (longest_update + 1)) (free_of update_closes (drop 1 s)) ≡ is_partial (updated s (run update_closes (text_space s)))
held_update s = go (leb (length s) (longest_update + 1)) refl (ltb (run update_closes (text_space s)) (length (text_space s))) refl
  where
    go : (t : Bool) → leb (length s) (longest_update + 1) ≡ t → (u : Bool) → ltb (run update_closes (text_space s)) (length (text_space s)) ≡ u
        → both t (free_of update_closes (drop 1 s)) ≡ is_partial (updated s (run update_closes (text_space s)))
    go true e true f =
        let h = ltb-true (run update_closes (text_space s)) (length (text_space s)) f in
        sym (free_text s (leb-true (length s) (longest_update + 1) e))
        ∙ ne_eqb (run update_closes (text_space s)) (length (text_space s)) (λ z. omega arith)
        ∙ sym (updated_closed s (run update_closes (text_space s)) h)
    go true e false f =
        let h = ltb-false (run update_closes (text_space s)) (length (text_space s)) f in
        let g = leb-true (length s) (longest_update + 1) e in
        sym (free_text s g)
        ∙ eq-eqb (run update_closes (text_space s)) (length (text_space s)) (omega (arith, run_most update_closes (text_space s)))
        ∙ sym (updated_open s (run update_closes (text_space s)) h (omega arith))
    go false e true f = sym (updated_closed s (run update_closes (text_space s)) (ltb-true (run update_closes (text_space s)) (length (text_space s)) f))
    go false e false f =
        let g = leb-false (length s) (longest_update + 1) e in
        sym (updated_over s (run update_closes (text_space s)) (ltb-false (run update_closes (text_space s)) (length (text_space s)) f) (omega arith))

-- A frame that is long enough is whole, whatever its check byte.
verified_whole : (s : List ℕ) (n : ℕ) → is_partial (verified s n) ≡ false
unfolding is_partial
verified_whole s n = verified_case (λ (r : Received). is_partial r ≡ false) s n refl (λ i. refl) (λ i. refl) (λ i. refl)

held_frame : (s : List ℕ) (n : ℕ)
    → pick (ltb (length s) head_size) true (both (leb n longest_data) (leb (length s) (n + head_size))) ≡ is_partial (framed s n)
unfolding framed is_partial verified
held_frame s n = go (ltb (length s) head_size) (leb n longest_data) refl (leb (length s) (n + head_size)) refl
  where
    go : (t u : Bool) → leb n longest_data ≡ u → (v : Bool) → leb (length s) (n + head_size) ≡ v
        → pick t true (both u v)
        ≡ is_partial (pick t Partial (pick (ltb longest_data n) (Refused TooLong (length s)) (pick (ltb (length s) (n + around)) Partial (verified s n))))
    go true u e v f = refl
    go false false e v f = rw (lt-ltb longest_data n (omega (arith, leb-false n longest_data e))) refl
    go false true e true f =
        rw (le-ltb longest_data n (leb-true n longest_data e), lt-ltb (length s) (n + around) (omega (arith, leb-true (length s) (n + head_size) f))) refl
    go false true e false f =
        rw (le-ltb longest_data n (leb-true n longest_data e), le-ltb (length s) (n + around) (omega (arith, leb-false (length s) (n + head_size) f)))
        (sym (verified_whole s n))

-- The three kinds, in the same order.
by_kind : (t b c x y : Bool) (u f : Received) → x ≡ is_partial u → y ≡ is_partial f
    → pick t true (pick b false (pick c x y)) ≡ is_partial (pick t Partial (pick b Enquiry (pick c u f)))
unfolding is_partial
by_kind true b c x y u f p q = refl
by_kind false true c x y u f p q = refl
by_kind false false true x y u f p q = p
by_kind false false false x y u f p q = q

pub held_is_partial : (s : List ℕ) → is_held s ≡ is_partial (received s)
unfolding is_held received
held_is_partial s =
    by_kind (eqb (length s) 0) (eqb (get_or s 0 0) enquiry) (eqb (get_or s 0 0) update_opens) _ _ _ _ (held_update s) (held_frame s (data_length s))
