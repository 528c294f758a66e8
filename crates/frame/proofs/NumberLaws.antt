-- 3 is given exactly for what is not whole and 4 exactly for what is too long, so no bytes are both; no other number than document 01's
-- is given. What is neither is whole, so that a frame's number comes of its check byte and the table: the first of the tests that fails.
use Prim.Native.Nat.{ℕ, ◌+◌}
use mathlib.Core.Bool.{Bool, true, false, not, ◌&&◌, ◌||◌}
use mathlib.Core.List.{List, [], ◌∷◌}
use mathlib.Core.Logic.{◌↔◌}
use mathlib.Core.Path.{◌≡◌, refl, sym, ◌∙◌, ap, ap₂}
use native.Mathlib.Numerals.{add-one}
use native.Mathlib.Omega.{arith}
use borrow.Author.Tests.{eq-eqb, ne_eqb, lt-ltb, le-leb, lt-leb, eqb-true, ltb-true, ltb-false}
use lib.Dec.{eqb, leb, ltb, leb-suc-suc}
use lib.ListN.{length, get_or, take}
use lib.Seq.{take_all}
use Rattle.frame.specs.Ground.{pick, unless, has, Test, test, first_failing}
use Rattle.frame.specs.Wire.{enquiry, update_opens, update_closes, longest_update, update_marks, check, head_size, around, longest_data, size_of, listed, fits}
use Rattle.frame.specs.Receive.{received, updated, judged, framed, run, text_space, data_length, number}
use Rattle.frame.specs.Numbers as numbers
use Rattle.frame.specs.Build as build
use Rattle.frame.specs.Build.{answer_tests, build_tests}
use Rattle.frame.specs.NumberLaws.{not_whole, too_long, ThreeFourApart, NumbersGiven, frame_tests, is_frame, receive_tests, InOrder, CallsGiveFirst}
use Rattle.frame.specs.declared.receive.Received.{Received}
use Rattle.frame.specs.declared.given.Refusal.TheVariants.{TooLong, WrongCheck, UnknownIdentifier, WrongLength}
use Rattle.frame.specs.declared.receive.Received.TheVariants.{Partial, Refused, Misfit, Enquiry, Update, Frame}
use Rattle.frame.proofs.Ground.{pick_case, never, placeless}
use Rattle.frame.proofs.Numbers.{first_given, first_number}
use Rattle.frame.proofs.Laws.{verified, verified_case}

-- ---- Numbers as tests.
exactly : (k m : ℕ) (b : Bool) → eqb k m ≡ b → (k ≡ m) ↔ (b ≡ true)
exactly k m b e = (λ h. sym e ∙ eq-eqb k m h, λ h. eqb-true k m (e ∙ h))

not_both : (k : ℕ) → (eqb k 3 && eqb k 4) ≡ false
not_both k = go (eqb k 3) refl
  where
    go : (t : Bool) → eqb k 3 ≡ t → (t && eqb k 4) ≡ false
    go true e = rw (eqb-true k 3 e)
    go false e = refl

at_most : (m n : ℕ) → leb m n ≡ not (ltb n m)
at_most m n = go (ltb n m) refl
  where
    go : (t : Bool) → ltb n m ≡ t → leb m n ≡ not t
    go true e = lt-leb m n (ltb-true n m e)
    go false e = le-leb m n (ltb-false n m e)

-- ---- The count before the first b is below the length exactly where b is there.
run_has : (b : ℕ) (s : List ℕ) → ltb (run b s) (length s) ≡ has b s
run_has b [] = refl
run_has b (x ∷ s) = go (eqb x b) refl (run_has b s)
  where
    go : (t : Bool) → eqb x b ≡ t → ltb (run b s) (length s) ≡ has b s → ltb (run b (x ∷ s)) (length (x ∷ s)) ≡ has b (x ∷ s)
    go true e again = rw e (lt-ltb 0 (length (x ∷ s)) (omega arith))
    go false e again = rw e (leb-suc-suc (run b s + 1) (length s) ∙ ap (λ (k : ℕ). leb k (length s)) (add-one (run b s)) ∙ again)

-- ---- An update.
opened_has : (x : ℕ) (s : List ℕ) → x ≡ update_opens → has update_closes (x ∷ s) ≡ has update_closes s
opened_has x s e = rw (ne_eqb x update_closes (λ z. omega arith))

same_where : (y a b : Bool) → (y ≡ true → a ≡ b) → (y && not a) ≡ (y && not b)
same_where true a b h = ap not (h refl)
same_where false a b h = refl

update_numbers : (a b : Bool) (n c k : ℕ) → let r : Received = pick a (Update n c) (pick b Partial (Refused TooLong k)) in (eqb (number r) 3 ≡ (b && not a)) × (eqb (number r) 4 ≡ (not b && not a))
update_numbers true true n c k = (refl, refl)
update_numbers true false n c k = (refl, refl)
update_numbers false true n c k = (refl, refl)
update_numbers false false n c k = (refl, refl)

module _ (x : ℕ) (s : List ℕ) (e : x ≡ update_opens) where
  update_three : eqb (number (updated (x ∷ s) (run update_closes (text_space (x ∷ s))))) 3 ≡ (ltb (length (x ∷ s)) (longest_update + update_marks) && not (has update_closes (x ∷ s)))
  unfolding updated
  update_three =
      (update_numbers (ltb (run update_closes (text_space (x ∷ s))) (length (text_space (x ∷ s)))) (ltb (length (x ∷ s)) (longest_update + update_marks)) _ _ _).0
      ∙ ap (λ (b : Bool). ltb (length (x ∷ s)) (longest_update + update_marks) && not b) (run_has update_closes (text_space (x ∷ s)))
      ∙ same_where (ltb (length (x ∷ s)) (longest_update + update_marks)) _ _ (λ q. ap (has update_closes) (take_all (longest_update + 1) s (omega (arith, ltb-true (length (x ∷ s)) (longest_update + update_marks) q))) ∙ sym (opened_has x s e))

  update_four : eqb (number (updated (x ∷ s) (run update_closes (text_space (x ∷ s))))) 4 ≡ (leb (longest_update + update_marks) (length (x ∷ s)) && not (has update_closes (take (longest_update + update_marks) (x ∷ s))))
  unfolding updated
  update_four =
      (update_numbers (ltb (run update_closes (text_space (x ∷ s))) (length (text_space (x ∷ s)))) (ltb (length (x ∷ s)) (longest_update + update_marks)) _ _ _).1
      ∙ ap₂ (λ (a b : Bool). a && not b) (sym (at_most (longest_update + update_marks) (length (x ∷ s)))) (run_has update_closes (text_space (x ∷ s)) ∙ sym (opened_has x (take (longest_update + 1) s) e))

-- ---- A frame.
frame_numbers : (a b c : Bool) (r : Received) (k : ℕ) → eqb (number r) 3 ≡ false → eqb (number r) 4 ≡ false
    → let f : Received = pick a Partial (pick b (Refused TooLong k) (pick c Partial r)) in (eqb (number f) 3 ≡ (a || (not b && c))) × (eqb (number f) 4 ≡ (not a && b))
frame_numbers true b c r k three four = (refl, refl)
frame_numbers false true c r k three four = (refl, refl)
frame_numbers false false true r k three four = (refl, refl)
frame_numbers false false false r k three four = (three, four)

verified_three : (s : List ℕ) (n : ℕ) → eqb (number (verified s n)) 3 ≡ false
verified_three s n = verified_case (λ (r : Received). eqb (number r) 3 ≡ false) s n refl (λ i. refl) (λ i. refl) (λ i. refl)

verified_four : (s : List ℕ) (n : ℕ) → eqb (number (verified s n)) 4 ≡ false
verified_four s n = verified_case (λ (r : Received). eqb (number r) 4 ≡ false) s n refl (λ i. refl) (λ i. refl) (λ i. refl)

module _ (s : List ℕ) (n : ℕ) where
  frame_three : eqb (number (framed s n)) 3 ≡ (ltb (length s) 3 || (leb n longest_data && ltb (length s) (n + around)))
  unfolding framed verified
  frame_three =
      (frame_numbers (ltb (length s) 3) (ltb longest_data n) (ltb (length s) (n + around)) (verified s n) (length s) (verified_three s n) (verified_four s n)).0
      ∙ ap (λ (b : Bool). ltb (length s) 3 || (b && ltb (length s) (n + around))) (sym (at_most n longest_data))

  frame_four : eqb (number (framed s n)) 4 ≡ (leb 3 (length s) && ltb longest_data n)
  unfolding framed verified
  frame_four =
      (frame_numbers (ltb (length s) 3) (ltb longest_data n) (ltb (length s) (n + around)) (verified s n) (length s) (verified_three s n) (verified_four s n)).1
      ∙ ap (λ (b : Bool). b && ltb longest_data n) (sym (at_most 3 (length s)))

-- ---- All that can be handed in.
sorted : (m : ℕ) (p : Bool) → eqb 3 m ≡ p → eqb 0 m ≡ false → (a b c : Bool) (u f : Received) (wu wf : Bool) → (c ≡ true → eqb (number u) m ≡ wu) → eqb (number f) m ≡ wf
    → eqb (number (pick a Partial (pick b Enquiry (pick c u f)))) m ≡ pick a p (pick b false (pick c wu wf))
sorted m p e z true b c u f wu wf hu hf = e
sorted m p e z false true c u f wu wf hu hf = z
sorted m p e z false false true u f wu wf hu hf = hu refl
sorted m p e z false false false u f wu wf hu hf = hf

number_three : (s : List ℕ) → eqb (number (received s)) 3 ≡ not_whole s
unfolding received not_whole
number_three [] = refl
number_three (x ∷ s) =
    sorted 3 true refl refl (eqb (length (x ∷ s)) 0) (eqb x enquiry) (eqb x update_opens) _ _ _ _
    (λ e. update_three x s (eqb-true x update_opens e))
    (frame_three (x ∷ s) (data_length (x ∷ s)))

number_four : (s : List ℕ) → eqb (number (received s)) 4 ≡ too_long s
unfolding received too_long
number_four [] = refl
number_four (x ∷ s) =
    sorted 4 false refl refl (eqb (length (x ∷ s)) 0) (eqb x enquiry) (eqb x update_opens) _ _ _ _
    (λ e. update_four x s (eqb-true x update_opens e))
    (frame_four (x ∷ s) (data_length (x ∷ s)))

pub three_four_apart : ThreeFourApart
three_four_apart s =
    record {
      three = exactly (number (received s)) 3 (not_whole s) (number_three s);
      four = exactly (number (received s)) 4 (too_long s) (number_four s);
      never_both = ap₂ (λ (a b : Bool). a && b) (sym (number_three s)) (sym (number_four s)) ∙ not_both (number (received s));
    }

Given : Received → Type 0
Given r = has (number r) (0 ∷ 3 ∷ 4 ∷ 5 ∷ 6 ∷ 7 ∷ []) ≡ true

given_updated : (s : List ℕ) (n : ℕ) → Given (updated s n)
unfolding updated Given
given_updated s n = pick_case Given (ltb n (length (text_space s))) _ _ (λ e. refl) (λ e. pick_case Given (ltb (length s) (longest_update + update_marks)) _ _ (λ h. refl) (λ h. refl))

given_framed : (s : List ℕ) (n : ℕ) → Given (framed s n)
unfolding framed verified Given
given_framed s n =
    pick_case Given (ltb (length s) 3) _ _ (λ e. refl) (λ e.
    pick_case Given (ltb longest_data n) _ _ (λ h. refl) (λ h.
    pick_case Given (ltb (length s) (n + around)) _ _ (λ g. refl) (λ g.
    verified_case Given s n refl (λ i. refl) (λ i. refl) (λ i. refl))))

pub numbers_given : NumbersGiven
unfolding received Given
numbers_given s =
    pick_case Given (eqb (length s) 0) _ _ (λ e. refl) (λ e.
    pick_case Given (eqb (get_or s 0 0) enquiry) _ _ (λ h. refl) (λ h.
    pick_case Given (eqb (get_or s 0 0) update_opens) _ _ (λ g. given_updated s (run update_closes (text_space s))) (λ g. given_framed s (data_length s))))

-- ---- The first that applies.
-- 3 and 4 come first, and where neither applies the tests behind them decide.
behind_four : (k : ℕ) (w l : Bool) (ts : List Test) → eqb k 3 ≡ w → eqb k 4 ≡ l → (eqb k 3 ≡ false → eqb k 4 ≡ false → k ≡ first_failing ts)
    → k ≡ first_failing (test (not w) 3 ∷ test (not l) 4 ∷ ts)
behind_four k true l ts e f g = eqb-true k 3 e
behind_four k false true ts e f g = eqb-true k 4 f
behind_four k false false ts e f g = g e f

-- What is given where neither 3 nor 4 is.
abbrev Else : ℕ → Received → Type 0
Else k r = eqb (number r) 3 ≡ false → eqb (number r) 4 ≡ false → number r ≡ k

else_updated : (s : List ℕ) (n : ℕ) → Else 0 (updated s n)
unfolding updated
else_updated s n =
    pick_case (Else 0) (ltb n (length (text_space s))) _ _ (λ e p q. refl) (λ e.
    pick_case (Else 0) (ltb (length s) (longest_update + update_marks)) _ _ (λ h p q. never (sym p)) (λ h p q. never (sym q)))

verified_number : (s : List ℕ) → number (verified s (data_length s)) ≡ first_failing (frame_tests s)
unfolding verified judged
verified_number s =
    let i : ℕ = get_or s 0 0 in
    let n : ℕ = data_length s in
    go (eqb (check (take (n + head_size) s)) (get_or s (n + head_size) 0)) (listed (size_of i)) (fits (size_of i) n) i n (n + around)
  where
    go : (a b c : Bool) (i n k : ℕ) → number (unless a (Refused WrongCheck k) (unless b (Misfit UnknownIdentifier i n k) (unless c (Misfit WrongLength i n k) (Frame i n k)))) ≡ unless a 5 (unless b 6 (unless c 7 0))
    go true true true i n k = refl
    go true true false i n k = refl
    go true false c i n k = refl
    go false b c i n k = refl

else_framed : (s : List ℕ) → Else (first_failing (frame_tests s)) (framed s (data_length s))
unfolding framed verified
else_framed s =
    let P : Received → Type 0 = Else (first_failing (frame_tests s)) in
    pick_case P (ltb (length s) head_size) _ _ (λ e p q. never (sym p)) (λ e.
    pick_case P (ltb longest_data (data_length s)) _ _ (λ h p q. never (sym q)) (λ h.
    pick_case P (ltb (length s) (data_length s + around)) _ _ (λ g p q. never (sym p)) (λ g p q. verified_number s)))

else_received : (s : List ℕ) → Else (first_failing (pick (is_frame s) (frame_tests s) [])) (received s)
unfolding received
else_received s =
    let P : Received → Type 0 = Else (first_failing (pick (is_frame s) (frame_tests s) [])) in
    pick_case P (eqb (length s) 0) _ _ (λ e p q. never (sym p)) (λ e.
    pick_case P (eqb (get_or s 0 0) enquiry) _ _ (λ h p q. rw h) (λ h.
    pick_case P (eqb (get_or s 0 0) update_opens) _ _
    (λ g. rw (h, g) (else_updated s (run update_closes (text_space s))))
    (λ g. rw (h, g) (else_framed s))))

pub received_first : (s : List ℕ) → number (received s) ≡ first_failing (receive_tests s)
received_first s = behind_four (number (received s)) (not_whole s) (too_long s) (pick (is_frame s) (frame_tests s) []) (number_three s) (number_four s) (else_received s)

pub in_order : InOrder
in_order = record { receives = λ s. go (is_frame s) s; answers = λ room n. refl; builds = λ room identifier n. refl }
  where
    go : (b : Bool) (s : List ℕ) → numbers.in_order (test (not (not_whole s)) 3 ∷ test (not (too_long s)) 4 ∷ pick b (frame_tests s) []) ≡ true
    go true s = refl
    go false s = refl

-- None of the receiver's numbers has a place.
pub plain_received : (s : List ℕ) → placeless (receive_tests s) ≡ true
plain_received s = go (is_frame s)
  where
    go : (b : Bool) → placeless (test (not (not_whole s)) 3 ∷ test (not (too_long s)) 4 ∷ pick b (frame_tests s) []) ≡ true
    go true = refl
    go false = refl

pub calls_give_first : CallsGiveFirst
calls_give_first =
    record {
      receive = λ s r p. first_number (receive_tests s) (number r) (in_order.receives s) (plain_received s) (ap number p.answer ∙ received_first s);
      wrap = λ before identifier n r after p. first_given (answer_tests (length before) n) (build.given_by r) (in_order.answers (length before) n) p.reports.first;
      answer = λ before identifier d r after p. first_given (answer_tests (length before) (length d)) (build.given_by r) (in_order.answers (length before) (length d)) p.reports.first;
      build = λ before identifier d r after p. first_given (build_tests (length before) identifier (length d)) (build.given_by r) (in_order.builds (length before) identifier (length d)) p.reports.first;
    }
