-- What is built is read back, and what is consumed is whole: a frame that is long enough is sorted by its own bytes alone.
use Prim.Native.Nat.{ℕ, suc, ◌+◌, ◌-◌, ◌≤◌, ◌<◌}
use mathlib.Core.Bool.{Bool, true, false, false≢true}
use mathlib.Core.List.{List, [], ◌∷◌, ◌++◌}
use mathlib.Core.Path.{◌≡◌, refl, sym, ◌∙◌, ap, ap₂, subst}
use native.Mathlib.Nat.{div-add-mod'}
use native.Mathlib.Omega.{arith}
use borrow.Author.Tests.{eq-eqb, ne_eqb, lt-ltb, le-ltb, eqb-true, eqb-false, leb-true, ltb-true, ltb-false}
use lib.Dec.{eqb, leb, ltb}
use lib.ListN.{length, get_or, take, drop, length-append, length-take, get_or-append}
use lib.Seq.{append_snoc, take_at, drop_at, get_or_at, get_or-take, take-take, take-append-le, take-append-add, take-append_seam, length-take-le}
use Rattle.frame.specs.Ground.{pick, unless, has, over}
use Rattle.frame.specs.Wire.{enquiry, update_opens, update_closes, word, check, size_of, listed, fits, longest_update, update_marks, head_size, around, longest_data}
use Rattle.frame.specs.Receive.{received, updated, framed, judged, run, text_space, data_length, number, consumed}
use Rattle.frame.specs.Build.{frame, body, answer_tests, build_tests, answered, built}
use Rattle.frame.specs.Laws.{heard, heard_in, ReadBack, BuiltReadBack, AnswerReadBack, WrapReadBack, Whole, ConsumedWhole, FrameWhole, ConsumedInside, UpdateHeard}
use Rattle.frame.specs.declared.receive.Received.{Received}
use Rattle.frame.specs.declared.given.Refusal.TheVariants.{TooLong, WrongCheck, UnknownIdentifier, WrongLength}
use Rattle.frame.specs.declared.receive.Received.TheVariants.{Partial, Refused, Misfit, Enquiry, Update, Frame}
use Rattle.frame.proofs.Ground.{text_length, pick_case, unless_case, both_true, run_kept}
use Rattle.frame.proofs.Told.{data_held, accepted}
pub use Rattle.frame.proofs.Told.{frame_length}

-- ---- A frame that is long enough.
unfoldable pub verified : List ℕ → ℕ → Received
verified s n = unless (eqb (check (take (n + head_size) s)) (get_or s (n + head_size) 0)) (Refused WrongCheck (n + around)) (judged (get_or s 0 0) n)

-- What holds of each answer of the table, and of each answer of check byte and table.
judged_case : (P : Received → Type 0) (i n : ℕ) → P (Misfit UnknownIdentifier i n (n + around)) → P (Misfit WrongLength i n (n + around)) → P (Frame i n (n + around)) → P (judged i n)
unfolding judged
judged_case P i n six seven none = unless_case P (listed (size_of i)) _ _ six (unless_case P (fits (size_of i) n) _ _ seven none)

pub verified_case : (P : Received → Type 0) (s : List ℕ) (n : ℕ)
    → P (Refused WrongCheck (n + around)) → ((i : ℕ) → P (Misfit UnknownIdentifier i n (n + around))) → ((i : ℕ) → P (Misfit WrongLength i n (n + around))) → ((i : ℕ) → P (Frame i n (n + around))) → P (verified s n)
unfolding verified
verified_case P s n five six seven none =
    let i : ℕ = get_or s 0 0 in
    unless_case P (eqb (check (take (n + head_size) s)) (get_or s (n + head_size) 0)) _ _ five (judged_case P i n (six i) (seven i) (none i))

-- It is sorted by its check byte and the table.
received_long : (s : List ℕ) (n : ℕ) → (get_or s 0 0 ≡ enquiry → ⊥) → (get_or s 0 0 ≡ update_opens → ⊥) → data_length s ≡ n → n ≤ longest_data → n + around ≤ length s
    → received s ≡ verified s n
unfolding received framed verified
received_long s n h₅ h₂ e m g =
    rw (
      ne_eqb (length s) 0 (λ z. omega arith),
      ne_eqb (get_or s 0 0) enquiry h₅,
      ne_eqb (get_or s 0 0) update_opens h₂,
      e,
      le-ltb (length s) 3 (omega arith),
      le-ltb longest_data n m,
      le-ltb (length s) (n + around) g,
    )

received_frame : (identifier : ℕ) (d rest : List ℕ) → (identifier ≡ enquiry → ⊥) → (identifier ≡ update_opens → ⊥) → length d ≤ longest_data
    → received (frame identifier d ++ rest) ≡ judged identifier (length d)
unfolding frame verified
received_frame identifier d rest h₅ h₂ m =
    let b : List ℕ = body identifier d in
    let c : ℕ = check b in
    let e : length b ≡ length d + head_size = omega arith in
    let g : length d + around ≤ length (b ++ c ∷ rest) = omega (arith, length-append b (c ∷ rest)) in
    let q : check (take (length d + head_size) (b ++ c ∷ rest)) ≡ get_or (b ++ c ∷ rest) (length d + head_size) 0 =
    ap check (take_at b (c ∷ rest) (length d + head_size) e) ∙ sym (get_or_at b c rest 0 (length d + head_size) e) in
    ap received (append_snoc b c rest)
    ∙ received_long (b ++ c ∷ rest) (length d) h₅ h₂ (div-add-mod' (length d) 256) m g
    ∙ ap (λ (t : Bool). unless t (Refused WrongCheck (length d + around)) (judged identifier (length d))) (eq-eqb _ _ q)

-- ---- What is heard of it.
data_of_frame : (identifier : ℕ) (d rest : List ℕ) → take (length d) (drop 3 (frame identifier d ++ rest)) ≡ d
unfolding frame
data_of_frame identifier d rest = ap (take (length d)) (append_snoc d (check (body identifier d)) rest) ∙ take-append_seam d (check (body identifier d) ∷ rest)

heard_judged : (s : List ℕ) (identifier n : ℕ) → heard_in s (judged identifier n) ≡ heard identifier (take n (drop 3 s))
heard_judged s identifier n = judged_case (λ (r : Received). heard_in s r ≡ heard identifier (take n (drop 3 s))) identifier n refl refl refl

heard_frame : (identifier : ℕ) (d rest : List ℕ) → (identifier ≡ enquiry → ⊥) → (identifier ≡ update_opens → ⊥) → length d ≤ longest_data
    → heard_in (frame identifier d ++ rest) (received (frame identifier d ++ rest)) ≡ heard identifier d
heard_frame identifier d rest h₅ h₂ m =
    ap (heard_in (frame identifier d ++ rest)) (received_frame identifier d rest h₅ h₂ m)
    ∙ heard_judged (frame identifier d ++ rest) identifier (length d)
    ∙ ap (heard identifier) (data_of_frame identifier d rest)

not_enquiry : (identifier : ℕ) → listed (size_of identifier) ≡ true → identifier ≡ enquiry → ⊥
unfolding size_of
not_enquiry identifier h e = false≢true (subst (λ (k : ℕ). listed (size_of k) ≡ true) e h)

not_update : (identifier : ℕ) → listed (size_of identifier) ≡ true → identifier ≡ update_opens → ⊥
unfolding size_of
not_update identifier h e = false≢true (subst (λ (k : ℕ). listed (size_of k) ≡ true) e h)

judged_listed : (identifier n : ℕ) → listed (size_of identifier) ≡ true
    → judged identifier n ≡ pick (fits (size_of identifier) n) (Frame identifier n (n + around)) (Misfit WrongLength identifier n (n + around))
unfolding judged
judged_listed identifier n h = rw h (swap (fits (size_of identifier) n))
  where
    swap : (f : Bool) → unless f (Misfit WrongLength identifier n (n + around)) (Frame identifier n (n + around)) ≡ pick f (Frame identifier n (n + around)) (Misfit WrongLength identifier n (n + around))
    swap true = refl
    swap false = refl

number_picked : (f : Bool) (i n c : ℕ) → number (pick f (Frame i n c) (Misfit WrongLength i n c)) ≡ pick f 0 7
number_picked true i n c = refl
number_picked false i n c = refl

pub read_back : ReadBack
read_back identifier d rest h m =
    let a : received (frame identifier d ++ rest) ≡ pick (fits (size_of identifier) (length d)) (Frame identifier (length d) (length d + around)) (Misfit WrongLength identifier (length d) (length d + around)) =
    received_frame identifier d rest (not_enquiry identifier h) (not_update identifier h) m ∙ judged_listed identifier (length d) h in
    record {
      answer = a;
      gives = ap number a ∙ number_picked (fits (size_of identifier) (length d)) identifier (length d) (length d + around);
      hears = heard_frame identifier d rest (not_enquiry identifier h) (not_update identifier h) m;
    }

-- ---- What the builder says it wrote.
written_frame : (before : List ℕ) (identifier : ℕ) (d : List ℕ) (n : ℕ) (after : List ℕ)
    → n ≡ length d + around → after ≡ over (frame identifier d) before → take n after ≡ frame identifier d
written_frame before identifier d n after e q = ap (take n) q ∙ take_at (frame identifier d) (drop (length (frame identifier d)) before) n (frame_length identifier d ∙ sym e)

pub answer_read_back : AnswerReadBack
unfolding answered
answer_read_back before identifier d n after rest h₅ h₂ p =
    let e = accepted (answer_tests (length before) (length d)) n (length d) p.answer in
    let h = both_true (leb (length d + around) (length before)) _ e.0 in
    let g = both_true (leb (length d) longest_data) true h.1 in
    rw (written_frame before identifier d n after e.1 p.buffer)
    (heard_frame identifier d rest h₅ h₂ (leb-true (length d) longest_data g.0))

pub wrap_read_back : WrapReadBack
unfolding answered
wrap_read_back before identifier n m after rest h₅ h₂ p =
    let d : List ℕ = take n (drop head_size before) in
    let e = accepted (answer_tests (length before) n) m n p.answer in
    let h = both_true (leb (n + around) (length before)) _ e.0 in
    let g = both_true (leb n longest_data) true h.1 in
    let l : length d ≡ n = data_held n before (leb-true (n + around) (length before) h.0) in
    rw (written_frame before identifier d m after (e.1 ∙ ap (λ (k : ℕ). k + around) (sym l)) p.buffer)
    (heard_frame identifier d rest h₅ h₂ (rw l (leb-true n longest_data g.0)))

pub built_read_back : BuiltReadBack
unfolding built
built_read_back before identifier d n after rest p =
    let e = accepted (build_tests (length before) identifier (length d)) n (length d) p.answer in
    let h = both_true (leb (length d + around) (length before)) _ e.0 in
    let g = both_true (leb (length d) longest_data) _ h.1 in
    let k = both_true (listed (size_of identifier)) true g.1 in
    rw (written_frame before identifier d n after e.1 p.buffer)
    (read_back identifier d rest k.0 (leb-true (length d) longest_data g.0))

-- ---- What is consumed. A frame consumes its data and four bytes.
expected : Received → ℕ
expected Partial = 0
expected (Refused k c) = c
expected (Misfit k i n c) = n + around
expected Enquiry = 1
expected (Update n c) = n + update_marks
expected (Frame i n c) = n + around

-- What holds of every answer. The last does of all but 3 and 4, which wait for more bytes and take all of them.
record Taken (s : List ℕ) (r : Received) : Type 0 where
  inside : consumed r ≤ length s
  counted : consumed r ≡ expected r
  same : (number r ≡ 3 → ⊥) → (number r ≡ 4 → ⊥) → (rest : List ℕ) → received (take (consumed r) s ++ rest) ≡ r

-- Whatever the check byte and the table say of a frame, its data and four bytes are consumed.
consumed_verified : (s : List ℕ) (n : ℕ) → (consumed (verified s n) ≡ n + around) × (expected (verified s n) ≡ n + around)
unfolding expected
consumed_verified s n = verified_case (λ (r : Received). (consumed r ≡ n + around) × (expected r ≡ n + around)) s n (refl, refl) (λ i. (refl, refl)) (λ i. (refl, refl)) (λ i. (refl, refl))

-- The first c bytes are the same whatever stands behind them.
module _ (s rest : List ℕ) (c : ℕ) (h : c ≤ length s) where
  front_at : (k : ℕ) → k < c → get_or (take c s ++ rest) k 0 ≡ get_or s k 0
  front_at k g = get_or-append (take c s) rest 0 k (rw length-take-le g) ∙ get_or-take c s k 0 g

  front_of : (k : ℕ) → k ≤ c → take k (take c s ++ rest) ≡ take k s
  front_of k g = take-append-le k (take c s) rest (rw length-take-le g) ∙ take-take k c s g

  front_length : c ≤ length (take c s ++ rest)
  front_length = omega (arith, length-append (take c s) rest, length-take-le c s h)

verified_again : (s rest : List ℕ) (n : ℕ) → n + around ≤ length s → verified (take (n + around) s ++ rest) n ≡ verified s n
unfolding verified
verified_again s rest n h = rw (front_of s rest (n + around) h (n + head_size) (omega arith), front_at s rest (n + around) h (n + head_size) (omega arith), front_at s rest (n + around) h 0 (omega arith))

taken_long : (s : List ℕ) → (get_or s 0 0 ≡ enquiry → ⊥) → (get_or s 0 0 ≡ update_opens → ⊥) → data_length s ≤ longest_data → data_length s + around ≤ length s
    → Taken s (verified s (data_length s))
taken_long s h₅ h₂ m g =
    let n : ℕ = data_length s in
    let e : consumed (verified s n) ≡ n + around = (consumed_verified s n).0 in
    record {
      inside = rw e g;
      counted = e ∙ sym (consumed_verified s n).1;
      same = λ three four rest.
          let t : List ℕ = take (n + around) s ++ rest in
          let first : get_or t 0 0 ≡ get_or s 0 0 = front_at s rest (n + around) g 0 (omega arith) in
          ap (λ (k : ℕ). received (take k s ++ rest)) e
          ∙ received_long t n (rw first h₅) (rw first h₂) (ap₂ word (front_at s rest (n + around) g 1 (omega arith)) (front_at s rest (n + around) g 2 (omega arith))) m (front_length s rest (n + around) g)
          ∙ verified_again s rest n g;
    }

taken_partial : (s : List ℕ) → Taken s Partial
unfolding expected
taken_partial s = record { inside = omega arith; counted = refl; same = λ three four rest. absurd (three refl) }

taken_refused : (s : List ℕ) → Taken s (Refused TooLong (length s))
unfolding expected
taken_refused s = record { inside = omega arith; counted = refl; same = λ three four rest. absurd (four refl) }

taken_framed : (s : List ℕ) → (get_or s 0 0 ≡ enquiry → ⊥) → (get_or s 0 0 ≡ update_opens → ⊥) → Taken s (framed s (data_length s))
unfolding framed verified
taken_framed s h₅ h₂ =
    pick_case (Taken s) (ltb (length s) 3) _ _ (λ e. taken_partial s) (λ e.
    pick_case (Taken s) (ltb longest_data (data_length s)) _ _ (λ m. taken_refused s) (λ m.
    pick_case (Taken s) (ltb (length s) (data_length s + around)) _ _ (λ g. taken_partial s) (λ g.
    taken_long s h₅ h₂ (ltb-false longest_data (data_length s) m) (ltb-false (length s) (data_length s + around) g))))

-- A 05h, and an update.
taken_enquiry : (s : List ℕ) → (length s ≡ 0 → ⊥) → get_or s 0 0 ≡ enquiry → Taken s Enquiry
unfolding received expected
taken_enquiry [] h e = absurd (h refl)
taken_enquiry (x ∷ s) h e =
    record {
      inside = omega arith;
      counted = refl;
      same = λ three four rest. rw (ne_eqb (length (x ∷ rest)) 0 (λ z. omega arith), eq-eqb x enquiry e);
    }

-- The text's own bytes are read as they were, also where more stands behind them.
text_again : (b m : ℕ) (s rest : List ℕ) → run b (take m s) < length (take m s)
    → let u : List ℕ = take m (take (suc (run b (take m s))) s ++ rest) in (run b u ≡ run b (take m s)) × (run b (take m s) < length u)
text_again b m s rest h =
    let t : List ℕ = take m s in
    let n : ℕ = run b t in
    let g : suc n ≤ m = omega (arith, length-take m s) in
    let l : length (take (suc n) t) ≡ suc n = length-take-le (suc n) t h in
    let k : m ≡ length (take (suc n) t) + (m - suc n) = omega arith in
    let front : take m (take (suc n) s ++ rest) ≡ take (suc n) t ++ take (m - suc n) rest =
    ap (λ (w : List ℕ). take m (w ++ rest)) (sym (take-take (suc n) m s g))
    ∙ ap (λ (j : ℕ). take j (take (suc n) t ++ rest)) k
    ∙ take-append-add (take (suc n) t) rest (m - suc n) in
    (ap (run b) front ∙ run_kept b t (take (m - suc n) rest) h, rw front (omega (arith, length-append (take (suc n) t) (take (m - suc n) rest))))

received_update : (x : ℕ) (s : List ℕ) (n : ℕ) → x ≡ update_opens → run update_closes (take (longest_update + 1) s) ≡ n → n < length (take (longest_update + 1) s) → received (x ∷ s) ≡ Update n (n + update_marks)
unfolding received updated
received_update x s n e q h =
    rw (ne_eqb (length (x ∷ s)) 0 (λ z. omega arith), ne_eqb x enquiry (λ z. omega arith), eq-eqb x update_opens e, q, lt-ltb n (length (take (longest_update + 1) s)) h)

taken_updated : (s : List ℕ) → (length s ≡ 0 → ⊥) → get_or s 0 0 ≡ update_opens → Taken s (updated s (run update_closes (text_space s)))
unfolding updated expected
taken_updated [] h e = absurd (h refl)
taken_updated (x ∷ s) h e =
    let n : ℕ = run update_closes (text_space (x ∷ s)) in
    pick_case (Taken (x ∷ s)) (ltb n (length (text_space (x ∷ s)))) _ _
    (λ g. record {
      inside = omega (arith, text_length (x ∷ s), ltb-true n (length (text_space (x ∷ s))) g);
      counted = refl;
      same = λ three four rest.
          let k : n + 2 ≡ suc (suc n) = omega arith in
          let again = text_again update_closes (longest_update + 1) s rest (ltb-true n (length (text_space (x ∷ s))) g) in
          ap (λ (j : ℕ). received (take j (x ∷ s) ++ rest)) k ∙ received_update x (take (suc n) s ++ rest) n e again.0 again.1;
    })
    (λ g. pick_case (Taken (x ∷ s)) (ltb (length (x ∷ s)) (longest_update + update_marks)) _ _ (λ q. taken_partial (x ∷ s)) (λ q. taken_refused (x ∷ s)))

taken : (s : List ℕ) → Taken s (received s)
unfolding received
taken s =
    pick_case (Taken s) (eqb (length s) 0) _ _ (λ e. taken_partial s) (λ e.
    pick_case (Taken s) (eqb (get_or s 0 0) enquiry) _ _ (λ h. taken_enquiry s (eqb-false (length s) 0 e) (eqb-true (get_or s 0 0) enquiry h)) (λ h₅.
    pick_case (Taken s) (eqb (get_or s 0 0) update_opens) _ _ (λ h. taken_updated s (eqb-false (length s) 0 e) (eqb-true (get_or s 0 0) update_opens h)) (λ h₂.
    taken_framed s (eqb-false (get_or s 0 0) enquiry h₅) (eqb-false (get_or s 0 0) update_opens h₂))))

pub consumed_inside : ConsumedInside
consumed_inside s = (taken s).inside

pub consumed_whole : ConsumedWhole
consumed_whole s three four =
    record {
      inside = (taken s).inside;
      same = (taken s).same three four;
      behind = λ rest. drop_at (take (consumed (received s)) s) rest (consumed (received s)) (length-take-le (consumed (received s)) s (taken s).inside);
    }

pub frame_whole : FrameWhole
unfolding expected
frame_whole s i n c e =
    (sym (ap consumed e) ∙ (taken s).counted ∙ ap expected e, subst (Whole s) e (consumed_whole s (rw e (λ z. omega (arith, z))) (rw e (λ z. omega (arith, z)))))

-- ---- An update's text ends at its first 03h.
run_text : (b : ℕ) (text rest : List ℕ) → has b text ≡ false → run b (text ++ (b ∷ rest)) ≡ length text
run_text b [] rest e = rw (eq-eqb b b refl)
run_text b (x ∷ text) rest e = go (eqb x b) refl (λ q. run_text b text rest q)
  where
    go : (t : Bool) → eqb x b ≡ t → (has b text ≡ false → run b (text ++ (b ∷ rest)) ≡ length text) → run b (x ∷ text ++ (b ∷ rest)) ≡ suc (length text)
    go true q again = absurd (false≢true (sym (rw q at e)))
    go false q again = rw (q, again (rw q at e)) (omega arith)

pub update_heard : UpdateHeard
update_heard text rest h e =
    let k : longest_update + 1 ≡ length text + suc (longest_update - length text) = omega arith in
    let space : take (longest_update + 1) (text ++ (0x03 ∷ rest)) ≡ text ++ (0x03 ∷ take (longest_update - length text) rest) =
    ap (λ (n : ℕ). take n (text ++ (0x03 ∷ rest))) k ∙ take-append-add text (0x03 ∷ rest) (suc (longest_update - length text)) in
    received_update 0x02 (text ++ (0x03 ∷ rest)) (length text) refl
    (ap (run update_closes) space ∙ run_text 0x03 text _ e)
    (rw space (simp length-append (omega arith)))
