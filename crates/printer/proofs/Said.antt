-- What an order comes to: it is refused at its first test that fails, and the state stays, or it is done; and what is answered of it.
use Prim.Native.Nat.{ℕ, ◌-◌, ◌≤◌}
use mathlib.Core.Bool.{Bool, true, false}
use mathlib.Core.List.{List, [], ◌∷◌, map}
use mathlib.Core.Path.{◌≡◌, refl, sym, ◌∙◌, ap, subst}
use native.Mathlib.Nat.{not-suc-le-zero}
use native.Mathlib.Omega.{arith}
use Rattle.std.proofs.Common.{Result, Ok, Err}
use borrow.Author.Tests.{ne_eqb, eqb-true}
use borrow.Rule.Slice.PartMut.{mid_of, put_mid}
use lib.Dec.{eqb}
use lib.ListN.{length, set}
use Rattle.frame.specs.Ground.{all, given, joined, over, pick, plain}
use Rattle.frame.specs.Given as words
use Rattle.frame.specs.Given.{given_in, given_of}
use Rattle.frame.specs.Build.{length_given}
use Rattle.frame.specs.declared.given.Refusal.{Refusal}
use Rattle.frame.specs.declared.given.Given.{Given}
use Rattle.frame.specs.Wire.{fits, size_of}
use Rattle.frame.specs.Receive.{received}
use Rattle.frame.proofs.Ground.{checked_all, lent_tail, tail_back}
use Rattle.printer.specs.State.{Printer, printer_of, bytes_of}
use Rattle.printer.specs.Order.{Order, StoreChange, unchanged, storing, store_after, no_strips, Obeys}
use Rattle.printer.specs.Answer.{Silent, Settles, TellsOrder, ack, bare, nack}
use Rattle.printer.specs.Change.{change_order, update_fields}
use Rattle.printer.specs.Messages.{ChangesStore, select_message, store_message, store_tests, stored_body, stored_number}
use Rattle.printer.specs.Request.{request_order, ask_table, ask_clock}
use Rattle.printer.specs.Receive.{Outcome, Meets, Fulfils, Receives, handed, handing_tests, handled, outcome, silent, refusal, done, obeyed, enquire}
use Rattle.printer.specs.OrderLaws.{numbered}
use Rattle.printer.specs.declared.answer.Answered.{Answered}
use Rattle.printer.specs.declared.change.Change.{Change}
use Rattle.printer.specs.declared.change.Change.TheVariants.{Message, Parameters, Both, Characters}
use Rattle.printer.specs.declared.request.Request.{Request}
use Rattle.printer.specs.declared.request.Request.TheVariants as request
use Rattle.printer.proofs.Orders.{given_numbered, refused_given, Fails, Passes, fails_checked, passes_checked}
use Rattle.printer.proofs.OrderLaws.{obeyed_done, obeyed_refused, given_exactly}

-- ---- The outcome of an order.
pub meets_same : {o o' : Outcome} {m answer strips : List ℕ} {a : Answered} {m' answer' strips' : List ℕ} → o' ≡ o
    → Meets o m answer strips a m' answer' strips' → Meets o' m answer strips a m' answer' strips'
meets_same {m = m} {answer = answer} {strips = strips} {a = a} {m' = m'} {answer' = answer'} {strips' = strips'} e x =
    subst (λ (o : Outcome). Meets o m answer strips a m' answer' strips') (sym e) x

-- ---- The bytes of an answer: its first byte stands before what a callee laid over the part behind it.
pub first_byte : (b : ℕ) (w before last : List ℕ) → 1 ≤ length before → last ≡ over w (mid_of 1 (length before - 1) before)
    → set (put_mid 1 (length before - 1) before last) 0 b ≡ over (b ∷ w) before
first_byte b w [] last h e = absurd (not-suc-le-zero h)
first_byte b w (x ∷ before) last h e =
    ap (λ (l : List ℕ). set l 0 b) (tail_back 1 (x ∷ before) last) ∙ ap (λ (l : List ℕ). b ∷ l) (e ∙ ap (over w) (lent_tail 1 (x ∷ before)))

pub one_byte : (b : ℕ) (before : List ℕ) → 1 ≤ length before → set before 0 b ≡ over (b ∷ []) before
one_byte b [] h = absurd (not-suc-le-zero h)
one_byte b (x ∷ before) h = refl

-- ---- What is settled: a silent number, a refusal, and an order that is done.
pub meets_silent : (p : Printer) {number : ℕ} (m answer strips : List ℕ) {why : Refusal} {a : Answered} → given_of why ≡ plain number → (number ≡ 0 → ⊥) → Silent why a
    → Meets (silent p number) m answer strips a m answer strips
meets_silent p {number} m answer strips g n s =
    rw s.answered
    (record {
      gives = g;
      consumes = refl;
      answers = refl;
      prints = refl;
      leaves = rw (ne_eqb number 0 n);
      answer_bytes = refl;
      strip_bytes = refl;
    })

-- What stands in the answer buffer before its first byte is settled does not matter where that byte is all.
pub meets_refusal : (p : Printer) {why : Refusal} {consumed : ℕ} (m : List ℕ) {answer : List ℕ} (strips : List ℕ) {before : List ℕ} {a : Answered} {answer' : List ℕ} → ((given_of why).number ≡ 0 → ⊥)
    → set before 0 nack ≡ over (nack ∷ []) answer → Settles (Err why) consumed before a answer' → Meets (refusal p (given_of why) consumed) m answer strips a m answer' strips
meets_refusal p {why} m strips n q s =
    rw s.answered
    (record {
      gives = refl;
      consumes = refl;
      answers = refl;
      prints = refl;
      leaves = rw (ne_eqb (given_of why).number 0 n);
      answer_bytes = s.bytes ∙ q;
      strip_bytes = refl;
    })

pub meets_done : (o : Order) {frame consumed : ℕ} (m : List ℕ) {answer : List ℕ} (strips : List ℕ) {before : List ℕ} {a : Answered} {m' answer' : List ℕ} → o.strips ≡ no_strips → frame ≡ length o.frame
    → set before 0 ack ≡ over (ack ∷ o.frame) answer → Settles (Ok frame) consumed before a answer' → m' ≡ bytes_of o.after
    → Meets (done o consumed) m answer strips a m' answer' strips
meets_done o m strips e n q s k =
    rw s.answered
    (record {
      gives = refl;
      consumes = refl;
      answers = omega (arith, n);
      prints = rw e;
      leaves = k;
      answer_bytes = s.bytes ∙ q;
      strip_bytes = rw e;
    })

-- ---- An order, by what is told of it: refused where a test fails, and done where all hold.
module _ (p : Printer) (o : Order) {consumed : ℕ} {m answer : List ℕ} (strips : List ℕ) {before : List ℕ} {a : Answered} {m' answer' : List ℕ}
    (n : numbered o.tests ≡ true) (e : o.strips ≡ no_strips)
    (refuses : all o.tests ≡ false → (m' ≡ m) × (set before 0 nack ≡ over (nack ∷ []) answer))
    (does : all o.tests ≡ true → (m' ≡ bytes_of o.after) × (set before 0 ack ≡ over (ack ∷ o.frame) answer)) where
  meets_settled : (told : Result ℕ Refusal) → given_in told ≡ given o.tests → ((frame : ℕ) → told ≡ Ok frame → all o.tests ≡ true → frame ≡ length o.frame)
      → Settles told consumed before a answer' → Meets (obeyed p o consumed) m answer strips a m' answer' strips
  meets_settled told g f s = go told (all o.tests) refl g f s
    where
      go : (told : Result ℕ Refusal) (t : Bool) → all o.tests ≡ t → given_in told ≡ given o.tests → ((frame : ℕ) → told ≡ Ok frame → all o.tests ≡ true → frame ≡ length o.frame)
          → Settles told consumed before a answer' → Meets (obeyed p o consumed) m answer strips a m' answer' strips
      go (Ok frame) true t g f s =
          let d = does t in meets_same (obeyed_done p o consumed t) (meets_done o m strips {before = before} e (f frame refl t) d.1 s d.0)
      go (Ok frame) false t g f s =
          let q : (given o.tests).number ≡ 0 = ap (λ (x : Given). x.number) (sym g) in
          absurd (omega (arith, q, (given_exactly o.tests n).1 t))
      go (Err why) true t g f s = absurd (refused_given why (g ∙ checked_all o.tests _ _ t))
      go (Err why) false t g f s =
          let r = refuses t in
          let k : 8 ≤ (given_of why).number = rw g ((given_exactly o.tests n).1 t) in
          rw r.0
          (meets_same (obeyed_refused p o consumed t ∙ ap (λ (x : Given). refusal p x consumed) (sym g))
          (meets_refusal p m strips {before = before} (λ z. omega arith) r.1 s))

-- ---- An order that changes the state, and one that asks for a frame.
pub record Changes (o : Order) : Type 0 where
  pub numbers : numbered o.tests ≡ true
  pub frame : o.frame ≡ []
  pub strips : o.strips ≡ no_strips

pub record Asks (p : Printer) (o : Order) : Type 0 where
  pub numbers : numbered o.tests ≡ true
  pub after : o.after ≡ p
  pub strips : o.strips ≡ no_strips

pub meets_changed : (p : Printer) (o : Order) (r : Result Unit Refusal) {consumed : ℕ} {m answer : List ℕ} (strips : List ℕ) {a : Answered} {m' answer' : List ℕ} → Changes o
    → 1 ≤ length answer → Obeys o m (given_in r) m' → Settles (bare r) consumed answer a answer' → Meets (obeyed p o consumed) m answer strips a m' answer' strips
meets_changed p o r {answer = answer} strips k h c s =
    meets_settled p o strips k.numbers k.strips
    (λ t. (c.state ∙ rw t, one_byte nack answer h))
    (λ t. (c.state ∙ rw t, one_byte ack answer h ∙ ap (λ (f : List ℕ). over (ack ∷ f) answer) (sym k.frame)))
    (bare r) (given_bare r ∙ c.gives) (λ frame e t. no_frame r e ∙ ap length (sym k.frame)) s
  where
    given_bare : (r : Result Unit Refusal) → given_in (bare r) ≡ given_in r
    given_bare (Ok u) = refl
    given_bare (Err why) = refl

    no_frame : (r : Result Unit Refusal) {frame : ℕ} → bare r ≡ Ok frame → frame ≡ 0
    no_frame (Ok u) e = cc
    no_frame (Err why) e = cc

pub meets_told : (p : Printer) (o : Order) {consumed : ℕ} {m answer : List ℕ} (strips : List ℕ) {t : Result ℕ Refusal} {last : List ℕ} {a : Answered} {answer' : List ℕ} → Asks p o
    → bytes_of p ≡ m → 1 ≤ length answer → TellsOrder o (mid_of 1 (length answer - 1) answer) (words.numbered t) last
    → Settles t consumed (put_mid 1 (length answer - 1) answer last) a answer' → Meets (obeyed p o consumed) m answer strips a m answer' strips
meets_told p o {answer = answer} strips {t} {last} k b h c s =
    meets_settled p o strips k.numbers k.strips
    (λ e. (refl, first_byte nack [] answer last h (c.bytes ∙ rw e)))
    (λ e. (sym b ∙ ap bytes_of (sym k.after), first_byte ack o.frame answer last h (c.bytes ∙ rw e)))
    t (given_numbered t ∙ c.gives) (λ frame q e. ap (λ (x : Result ℕ Refusal). length_given (words.numbered x)) (sym q) ∙ c.size ∙ rw e) s

-- ---- An order that prints: the lengths of its strips stand in the place of none.
pub meets_printed : (o : Order) {consumed : ℕ} (m : List ℕ) {answer strips : List ℕ} {a : Answered} {m' answer' strips' lengths : List ℕ} → o.frame ≡ [] → 1 ≤ length answer
    → Settles (Ok 0) consumed answer a answer' → m' ≡ bytes_of o.after → lengths ≡ map length o.strips → strips' ≡ over (joined o.strips) strips
    → Meets (done o consumed) m answer strips (record { outcome = a.outcome; consumed = a.consumed; answer = a.answer; strips = lengths }) m' answer' strips'
meets_printed o m {answer} e h s k l b =
    rw s.answered
    (record {
      gives = refl;
      consumes = refl;
      answers = rw e;
      prints = l;
      leaves = k;
      answer_bytes = s.bytes ∙ one_byte ack answer h ∙ ap (λ (f : List ℕ). over (ack ∷ f) answer) (sym e);
      strip_bytes = b;
    })

-- ---- The store: what an order that is obeyed puts into it, and one that puts nothing into it leaves it as it was.
obeyed_store : (p : Printer) (o : Order) (consumed : ℕ) (store : List ℕ)
    → store_after (obeyed p o consumed).store store ≡ pick (all o.tests) (store_after o.store store) store
obeyed_store p o consumed store = go (all o.tests) refl
  where
    go : (t : Bool) → all o.tests ≡ t → store_after (obeyed p o consumed).store store ≡ pick (all o.tests) (store_after o.store store) store
    go true e = rw (obeyed_done p o consumed e, e)
    go false e = rw (obeyed_refused p o consumed e, e)

same_store : (t : Bool) (c : StoreChange) (store : List ℕ) → c ≡ unchanged → store ≡ pick t (store_after c store) store
same_store true c store e = rw e
same_store false c store e = refl

pub fulfils_obeyed : (p : Printer) (o : Order) (consumed : ℕ) {m answer strips : List ℕ} (store : List ℕ) {a : Answered} {m' answer' strips' : List ℕ} → o.store ≡ unchanged
    → Meets (obeyed p o consumed) m answer strips a m' answer' strips' → Fulfils (obeyed p o consumed) m store answer strips a m' store answer' strips'
fulfils_obeyed p o consumed store e x =
    record { meets = x; stores = same_store (all o.tests) o.store store e ∙ sym (obeyed_store p o consumed store) }

pub fulfils_same : {o o' : Outcome} {m store answer strips : List ℕ} {a : Answered} {m' store' answer' strips' : List ℕ} → o' ≡ o
    → Fulfils o m store answer strips a m' store' answer' strips' → Fulfils o' m store answer strips a m' store' answer' strips'
fulfils_same {m = m} {store = store} {answer = answer} {strips = strips} {a = a} {m' = m'} {store' = store'} {answer' = answer'} {strips' = strips'} e x =
    subst (λ (o : Outcome). Fulfils o m store answer strips a m' store' answer' strips') (sym e) x

-- An order on the store alone.
same_state : (t : Bool) {m b : List ℕ} → b ≡ m → m ≡ pick t b m
same_state true e = sym e
same_state false e = refl

pub fulfils_stored : (p : Printer) (store d : List ℕ) (r : Result Unit Refusal) {consumed : ℕ} {m answer : List ℕ} (strips : List ℕ) {a : Answered} {store' answer' : List ℕ} → bytes_of p ≡ m
    → 1 ≤ length answer → ChangesStore (store_tests store d) (storing (stored_number d) (stored_body d)) store (given_in r) store' → Settles (bare r) consumed answer a answer'
    → Fulfils (obeyed p (store_message p store d) consumed) m store answer strips a m store' answer' strips
unfolding store_message
fulfils_stored p store d r {consumed = consumed} strips b h c s =
    let o = store_message p store d in
    record {
      meets = meets_changed p o r strips (record { numbers = refl; frame = refl; strips = refl }) h (record { gives = c.gives; state = same_state (all o.tests) b }) s;
      stores = c.bytes ∙ sym (obeyed_store p o consumed store);
    }

-- ---- What is handed in: silence where the state, the store or a buffer is not as it must be, and else what is handled.
pub receives_silent : (m store s answer strips : List ℕ) {number : ℕ} {why : Refusal} {a : Answered} → given_of why ≡ plain number
    → Fails (handing_tests m (handed store s answer strips)) (plain number) → (number ≡ 0 → ⊥) → Silent why a → Receives m store s answer strips a m store answer strips
unfolding outcome
receives_silent m store s answer strips g f n x =
    record {
      fulfils =
          fulfils_same (fails_checked (λ (r : Given). silent (printer_of m) r.number) (handled (printer_of m) store s (received s)) f)
          (record { meets = meets_silent (printer_of m) m answer strips g n x; stores = refl });
    }

pub receives_handled : {m store s answer strips : List ℕ} {a : Answered} {m' store' answer' strips' : List ℕ} → Passes (handing_tests m (handed store s answer strips))
    → Fulfils (handled (printer_of m) store s (received s)) m store answer strips a m' store' answer' strips' → Receives m store s answer strips a m' store' answer' strips'
unfolding outcome
receives_handled {m} {store} {s} f x =
    record { fulfils = fulfils_same (passes_checked (λ (r : Given). silent (printer_of m) r.number) (handled (printer_of m) store s (received s)) f) x }

-- ---- A row of the table, and the length that it gives.
pub row : (identifier k n : ℕ) → identifier ≡ k → fits (size_of identifier) n ≡ true → fits (size_of k) n ≡ true
row identifier k n e h = subst (λ (i : ℕ). fits (size_of i) n ≡ true) e h

pub exactly : {n k : ℕ} → eqb n k ≡ true → k ≤ n
exactly {n} {k} h = let e = eqb-true n k h in omega arith

-- ---- The orders of document 01, and 40h.
pub change_changes : (what : Change) (p : Printer) (d : List ℕ) → Changes (change_order what p d)
change_changes Message p d = record { numbers = refl; frame = refl; strips = refl }
change_changes Parameters p d = record { numbers = refl; frame = refl; strips = refl }
change_changes Both p d = record { numbers = refl; frame = refl; strips = refl }
change_changes Characters p d = record { numbers = refl; frame = refl; strips = refl }

pub select_changes : (p : Printer) (store d : List ℕ) → Changes (select_message p store d)
unfolding select_message
select_changes p store d = record { numbers = refl; frame = refl; strips = refl }

pub select_unchanged : (p : Printer) (store d : List ℕ) → (select_message p store d).store ≡ unchanged
unfolding select_message
select_unchanged p store d = refl

pub fields_change : (p : Printer) (text : List ℕ) → Changes (update_fields p text)
unfolding update_fields
fields_change p text = record { numbers = refl; frame = refl; strips = refl }

pub enquiry_changes : (p : Printer) → Changes (enquire p)
enquiry_changes p = record { numbers = refl; frame = refl; strips = refl }

pub request_asks : (what : Request) (p : Printer) (d : List ℕ) → Asks p (request_order what p d)
request_asks request.Counter p d = record { numbers = refl; after = refl; strips = refl }
request_asks request.Message p d = record { numbers = refl; after = refl; strips = refl }

pub table_asks : (p : Printer) → Asks p (ask_table p)
unfolding ask_table
table_asks p = record { numbers = refl; after = refl; strips = refl }

pub clock_asks : (p : Printer) → Asks p (ask_clock p)
unfolding ask_clock
clock_asks p = record { numbers = refl; after = refl; strips = refl }
