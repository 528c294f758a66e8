-- What comes of a byte: it is left untaken where a test fails, and else what is held goes on by the number that the first receiver gives.
use Prim.Native.Nat.{ℕ, ◌+◌, ◌<◌, ◌≤◌}
use mathlib.Core.Bool.{Bool, true, false, false≢true}
use mathlib.Core.List.{List}
use mathlib.Core.Logic.{◌⊎◌, inl, inr}
use mathlib.Core.Path.{◌≡◌, refl, sym, ◌∙◌, ap, subst}
use native.Mathlib.Omega.{arith}
use borrow.Author.Tests.{ne_eqb, le-leb, lt-leb}
use lib.Dec.{eqb}
use lib.ListN.{length, set, take, drop}
use Rattle.frame.specs.Ground.{all, plain, within}
use Rattle.frame.specs.declared.given.Given.{Given}
use Rattle.frame.specs.Given.{given_in, given_of}
use Rattle.frame.specs.declared.given.Refusal.{Refusal}
use Rattle.frame.specs.declared.given.Refusal.TheVariants.{NotWhole}
use Rattle.frame.specs.Receive.{received, number}
use Rattle.frame.specs.Holding.{buffer_behind, holding_behind, is_holding}
use Rattle.frame.specs.declared.holding.Holding.{Holding}
use Rattle.frame.specs.declared.holding.Holding.TheVariants.{Held, Dropping}
use Rattle.frame.specs.declared.receive.Received.{Received}
use Rattle.frame.specs.declared.receive.Received.TheVariants.{Partial, Refused, Misfit, Enquiry, Update, Frame}
use Rattle.frame.proofs.HoldingLaws.{Holds, behind_front, holds_tell, never_silent}
use Rattle.printer.specs.State.{Printer, printer_of}
use Rattle.printer.specs.Order.{Order}
use Rattle.printer.specs.Answer.{Silent}
use Rattle.printer.specs.Change.{update_fields}
use Rattle.printer.specs.Receive.{Fulfils, Outcome, enquire, handled, obeyed, order, silent}
use Rattle.printer.specs.Single.{Takes, TakesByte, Untaken, byte_handled, byte_tests, counted, handed_byte, joined_by, single, taken}
use Rattle.printer.specs.OrderLaws.{numbered}
use Rattle.printer.specs.declared.answer.Answered.{Answered}
use Rattle.printer.specs.declared.single.Taken.{Taken}
use Rattle.printer.proofs.Orders.{Fails, Passes, fails_checked, passes_checked}
use Rattle.printer.proofs.OrderLaws.{obeyed_done, obeyed_refused, given_exactly, fields_numbered, orders_numbered}
use Rattle.printer.proofs.Said.{fulfils_same, meets_silent}

-- ---- The number of what is handled is the receiver's, or where that is 0, an order's own, which is 8 or more.
abbrev pub GivenOf : ℕ → ℕ → Type 0
GivenOf n k = (n ≡ k) ⊎ ((k ≡ 0) × (8 ≤ n))

obeyed_given : (p : Printer) (o : Order) (consumed : ℕ) → numbered o.tests ≡ true → GivenOf (obeyed p o consumed).number 0
obeyed_given p o consumed e = go (all o.tests) refl
  where
    go : (t : Bool) → all o.tests ≡ t → GivenOf (obeyed p o consumed).number 0
    go true q = inl (ap (λ (x : Outcome). x.number) (obeyed_done p o consumed q))
    go false q =
        inr (refl, subst (λ (x : Outcome). 8 ≤ x.number) (sym (obeyed_refused p o consumed q)) ((given_exactly o.tests e).1 q))

pub handled_given : (p : Printer) (store s : List ℕ) (r : Received) → GivenOf (handled p store s r).number (number r)
handled_given p store s Partial = inl refl
handled_given p store s (Refused k c) = inl refl
handled_given p store s (Misfit k i n c) = inl refl
handled_given p store s Enquiry = obeyed_given p (enquire p) 1 refl
handled_given p store s (Update n c) = obeyed_given p (update_fields p (take n (drop 1 s))) c (fields_numbered p (take n (drop 1 s)))
handled_given p store s (Frame i n c) = obeyed_given p (order p store i (take n (drop 3 s))) c (orders_numbered p store i (take n (drop 3 s)))

-- So it is never 1 or 2, and is 3 or 4 exactly where the receiver's is.
pub given_loud : {n k : ℕ} → GivenOf n k → within 1 2 k ≡ false → within 1 2 n ≡ false
given_loud {n} (inl e) q = rw e q
given_loud {n} (inr h) q = let g = h.1 in rw (le-leb 1 n (omega arith), lt-leb n 2 (omega arith)) refl

pub given_same : {n k : ℕ} → GivenOf n k → (j : ℕ) → 1 ≤ j → j < 8 → eqb n j ≡ eqb k j
given_same {n} (inl e) j a b = ap (λ (x : ℕ). eqb x j) e
given_same {n} {k} (inr h) j a b =
    let g = h.1 in
    ne_eqb n j (λ z. omega arith) ∙ sym (ap (λ (x : ℕ). eqb x j) h.0 ∙ ne_eqb 0 j (λ z. omega arith))

pub handled_loud : (p : Printer) (store s : List ℕ) → within 1 2 (handled p store s (received s)).number ≡ false
handled_loud p store s = given_loud (handled_given p store s (received s)) (never_silent s)

-- ---- A byte that is taken is counted as consumed.
pub fulfils_counted : {o : Outcome} {m store answer strips : List ℕ} {a b : Answered} {m' store' answer' strips' : List ℕ} → b ≡ counted a
    → Fulfils o m store answer strips a m' store' answer' strips' → Fulfils (taken o) m store answer strips b m' store' answer' strips'
fulfils_counted e x =
    let q = x.meets in
    rw e
    (record {
      meets =
          record {
            gives = q.gives;
            consumes = refl;
            answers = q.answers;
            prints = q.prints;
            leaves = q.leaves;
            answer_bytes = q.answer_bytes;
            strip_bytes = q.strip_bytes;
          };
      stores = x.stores;
    })

-- ---- What `take_held` promises.
pub takes_held : (m store buffer answer strips : List ℕ) (n byte : ℕ) {a b : Answered} {h : Holding} {m' store' buffer' answer' strips' : List ℕ} → n < length buffer
    → let s = take (n + 1) (set buffer n byte) in
    Fulfils (handled (printer_of m) store s (received s)) m store answer strips a m' store' answer' strips'
    → b ≡ counted a
    → h ≡ holding_behind (Held n) (given_in a.outcome).number
    → buffer' ≡ set buffer n byte
    → let t = joined_by n buffer byte in
    Takes (taken (handled (printer_of m) store t (received t))) m store (Held n) buffer byte answer strips (record { answered = b; holding = h }) m' store' buffer' answer' strips'
takes_held m store buffer answer strips n byte room x e q w =
    let t = joined_by n buffer byte in
    let front : take (n + 1) (set buffer n byte) ≡ t = behind_front n buffer byte room in
    let y = fulfils_same (ap (λ (l : List ℕ). handled (printer_of m) store l (received l)) (sym front)) x in
    record {
      fulfils = fulfils_counted e y;
      holds = q ∙ ap (λ (g : Given). holding_behind (Held n) g.number) y.meets.gives;
      buffer_bytes = rw (handled_loud (printer_of m) store t) w;
    }

-- ---- What `take_byte` promises.
-- A holding tells that there is room for a byte.
pub held_tell : (holding : Holding) (buffer : List ℕ) {n : ℕ} → holding ≡ Held n → is_holding holding buffer ≡ true → Holds n buffer
held_tell holding buffer {n} e h = holds_tell n buffer (subst (λ (x : Holding). is_holding x buffer ≡ true) e h)

pub untaken_number : (holding : Holding) (number : ℕ) → within 1 2 number ≡ true → holding ≡ holding_behind holding number
untaken_number (Held n) number e = rw e
untaken_number Dropping number e = refl

pub untaken_buffer : (holding : Holding) (buffer : List ℕ) (byte number : ℕ) → within 1 2 number ≡ true → buffer ≡ buffer_behind holding buffer byte number
untaken_buffer (Held n) buffer byte number e = rw e
untaken_buffer Dropping buffer byte number e = refl

not_done : (number : ℕ) → within 1 2 number ≡ true → number ≡ 0 → ⊥
not_done number e z = false≢true (subst (λ (k : ℕ). within 1 2 k ≡ true) z e)

pub byte_untaken : (m store : List ℕ) (holding : Holding) (buffer : List ℕ) (byte : ℕ) (answer strips : List ℕ) {number : ℕ} {why : Refusal} {r : Taken}
    → given_of why ≡ plain number
    → Fails (byte_tests m (handed_byte store holding buffer byte answer strips)) (plain number)
    → within 1 2 number ≡ true
    → Untaken why holding r
    → TakesByte m store holding buffer byte answer strips r m store buffer answer strips
unfolding single
byte_untaken m store holding buffer byte answer strips {number} g f e u =
    let h = handed_byte store holding buffer byte answer strips in
    let q = fails_checked (λ (r : Given). silent (printer_of m) r.number) (byte_handled m h holding) f in
    record {
      takes =
          rw q
          (record {
            fulfils = record { meets = meets_silent (printer_of m) m answer strips g (not_done number e) u.answered; stores = refl };
            holds = u.holds ∙ untaken_number holding number e;
            buffer_bytes = untaken_buffer holding buffer byte number e;
          });
    }

pub byte_taken : {m store : List ℕ} {holding : Holding} {buffer : List ℕ} {byte n : ℕ} {answer strips : List ℕ} {r : Taken} {m' store' buffer' answer' strips' : List ℕ}
    → holding ≡ Held n
    → Passes (byte_tests m (handed_byte store holding buffer byte answer strips))
    → let t = joined_by n buffer byte in
    Takes (taken (handled (printer_of m) store t (received t))) m store (Held n) buffer byte answer strips r m' store' buffer' answer' strips'
    → TakesByte m store holding buffer byte answer strips r m' store' buffer' answer' strips'
unfolding single
byte_taken {m} {store} {holding} {buffer} {byte} {n} {answer} {strips} e f x =
    let h = handed_byte store holding buffer byte answer strips in
    let q = passes_checked (λ (r : Given). silent (printer_of m) r.number) (byte_handled m h holding) f in
    record { takes = rw (q, e) x }

pub byte_dropped : (m store : List ℕ) {holding : Holding} (buffer : List ℕ) (byte : ℕ) (answer strips : List ℕ) {a b : Answered}
    → holding ≡ Dropping
    → Passes (byte_tests m (handed_byte store holding buffer byte answer strips))
    → Silent NotWhole a
    → b ≡ counted a
    → TakesByte m store holding buffer byte answer strips (record { answered = b; holding = Dropping }) m store buffer answer strips
unfolding single
byte_dropped m store {holding} buffer byte answer strips e f s c =
    let h = handed_byte store holding buffer byte answer strips in
    let q = passes_checked (λ (r : Given). silent (printer_of m) r.number) (byte_handled m h holding) f in
    record {
      takes =
          rw (q, e)
          (record {
            fulfils = fulfils_counted c (record { meets = meets_silent (printer_of m) m answer strips refl (λ z. omega arith) s; stores = refl });
            holds = refl;
            buffer_bytes = refl;
          });
    }
