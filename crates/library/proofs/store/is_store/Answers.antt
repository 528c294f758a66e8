use Prim.Native.Nat.{ℕ, ◌-◌, ◌<◌}
use mathlib.Core.Bool.{Bool, true, false}
use mathlib.Core.List.{List, [], ◌∷◌}
use mathlib.Core.Path.{◌≡◌, refl, sym, ◌∙◌, ap}
use native.Mathlib.Omega.{arith}
use borrow.Author.Tests.{eq-eqb, ne_eqb, eqb-true, eqb-false}
use lib.Dec.{eqb}
use lib.ListN.{length, get_or, take, drop, replicate, set, length-drop, length-replicate, length-set, get_or-replicate}
use lib.Seq.{get_or-set_same, get_or-set_other, take_all}
use Rattle.frame.specs.Ground.{has}
use Rattle.frame.proofs.Ground.{within_true}
use Rattle.library.specs.Record.{records}
use Rattle.library.specs.Store.{blank, fit_behind, is_number, is_store, store_size}
use Rattle.library.proofs.Records.{by_test}
use Rattle.library.proofs.Walks.{Walked, Ended, walked, ended}
use Rattle.library.proofs.store.is_store.Invariants.{Sifted}
use Rattle.library.proofs.store.is_store.Goals as goal
use Rattle.library.proofs.store.is_store.Goals.{then-not-is_number-via-then-not-is_number, then-not-is_number-via-else-not-is_number+then-seen-number}

starts : (s : List ℕ) → length s ≡ store_size → Sifted s (replicate 80 false) 0
starts s h =
    record {
      before = [];
      inside = omega arith;
      size = h;
      count = length-replicate 80 false;
      told = λ k g. get_or-replicate 80 k false false g;
      numbers = refl;
      behind = refl;
    }

other_size : (s : List ℕ) → (length s ≡ store_size → ⊥) → false ≡ is_store s
unfolding is_store
other_size s n = sym (rw (ne_eqb (length s) store_size n))

unfit : {s : List ℕ} {seen : List Bool} {at : ℕ} (p : Sifted s seen at) → fit_behind p.before (records (drop at s)) ≡ false → false ≡ is_store s
unfolding is_store
unfit {s} p e = sym (rw (eq-eqb (length s) store_size p.size, p.numbers ∙ e))

no_number : {s : List ℕ} {seen : List Bool} {at n end : ℕ} → Sifted s seen at → Walked s at n end → is_number n ≡ false → false ≡ is_store s
no_number p w e = unfit p (ap (fit_behind p.before) w.first ∙ rw e)

below : (n : ℕ) → is_number n ≡ true → n < 80
below n e = omega (arith, within_true 1 79 n e)

seen_before : {s : List ℕ} {seen : List Bool} {at n end : ℕ} → Sifted s seen at → Walked s at n end → is_number n ≡ true → get_or seen n false ≡ true → false ≡ is_store s
seen_before {n = n} p w i e =
    let h : has n p.before ≡ true = sym (p.told n (below n i)) ∙ e in
    unfit p (ap (fit_behind p.before) w.first ∙ rw (i, h))

goes_on : {s : List ℕ} {seen : List Bool} {at n end : ℕ} → Sifted s seen at → Walked s at n end → is_number n ≡ true → get_or seen n false ≡ false → Sifted s (set seen n true) end
goes_on {s} {seen} {at} {n} {end} p w i e =
    let h : has n p.before ≡ false = sym (p.told n (below n i)) ∙ e in
    record {
      before = n ∷ p.before;
      inside = w.inside;
      size = p.size;
      count = length-set seen n true ∙ p.count;
      told =
          λ k g. by_test (eqb n k)
          (λ q.
          rw (q, ← eqb-true n k q)
          (get_or-set_same seen n true false (omega (arith, p.count, below n i))))
          (λ q. rw q (get_or-set_other seen n k true false (λ m. eqb-false n k q (sym m)) ∙ p.told k g));
      numbers = p.numbers ∙ ap (fit_behind p.before) w.first ∙ rw (i, h);
      behind = p.behind ∙ w.behind;
    }

stops : {s : List ℕ} {seen : List Bool} {at : ℕ} {r : Bool} → Sifted s seen at → Ended s at → r ≡ blank (take (length s - at) (drop at s)) → r ≡ is_store s
unfolding is_store
stops {s} {seen} {at} p d e =
    e
    ∙ ap blank (take_all (length s - at) (drop at s) (simp length-drop (omega arith)) ∙ sym (p.behind ∙ d.left))
    ∙ sym (rw (eq-eqb (length s) store_size p.size, p.numbers ∙ ap (fit_behind p.before) d.none))

pub returns-then-store-ne-STORE : goal.returns-then-store-ne-STORE
returns-then-store-ne-STORE c = other_size c.args.store.now c.if-store-ne-STORE.true

pub loop-found-init : goal.loop-found-init
loop-found-init c = starts c.args.store.now c.if-store-ne-STORE.false

pub returns-then-not-is_number : goal.returns-then-not-is_number
returns-then-not-is_number c =
    let p = c.loop-found.invariant in
    let w = walked c.args.store.now c.loop-found.at c.in-Some.ensures in
    elim c.then-not-is_number.branch [
      | then-not-is_number-via-then-not-is_number v ↦ no_number p w (sym c.is_number.ensures ∙ v.if-not-is_number.true)
      | then-not-is_number-via-else-not-is_number+then-seen-number v ↦
          seen_before p w (sym c.is_number.ensures ∙ v.if-not-is_number.false) (rw c.from-number.ensures at v.if-seen-number.true)
    ]

pub loop-found-preserved : goal.loop-found-preserved
loop-found-preserved c =
    let w = walked c.args.store.now c.loop-found.at c.in-Some.ensures in
    rw c.from-number.ensures
    (goes_on c.loop-found.invariant w (sym c.is_number.ensures ∙ c.if-not-is_number.false) (rw c.from-number.ensures at c.if-seen-number.false))

pub returns : goal.returns
returns c =
    stops c.loop-found.invariant (ended c.args.store.now c.loop-found.at c.in_default.ensures) c.blank.ensures
