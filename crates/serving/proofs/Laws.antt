-- What the functions' proofs cite: what comes of a byte where there is no room, where it is taken and where all is dropped, a tick that is
-- made, and a digit.
use Prim.Native.Nat.{ℕ, zero, suc, ◌+◌, ◌≤◌, ◌<◌}
use mathlib.Core.Bool.{Bool, true, false}
use mathlib.Core.List.{List}
use mathlib.Core.Path.{◌≡◌, refl, sym, ◌∙◌, ap, subst}
use native.Mathlib.Omega.{arith}
use Rattle.std.proofs.Common.{Some}
use borrow.Author.Tests.{eq-eqb, ne_eqb, le-leb, lt-leb}
use lib.ListN.{length, set, take}
use lib.Seq.{set_out}
use Rattle.frame.specs.Ground.{pick, plain, within}
use Rattle.frame.specs.Given.{given_in, given_of}
use Rattle.frame.specs.declared.given.Given.{Given}
use Rattle.frame.specs.declared.given.Refusal.{Refusal}
use Rattle.frame.specs.declared.given.Refusal.TheVariants.{BadState, NotWhole}
use Rattle.frame.specs.Holding.{holding_behind}
use Rattle.frame.specs.Receive.{number, received}
use Rattle.frame.specs.declared.holding.Holding.{Holding}
use Rattle.frame.specs.declared.holding.Holding.TheVariants.{Held, Dropping}
use Rattle.frame.specs.declared.receive.Received.TheVariants.{Partial}
use Rattle.frame.proofs.Ground.{within_true}
use Rattle.frame.proofs.HoldingLaws.{behind_front, three_partial}
use Rattle.printer.specs.State.{printer_of}
use Rattle.printer.specs.Order.{left}
use Rattle.printer.specs.Call.{tick_clock}
use Rattle.printer.specs.Receive.{Fulfils, Outcome, Receives, handed, outcome, silent}
use Rattle.printer.specs.Single.{HandedByte, counted, handed_byte, joined_by, taken}
use Rattle.printer.specs.declared.answer.Answered.{Answered}
use Rattle.printer.specs.declared.single.Taken.{Taken}
use Rattle.printer.proofs.Bytewise.{fulfils_counted}
use Rattle.printer.proofs.Said.{fulfils_same, meets_silent}
use Rattle.serving.specs.Hold.{Serves, asked, behind, served, taken_unless, uncalled}
use Rattle.serving.specs.Pace.{ticked}
use Rattle.serving.specs.Words.{digit}

-- ---- What comes of a byte.
unsaid : (m store answer strips : List ℕ) (why : Refusal) (k : ℕ) → given_of why ≡ plain k → (k ≡ 0 → ⊥)
    → Fulfils (silent (printer_of m) k) m store answer strips (uncalled why 0) m store answer strips
unsaid m store answer strips why k g h =
    record { meets = meets_silent (printer_of m) m answer strips g h (record { answered = refl }); stores = refl }

waits : (m store answer strips : List ℕ) → Fulfils (silent (printer_of m) 3) m store answer strips (uncalled NotWhole 0) m store answer strips
waits m store answer strips = unsaid m store answer strips NotWhole 3 refl (λ z. omega arith)

module _ (m store buffer answer strips : List ℕ) (n byte : ℕ) where
  abbrev in-hand : HandedByte
  in-hand = handed_byte store (Held n) buffer byte answer strips

  pub no_room : length buffer ≤ n → {a : Answered} → a ≡ uncalled BadState 0
      → Serves m store (Held n) buffer byte answer strips (record { answered = a; holding = Held n }) m store buffer answer strips
  unfolding served
  no_room h w =
      let e = le-leb (length buffer) n h in
      rw w
      (record {
        fulfils = rw e (unsaid m store answer strips BadState 1 refl (λ z. omega arith));
        holds = rw e refl;
        buffer_bytes = sym (set_out buffer n byte h);
      })

  -- A byte for which there is room, by what is asked of the box.
  abbrev whole : List ℕ
  whole = joined_by n buffer byte

  abbrev o : Outcome
  o = asked m in-hand whole

  same_number : (t : Bool) → o.number ≡ (pick t o (taken o)).number
  same_number true = refl
  same_number false = refl

  counts : {a : Answered} {m' store' answer' strips' : List ℕ} → Fulfils o m store answer strips a m' store' answer' strips'
      → Fulfils (taken_unless o) m store answer strips (pick (within 1 2 (given_in a.outcome).number) a (counted a)) m' store' answer' strips'
  counts {a} {m'} {store'} {answer'} {strips'} x =
      subst (λ (g : Given). Fulfils (taken_unless o) m store answer strips (pick (within 1 2 g.number) a (counted a)) m' store' answer' strips')
      (sym x.meets.gives) (go (within 1 2 o.number))
    where
      go : (t : Bool) → Fulfils (pick t o (taken o)) m store answer strips (pick t a (counted a)) m' store' answer' strips'
      go true = x
      go false = fulfils_counted refl x

  roomy : n < length buffer → {a : Answered} {r : Taken} {m' store' answer' strips' : List ℕ} → r ≡ behind n a
      → Fulfils o m store answer strips a m' store' answer' strips'
      → Serves m store (Held n) buffer byte answer strips r m' store' (set buffer n byte) answer' strips'
  unfolding served
  roomy h {a} e x =
      let f = lt-leb (length buffer) n h in
      rw e
      (record {
        fulfils = rw f (counts x);
        holds = rw f (ap (λ (g : Given). holding_behind (Held n) g.number) x.meets.gives ∙ ap (holding_behind (Held n)) (same_number (within 1 2 o.number)));
        buffer_bytes = refl;
      })

  -- The bytes in the buffer's front.
  abbrev front : List ℕ
  front = take (n + 1) (set buffer n byte)

  pub roomy_partial : n < length buffer → {a : Answered} {r : Taken} → received front ≡ Partial → a ≡ uncalled NotWhole 0 → r ≡ behind n a
      → Serves m store (Held n) buffer byte answer strips r m store (set buffer n byte) answer strips
  roomy_partial h e w q =
      let f : received whole ≡ Partial = ap received (sym (behind_front n buffer byte h)) ∙ e in
      roomy h (q ∙ ap (behind n) w)
      (fulfils_same (ap (λ (t : Bool). pick t (silent (printer_of m) 3) (outcome m (handed store whole answer strips))) (eq-eqb (number (received whole)) 3 (ap number f)))
      (waits m store answer strips))

  pub roomy_whole : n < length buffer → {a : Answered} {r : Taken} {m' store' answer' strips' : List ℕ} → (received front ≡ Partial → ⊥) → r ≡ behind n a
      → Receives m store front answer strips a m' store' answer' strips'
      → Serves m store (Held n) buffer byte answer strips r m' store' (set buffer n byte) answer' strips'
  roomy_whole h e q x =
      let f : number (received whole) ≡ 3 → ⊥ = λ z. e (ap received (behind_front n buffer byte h) ∙ three_partial whole z) in
      roomy h q
      (fulfils_same
      (ap (λ (t : Bool). pick t (silent (printer_of m) 3) (outcome m (handed store whole answer strips))) (ne_eqb (number (received whole)) 3 f)
      ∙ ap (λ (l : List ℕ). outcome m (handed store l answer strips)) (sym (behind_front n buffer byte h)))
      x.fulfils)

-- While all is dropped.
pub drops : (m store buffer answer strips : List ℕ) (byte : ℕ) {holding : Holding} {a : Answered} → holding ≡ Dropping → a ≡ uncalled NotWhole 1
    → Serves m store holding buffer byte answer strips (record { answered = a; holding = Dropping }) m store buffer answer strips
unfolding served
drops m store buffer answer strips byte e w =
    rw (e, w) (record { fulfils = fulfils_counted refl (waits m store answer strips); holds = refl; buffer_bytes = refl })

-- ---- A tick that is made behind others.
more : (n : ℕ) (m : List ℕ) → left (tick_clock (ticked n m)) (ticked n m) ≡ ticked (suc n) m
more zero m = refl
more (suc n) m = more n (left (tick_clock m) m)

pub one_more : (n : ℕ) (m : List ℕ) {s s' : List ℕ} → s ≡ ticked n m → s' ≡ left (tick_clock s) s → s' ≡ ticked (n + 1) m
one_more n m e f =
    let g : suc n ≡ n + 1 = omega arith in
    f ∙ ap (λ (s : List ℕ). left (tick_clock s) s) e ∙ more n m ∙ ap (λ (k : ℕ). ticked k m) g

-- ---- A digit that is one.
pub digit_most : (b n : ℕ) → digit b ≡ Some n → n ≤ 9
unfolding digit
digit_most b n e = grind (arith, within_true)
