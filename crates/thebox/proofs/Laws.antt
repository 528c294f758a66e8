-- What the program's proofs cite: what is written lies inside its buffer, and how a byte and a read move the box on.
use Prim.Native.Nat.{ℕ, ◌+◌, ◌≤◌, ◌<◌}
use mathlib.Core.Bool.{Bool, false≢true}
use mathlib.Core.List.{List, [], ◌∷◌, ◌++◌, map}
use mathlib.Core.Path.{◌≡◌, refl, sym, ◌∙◌, ap, ap₂, subst}
use native.Mathlib.Numerals.{add-one}
use native.Mathlib.Omega.{arith}
use borrow.Author.Tests.{eq-eqb}
use lib.ListN.{length, get_or, take, drop, length-append}
use lib.Seq.{take-suc}
use Rattle.std.specs.Prelude.{Result, Ok, Err, IsErr, sum, sum_by}
use Rattle.std.proofs.lemmas.List.Sums.{sum-map, sum_by-cons}
use Rattle.frame.specs.Ground.{joined, over}
use Rattle.frame.specs.Holding.{holding_behind}
use Rattle.frame.specs.declared.holding.Holding.{Holding}
use Rattle.printer.specs.Order.{store_after}
use Rattle.printer.specs.Receive.{Outcome, answer_size, strips_size, kept}
use Rattle.printer.specs.Bursts.{Stand}
use Rattle.printer.specs.declared.single.Taken.{Taken}
use Rattle.serving.specs.Hold.{Serves, served}
use Rattle.thebox.specs.Line.{stand, stand_of, standing, onward, fed, passed, Steps, Feeds, Takes}
use Rattle.thebox.specs.declared.line.Line.{Line}
use Rattle.thebox.specs.declared.say.Failure.{Failure}

-- ---- What is written lies inside its buffer.
front_inside : (xs before after : List ℕ) → after ≡ over xs before → length xs ≤ length after
front_inside xs before after e = omega (arith, ap length e, length-append xs (drop (length xs) before))

lengths_joined : (xs : List (List ℕ)) → sum_by length xs ≡ length (joined xs)
lengths_joined [] = refl
lengths_joined (x ∷ xs) = sum_by-cons length x xs ∙ ap (λ (n : ℕ). length x + n) (lengths_joined xs) ∙ sym (length-append x (joined xs))

sum_joined : (xs : List (List ℕ)) → sum (map length xs) ≡ length (joined xs)
sum_joined xs = sum-map length xs ∙ lengths_joined xs

pub same_stand : {m m' store store' buffer buffer' : List ℕ} {h h' : Holding} → m ≡ m' → store ≡ store' → h ≡ h' → buffer ≡ buffer'
    → stand m store h buffer ≡ stand m' store' h' buffer'
same_stand p q r t = rw (p, q, r, t)

module _ {m store : List ℕ} {h : Holding} {buffer : List ℕ} {byte : ℕ} {answer strips : List ℕ} {r : Taken} {m' store' buffer' answer' strips' : List ℕ}
    (q : Serves m store h buffer byte answer strips r m' store' buffer' answer' strips') where
  abbrev o : ℕ → ℕ → Outcome
  o x y =
      served m (record { byte = byte; holding = h; buffer = buffer; store = store; answer_room = x; strip_room = y })

  abbrev here : Outcome
  here = o (length answer) (length strips)

  pub answer_inside : r.answered.answer ≤ length answer'
  answer_inside =
      subst (λ (n : ℕ). n ≤ length answer') (sym q.fulfils.meets.answers)
      (front_inside here.answer answer answer' q.fulfils.meets.answer_bytes)

  pub strips_inside : sum r.answered.strips ≤ length strips'
  strips_inside =
      subst (λ (l : List ℕ). sum l ≤ length strips') (sym q.fulfils.meets.prints)
      (omega (arith, sum_joined here.strips, front_inside (joined here.strips) strips strips' q.fulfils.meets.strip_bytes))

  -- ---- A byte moves the box on.
  moved : length answer ≡ answer_size → length strips ≡ strips_size → stand m' store' r.holding buffer' ≡ onward (stand m store h buffer) byte
  moved a b =
      same_stand
      (q.fulfils.meets.leaves ∙ ap₂ (λ (x y : ℕ). kept (o x y) m) a b)
      (q.fulfils.stores ∙ ap₂ (λ (x y : ℕ). store_after (o x y).store store) a b)
      (q.holds ∙ ap₂ (λ (x y : ℕ). holding_behind h (o x y).number) a b)
      q.buffer_bytes

pub steps : (l : Line) {byte : ℕ} {answer strips : List ℕ} {r : Taken} {m' store' buffer' answer' strips' : List ℕ}
    → Serves l.state l.store l.holding l.buffer byte answer strips r m' store' buffer' answer' strips' → length answer ≡ answer_size → length strips ≡ strips_size
    → Steps l byte (record l { state = m'; store = store'; holding = r.holding; buffer = buffer' })
steps l q a b = record { comes = ap (standing l) (moved q a b) }

-- ---- Bytes, one by one.
fed_more : (w : Stand) (s : List ℕ) (byte : ℕ) → fed w (s ++ (byte ∷ [])) ≡ onward (fed w s) byte
fed_more w [] byte = refl
fed_more w (b ∷ s) byte = fed_more (onward w b) s byte

one_more : (w : Stand) (s : List ℕ) (i : ℕ) → i < length s → fed w (take (i + 1) s) ≡ onward (fed w (take i s)) (get_or s i 0)
one_more w s i k = ap (fed w) (ap (λ (n : ℕ). take n s) (add-one i) ∙ take-suc s i 0 k) ∙ fed_more w (take i s) (get_or s i 0)

-- The line with so many of the bytes behind the box.
abbrev pub behind : Line → List ℕ → ℕ → Line
behind l s i = standing l (fed (stand_of l) (take i s))

pub behind_more : (l : Line) {before after : Line} (s : List ℕ) (i : ℕ) → i < length s → before ≡ behind l s i → Steps before (get_or s i 0) after → after ≡ behind l s (i + 1)
behind_more l s i k e q =
    q.comes
    ∙ ap (λ (x : Line). standing x (onward (stand_of x) (get_or s i 0))) e
    ∙ ap (standing l) (sym (one_more (stand_of l) s i k))

-- A write that failed.
pub fails : (l : Line) {l' : Line} (s : List ℕ) (i : ℕ) (r : Result Unit Failure) → i < length s → l' ≡ behind l s (i + 1) → IsErr r → Feeds l s r l'
fails l s i (Ok u) k e h = absurd (false≢true h)
fails l s i (Err why) k e h = record { count = i + 1; some = omega arith; comes = e; all = λ z. absurd (false≢true z) }

-- Where nothing came.
pub takes_none : {l l' : Line} {at : ℕ} (s : List ℕ) → l' ≡ passed l at → length s ≡ 0 → Takes l at s (Ok l'.settings.tty) l'
takes_none {l} {l'} {at} s q e =
    record {
      written = Ok tt;
      feeds = record { count = 0; some = omega arith; comes = rw (eq-eqb (length s) 0 e) q; all = λ _. sym e };
      goes = rw (eq-eqb (length s) 0 e) (ap (λ (x : Line). let r : Result Bool Failure = Ok x.settings.tty in r) q);
    }
