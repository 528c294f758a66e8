-- `library::store::keep` meets its contract. The bytes that the other records take, and the new one's, are what the rule counts; and the
-- others closed up, the new one behind them and zeros behind that are what the rule writes.
use Prim.Native.Nat.{ℕ, ◌+◌, ◌-◌, ◌≤◌, ◌<◌}
use mathlib.Core.List.{List, [], ◌∷◌, ◌++◌, append_assoc, append-nil}
use mathlib.Core.Path.{◌≡◌, sym, ◌∙◌, ap, ap₂}
use native.Mathlib.Omega.{arith}
use borrow.Author.Tests.{eq-eqb, ne_eqb, le-leb, lt-leb}
use lib.ListN.{length, take, replicate}
use Rattle.frame.specs.Ground.{plain}
use Rattle.library.specs.Record.{head_size, record_bytes, records, written}
use Rattle.library.specs.Store.{Closes, Keeps, PutsLast, has_room, kept, store_size, stored, without}
use Rattle.library.proofs.Stores.{kept_length, new, written_append}
use Rattle.library.proofs.store.keep.Goals as goal

other_size : (s : List ℕ) (n : ℕ) (body : List ℕ) → (length s ≡ store_size → ⊥) → Keeps s n body (plain 1) s
other_size s n body e = let q = ne_eqb (length s) store_size e in record { gives = sym (rw q); store = sym (rw q) }

module _ (s : List ℕ) (n : ℕ) (body : List ℕ) (at : ℕ) (full : length s ≡ store_size) (counted : at ≡ length (written (without n (records s)))) where
  size : length (written (kept n body (records s))) ≡ at + (head_size + length body)
  size = kept_length n body (records s) ∙ ap (λ (k : ℕ). k + (head_size + length body)) (sym counted)

  no_room : store_size < at + (head_size + length body) → Keeps s n body (plain 16) s
  unfolding has_room
  no_room h =
      let sized = eq-eqb (length s) store_size full in
      let large = lt-leb (length (written (kept n body (records s)))) store_size (omega (arith, size)) in
      record { gives = sym (rw (sized, large)); store = sym (rw (sized, large)) }

  -- The other records lie before the new one, and zeros behind it.
  laid : (s' s'' : List ℕ) → Closes s n s' → PutsLast s' at n body s'' → s'' ≡ stored n body s
  unfolding stored
  laid s' s'' c p =
      let w : List ℕ = written (without n (records s)) in
      let r : List ℕ = record_bytes (new n body) in
      let zeros : List ℕ = replicate (store_size - length (written (kept n body (records s)))) 0 in
      p.bytes
      ∙ ap₂ (λ (l : List ℕ) (k : ℕ). l ++ (r ++ replicate (store_size - k) 0)) (ap (λ (k : ℕ). take k s') counted ∙ c.others) (sym size)
      ∙ sym (append_assoc w r zeros)
      ∙ ap (λ (l : List ℕ). l ++ zeros)
      (ap (λ (l : List ℕ). w ++ l) (sym (append-nil r)) ∙ sym (written_append (without n (records s)) (new n body ∷ [])))

  keeps : (s' s'' : List ℕ) → at + (head_size + length body) ≤ store_size → Closes s n s' → PutsLast s' at n body s'' → Keeps s n body (plain 0) s''
  unfolding has_room
  keeps s' s'' h c p =
      let sized = eq-eqb (length s) store_size full in
      let small = le-leb (length (written (kept n body (records s)))) store_size (omega (arith, size)) in
      record { gives = sym (rw (sized, small)); store = laid s' s'' c p ∙ sym (rw (sized, small)) }

pub returns-then-store-ne-STORE : goal.returns-then-store-ne-STORE
returns-then-store-ne-STORE c = let a = c.args in other_size a.store.now a.n a.body.now c.if-store-ne-STORE.true

pub returns-then-at-body-gt-STORE : goal.returns-then-at-body-gt-STORE
returns-then-at-body-gt-STORE c =
    let a = c.args in
    let others = c.others-at in
    no_room a.store.now a.n a.body.now others.result c.if-store-ne-STORE.false others.ensures.0 (omega arith)

pub returns : goal.returns
returns c =
    let a = c.args in
    let last = c.put_last in
    keeps a.store.now a.n a.body.now c.others-at.result c.if-store-ne-STORE.false c.others-at.ensures.0
    c.close.new.store last.new.store (omega arith) c.close.ensures last.ensures
