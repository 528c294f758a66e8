-- The two jets of head 1, written one after the other: the first leaves the second as it was, and both stand in the state behind them.
use Prim.Native.Nat.{ℕ, ◌+◌, ◌-◌, ◌≤◌}
use mathlib.Core.Bool.{true}
use mathlib.Core.List.{List, ◌++◌, map}
use mathlib.Core.Path.{◌≡◌, sym, ◌∙◌, ap, ap₂}
use native.Mathlib.Omega.{arith}
use borrow.Rule.Slice.PartMut.{mid_of, put_mid, same_len_mid, drop_put}
use lib.ListN.{length, take, drop}
use lib.Seq.{take_at, drop_at}
use Rattle.frame.specs.Ground.{joined}
use Rattle.printer.specs.Jet.{Jet, jet_size, jet_of, jet_bytes}
use Rattle.printer.specs.State.{jet_at, jet_place, jets_place, with_jet, front_bytes, jets_of, printer_of, bytes_of, valid_state}
use Rattle.printer.proofs.Numbers.{Bytes}
use Rattle.printer.proofs.Jets.{jet_back}
use Rattle.printer.proofs.Memory.{part_bytes}
use Rattle.printer.proofs.Part.{Stands, part_inside, part_size, part_jet, part_short, part_written}

-- Bytes in the place of others behind a front.
put_behind : (a k : ℕ) (front old new rest : List ℕ) → length front ≡ a → length old ≡ k → put_mid a k (front ++ (old ++ rest)) new ≡ front ++ (new ++ rest)
put_behind a k front old new rest e f =
    ap₂ (λ (x y : List ℕ). x ++ (new ++ drop k y)) (take_at front (old ++ rest) a e) (drop_at front (old ++ rest) a e)
    ∙ ap (λ (x : List ℕ). front ++ (new ++ x)) (drop_at old rest k f)

module _ {m : List ℕ} {a b : ℕ} (s : Stands m 1 a) (t : Stands m 2 b) where
  second_size : length (jet_bytes (jet_at (printer_of m) 2)) ≡ jet_size
  second_size =
      ap (λ (j : Jet). length (jet_bytes j)) (sym (part_jet t))
      ∙ ap length (jet_back (mid_of b (b + jet_size - b) m) (part_size t) (part_bytes b (b + jet_size - b) m t.known))
      ∙ part_size t

  second_put : (j k : Jet) → length (jet_bytes j) ≡ jet_size
      → put_mid (jet_place 2) jet_size (bytes_of (with_jet (printer_of m) 1 j)) (jet_bytes k) ≡ bytes_of (with_jet (with_jet (printer_of m) 1 j) 2 k)
  unfolding printer_of bytes_of
  second_put j k size =
      let p = printer_of m in
      let rest = joined (map jet_bytes (jets_of 2 (drop jet_size (drop jet_size (drop jets_place m))))) in
      put_behind (jet_place 2) jet_size (front_bytes p ++ jet_bytes j) (jet_bytes (jet_at p 2)) (jet_bytes k) rest (omega arith) second_size

  -- The first part is back, with as many bytes as it had.
  module _ (last : List ℕ) (kept : length last ≡ length (mid_of a (a + jet_size - a) m)) where
    pub second_stands : Bytes (put_mid a (a + jet_size - a) m last) → Stands (put_mid a (a + jet_size - a) m last) 2 b
    second_stands known =
        record { full = same_len_mid a (a + jet_size - a) m last kept ∙ s.full; known = known; place = t.place; least = t.least; most = t.most }

    pub second_still : jet_of (mid_of b (b + jet_size - b) (put_mid a (a + jet_size - a) m last)) ≡ jet_at (printer_of m) 2
    second_still =
        let same : drop b (put_mid a (a + jet_size - a) m last) ≡ drop b m =
        rw (t.place, s.place) (drop_put (jet_place 1) (jet_place 2) m last (omega arith) (omega (arith, part_inside t)) (kept ∙ part_size s))
        in
        ap (λ (l : List ℕ). jet_of (take (b + jet_size - b) l)) same ∙ part_jet t

    pub second_short : valid_state m ≡ true → (jet_of (mid_of b (b + jet_size - b) (put_mid a (a + jet_size - a) m last))).length ≤ 512
    second_short v = rw (second_still ∙ sym (part_jet t)) (part_short t v)

    pub both_written : (g h : Jet → Jet) {last' : List ℕ} → last ≡ jet_bytes (g (jet_of (mid_of a (a + jet_size - a) m)))
        → last' ≡ jet_bytes (h (jet_of (mid_of b (b + jet_size - b) (put_mid a (a + jet_size - a) m last))))
        → put_mid b (b + jet_size - b) (put_mid a (a + jet_size - a) m last) last'
        ≡ bytes_of (with_jet (with_jet (printer_of m) 1 (g (jet_at (printer_of m) 1))) 2 (h (jet_at (printer_of m) 2)))
    both_written g h e f =
        let first : last ≡ jet_bytes (g (jet_at (printer_of m) 1)) = e ∙ ap (λ (j : Jet). jet_bytes (g j)) (part_jet s) in
        rw (f, second_still, part_written s g e, t.place) (second_put (g (jet_at (printer_of m) 1)) (h (jet_at (printer_of m) 2)) (sym (ap length first) ∙ kept ∙ part_size s))
