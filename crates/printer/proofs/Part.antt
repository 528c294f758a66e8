-- A jet's part of a state's bytes: what it is while it is lent, and what the whole is when it is back.
use Prim.Native.Nat.{ℕ, ◌+◌, ◌-◌, ◌≤◌}
use mathlib.Core.Bool.{Bool, true, false}
use mathlib.Core.List.{List, ◌∷◌}
use mathlib.Core.Path.{◌≡◌, refl, sym, ◌∙◌, ap}
use native.Mathlib.Omega.{arith}
use Rattle.std.proofs.Common.{Option, None, Some, Result, Ok}
use Rattle.std.specs.Prelude.{ok_or}
use Rattle.frame.specs.declared.given.Refusal.{Refusal}
use Rattle.frame.specs.declared.given.Refusal.TheVariants.{NoSuchJet}
use borrow.Rule.Slice.PartMut.{mid_of, put_mid, put_same}
use lib.ListN.{length}
use Rattle.frame.specs.Ground.{Test, all, pick, test}
use Rattle.printer.specs.Jet.{Jet, jet_size, jet_of, jet_bytes}
use Rattle.printer.specs.State.{Printer, state_size, jet_at, with_jet, jet_place, printer_of, bytes_of, valid_state}
use Rattle.frame.specs.declared.given.Given.{Given}
use Rattle.printer.specs.Order.{Order, change, jet_number, on_printer, with_jet_in, Places, Obeys}
use Rattle.printer.specs.Change.{BecomesJet}
use Rattle.printer.proofs.Valid.{valid_printer, valid_at, jet_short, on_row}
use Rattle.printer.proofs.Numbers.{Bytes}
use Rattle.printer.proofs.Memory.{part_full, jet_lent, jet_put}

-- In a state's bytes the jet of a number begins here.
pub record Stands (m : List ℕ) (n at : ℕ) : Type 0 where
  pub full : length m ≡ state_size
  pub known : Bytes m
  pub place : at ≡ jet_place n
  pub least : 1 ≤ n
  pub most : n ≤ 4

module _ {m : List ℕ} {n at : ℕ} (s : Stands m n at) where
  pub part_inside : at + jet_size ≤ length m
  part_inside = omega (arith, s.full, s.place, s.least, s.most)

  pub part_size : length (mid_of at (at + jet_size - at) m) ≡ jet_size
  part_size = part_full m at s.full (omega (arith, s.place, s.least, s.most))

  pub part_jet : jet_of (mid_of at (at + jet_size - at) m) ≡ jet_at (printer_of m) n
  part_jet = jet_lent m n s.place s.least s.most

  -- In a valid state no message is longer than its room.
  pub part_short : valid_state m ≡ true → (jet_of (mid_of at (at + jet_size - at) m)).length ≤ 512
  part_short v = rw part_jet (jet_short _ _ (valid_at (printer_of m) n (valid_printer m v) s.least))

  -- It is back as it was, or as another jet.
  pub part_kept : {last : List ℕ} → last ≡ mid_of at (at + jet_size - at) m → put_mid at (at + jet_size - at) m last ≡ m
  part_kept e = ap (put_mid at (at + jet_size - at) m) e ∙ put_same at (at + jet_size - at) m

  pub part_written : (g : Jet → Jet) {last : List ℕ} → last ≡ jet_bytes (g (jet_of (mid_of at (at + jet_size - at) m)))
      → put_mid at (at + jet_size - at) m last ≡ bytes_of (with_jet (printer_of m) n (g (jet_at (printer_of m) n)))
  part_written g e =
      jet_put m n (g (jet_at (printer_of m) n)) s.full s.known s.place s.least s.most (e ∙ ap (λ (j : Jet). jet_bytes (g j)) part_jet)

-- ---- The jet that the first data byte names.
module _ {p : Printer} {d : List ℕ} {r : Option ℕ} (e : Places p d r) where
  pub named : {at : ℕ} → r ≡ Some at → (on_printer p d ≡ true) × (at ≡ jet_place (jet_number d))
  named {at} n = go (on_printer p d) (sym n ∙ e.place)
    where
      no_place : ◌≡◌ {A = Option ℕ} (Some at) None → ⊥
      no_place q = cc

      go : (b : Bool) → Some at ≡ pick b (Some (jet_place (jet_number d))) None → (b ≡ true) × (at ≡ jet_place (jet_number d))
      go true f = (refl, cc)
      go false f = absurd (no_place f)

-- The code goes on where there is one.
some_place : {r : Option ℕ} {at : ℕ} → ok_or r NoSuchJet ≡ Ok at → r ≡ Some at
some_place {r} {at} e = go r e
  where
    go : (r : Option ℕ) → ok_or r NoSuchJet ≡ Ok at → r ≡ Some at
    go None e = cc
    go (Some i) e = cc

pub on_there : {p : Printer} {d : List ℕ} {r : Option ℕ} {x : Result ℕ Refusal} {at : ℕ} → Places p d r → x ≡ ok_or r NoSuchJet → x ≡ Ok at → on_printer p d ≡ true
on_there e o q = (named e (some_place (sym o ∙ q))).0

pub stands : {m d : List ℕ} {r : Option ℕ} {x : Result ℕ Refusal} {at : ℕ} → Places (printer_of m) d r → x ≡ ok_or r NoSuchJet → x ≡ Ok at
    → length m ≡ state_size → Bytes m → Stands m (jet_number d) at
stands {m} {d} e o q full known =
    let on = named e (some_place (sym o ∙ q)) in
    let row = on_row (printer_of m).model (jet_number d) on.0 in
    record { full = full; known = known; place = on.1; least = row.0; most = row.1 }

-- What becomes of that jet's part is what an order on it makes of the state, once the jet is on the printer.
module _ (m d : List ℕ) {at : ℕ} {r : Given} {ts : List Test} {j : Jet} {last : List ℕ} (s : Stands m (jet_number d) at) (on : on_printer (printer_of m) d ≡ true)
    (e : BecomesJet ts j (mid_of at (at + jet_size - at) m) r last) where
  abbrev part-order : Order
  part-order = change (test (on_printer (printer_of m) d) 8 ∷ ts) (with_jet_in (printer_of m) d j)

  pub part_obeys : Obeys part-order m r (put_mid at (at + jet_size - at) m last)
  part_obeys = go (all ts) refl
    where
      go : (t : Bool) → all ts ≡ t → Obeys part-order m r (put_mid at (at + jet_size - at) m last)
      go true t = record { gives = rw on e.gives; state = rw (on, t) (part_written s (λ _. j) (e.jet ∙ rw t)) }
      go false t = record { gives = rw on e.gives; state = rw (on, t) (part_kept s (e.jet ∙ rw t)) }
