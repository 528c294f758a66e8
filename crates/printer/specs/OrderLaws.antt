-- What is true of every order: it is refused at its first test that fails and then changes nothing, or done; a valid state stays valid,
-- and a well-formed store well formed.
use Rattle.std.specs.Prelude.{ℕ, ◌≤◌, Bool, true, false, List, [], ◌∷◌, ◌≡◌, leb, length}
use Rattle.frame.specs.Ground.{Test, both, all, given}
use Rattle.printer.specs.State.{Printer, valid}
use Rattle.printer.specs.Order.{Order, unchanged, store_after}
use Rattle.printer.specs.Change.{update_fields}
use Rattle.printer.specs.Messages.{valid_store}
use Rattle.printer.specs.Receive.{obeyed, done, refusal, order}

-- 01, Numbers: "Checked in this order; the first that applies is given, and none otherwise", whatever the order is.
abbrev pub ObeyedDone : Type 0
ObeyedDone = (p : Printer) (o : Order) (consumed : ℕ) → all o.tests ≡ true → obeyed p o consumed ≡ done o consumed

abbrev pub ObeyedRefused : Type 0
ObeyedRefused =
    (p : Printer) (o : Order) (consumed : ℕ) →
    all o.tests ≡ false →
    obeyed p o consumed ≡ refusal p (given o.tests) consumed

-- The numbers of an order's tests are those of document 01 that a frame or an update can get, 8 and later: so 0 is given exactly where
-- all tests hold.
abbrev pub numbered : List Test → Bool
numbered [] = true
numbered (t ∷ ts) = both (leb 8 t.otherwise.number) (numbered ts)

abbrev pub OrdersNumbered : Type 0
OrdersNumbered =
    (p : Printer) (store : List ℕ) (identifier : ℕ) (d : List ℕ) → numbered (order p store identifier d).tests ≡ true

abbrev pub GivenExactly : Type 0
GivenExactly =
    (tests : List Test) → numbered tests ≡ true →
    (all tests ≡ true → (given tests).number ≡ 0) × (all tests ≡ false → 8 ≤ (given tests).number)

-- What passes its tests leads from a valid state to a valid state, and keeps the type and the number of jets.
pub record Keeps (p : Printer) (o : Order) : Type 0 where
  pub stays_valid : valid p ≡ true → all o.tests ≡ true → valid o.after ≡ true
  pub model : o.after.model ≡ p.model
  pub as_many : length o.after.jets ≡ length p.jets

abbrev pub OrderKeeps : Type 0
OrderKeeps =
    (p : Printer) (store : List ℕ) (identifier : ℕ) (d : List ℕ) →
    length p.jets ≡ 4 →
    valid_store store ≡ true →
    Keeps p (order p store identifier d)

abbrev pub UpdateKeeps : Type 0
UpdateKeeps = (p : Printer) (text : List ℕ) → length p.jets ≡ 4 → Keeps p (update_fields p text)

-- 02, Wish 1: storing "leaves the store well formed", and nothing else touches it.
abbrev pub OrderStores : Type 0
OrderStores =
    (p : Printer) (store : List ℕ) (identifier : ℕ) (d : List ℕ) →
    valid_store store ≡ true →
    all (order p store identifier d).tests ≡ true →
    valid_store (store_after (order p store identifier d).store store) ≡ true

abbrev pub UpdateStores : Type 0
UpdateStores = (p : Printer) (text : List ℕ) → (update_fields p text).store ≡ unchanged
