-- What a frame or an update asks of the box: the tests that it must pass, and what it then does.
use Rattle.std.specs.Prelude.{ℕ, ◌+◌, ◌≤◌, Bool, Option, None, Some, IfSome, List, [], ◌≡◌, get_or, replicate}
use Rattle.frame.specs.Ground.{Test, all, given, pick}
use Rattle.frame.specs.declared.given.Given.{Given}
use Rattle.library.specs.Store.{stored}
use Rattle.printer.specs.Jet.{Jet, has_jet, jet_size}
use Rattle.printer.specs.State.{Printer, jet_at, with_jet, state_size, jet_place, bytes_of}

-- What is put into the store: nothing, or a message under its number. And the store's bytes behind that.
pub data StoreChange : Type 0 where
  unchanged : StoreChange
  storing : ℕ → List ℕ → StoreChange

abbrev pub store_after : StoreChange → List ℕ → List ℕ
store_after unchanged store = store
store_after (storing n body) store = stored n body store

-- The tests with their numbers, in the documents' order; and for what passes them all the state behind it, what is put into the store,
-- the frame answered behind the 06h and the strip of each jet.
pub record Order : Type 0 where
  pub tests : List Test
  pub after : Printer
  pub store : StoreChange
  pub frame : List ℕ
  pub strips : List (List ℕ)

abbrev pub no_strips : List (List ℕ)
no_strips = replicate 4 []

-- An order that changes the state, and one that asks for a frame.
abbrev pub change : List Test → Printer → Order
change tests after = record { tests = tests; after = after; store = unchanged; frame = []; strips = no_strips }

abbrev pub tell : List Test → Printer → List ℕ → Order
tell tests p frame = record { tests = tests; after = p; store = unchanged; frame = frame; strips = no_strips }

-- The first data byte is the jet number: whether that jet is on the printer, what it is, and the state with another in its place.
abbrev pub jet_number : List ℕ → ℕ
jet_number d = get_or d 0 0

abbrev pub on_printer : Printer → List ℕ → Bool
on_printer p d = has_jet p.model (jet_number d)

abbrev pub jet_in : Printer → List ℕ → Jet
jet_in p d = jet_at p (jet_number d)

abbrev pub with_jet_in : Printer → List ℕ → Jet → Printer
with_jet_in p d j = with_jet p (jet_number d) j

-- What is left of a state's bytes: 01, Numbers, "For 1 to 13 the state stays".
abbrev pub left : Order → List ℕ → List ℕ
left o m = pick (all o.tests) (bytes_of o.after) m

-- An order on the state alone: what it gives, and the bytes that it leaves. 01, Numbers: "the first that applies is given, and none
-- otherwise"; and 0 is "done".
pub record Obeys (o : Order) (m : List ℕ) (r : Given) (m' : List ℕ) : Type 0 where
  pub gives : r ≡ given o.tests
  pub state : m' ≡ left o m

-- Where the jet of the first data byte begins, if it is on the printer.
pub record Places (p : Printer) (d : List ℕ) (r : Option ℕ) : Type 0 where
  pub place : r ≡ pick (on_printer p d) (Some (jet_place (jet_number d))) None
  pub inside : IfSome r (λ i. i + jet_size ≤ state_size)
