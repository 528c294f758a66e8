-- The messages in the lent store: when a store is well formed, what 1Ch stores and 40h selects, and what the approval screen is shown.
use Rattle.std.specs.Prelude.{ℕ, Bool, true, Result, Ok, Err, List, [], ◌∷◌, ◌≡◌, get_or, take, drop}
use denote.Ref.{Bor}
use Rattle.frame.specs.Ground.{Test, all, both, given, pick, test}
use Rattle.frame.specs.declared.given.Given.{Given}
use Rattle.frame.specs.declared.given.Refusal.{Refusal}
use Rattle.content.specs.Content.{content_test, is_content}
use Rattle.library.specs.Record.{Record, records}
use Rattle.library.specs.Store.{body_of, has_room, held, is_number, is_store}
use Rattle.printer.specs.Jet.{Jet, good_parameters}
use Rattle.printer.specs.State.{Printer}
use Rattle.printer.specs.Order.{Order, StoreChange, change, no_strips, on_printer, jet_in, with_jet_in, storing, store_after}
use Rattle.printer.specs.Change.{with_both}

-- 02, Wish 1: a message in the store is "37 parameter bytes, content".
abbrev pub body_parameters : List ℕ → List ℕ
body_parameters body = take 37 body

abbrev pub body_content : List ℕ → List ℕ
body_content body = drop 37 body

unfoldable pub good_body : List ℕ → Bool
good_body body = both (good_parameters (body_parameters body)) (is_content (body_content body))

abbrev pub good_bodies : List Record → Bool
good_bodies [] = true
good_bodies (r ∷ rs) = both (good_body r.body) (good_bodies rs)

-- 02, Wish 1: "A well-formed store [..] bodies good".
unfoldable pub valid_store : List ℕ → Bool
valid_store store = both (is_store store) (good_bodies (records store))

-- 02, Wish 1: 1Ch "stores a message: number 1 to 79, 37 parameter bytes, content". Refusals: "17 number not 1 to 79", and "16 no room,
-- after 10".
abbrev pub stored_number : List ℕ → ℕ
stored_number d = get_or d 0 0

abbrev pub stored_body : List ℕ → List ℕ
stored_body d = drop 1 d

abbrev pub store_tests : List ℕ → List ℕ → List Test
store_tests store d =
    test (is_number (stored_number d)) 17
    ∷ test (good_parameters (body_parameters (stored_body d))) 9
    ∷ content_test (body_content (stored_body d))
    ∷ test (has_room (stored_number d) (stored_body d) store) 16
    ∷ []

unfoldable pub store_message : Printer → List ℕ → List ℕ → Order
store_message p store d =
    record {
      tests = store_tests store d;
      after = p;
      store = storing (stored_number d) (stored_body d);
      frame = [];
      strips = no_strips;
    }

-- 02, Wish 1: "40h selects, two bytes: jet, number [..]; the jet then holds copies, its counter at initial, batch 0." Refusals: "17 number
-- not 1 to 79, or nothing there on select, after 8".
abbrev pub selected_number : List ℕ → ℕ
selected_number d = get_or d 1 0

abbrev pub selected_body : List ℕ → List ℕ → List ℕ
selected_body store d = body_of (selected_number d) (records store)

abbrev pub is_there : List ℕ → ℕ → Bool
is_there store n = both (is_number n) (held n (records store))

abbrev pub selected_jet : Jet → List ℕ → Jet
selected_jet j body = with_both j (body_parameters body) (body_content body)

unfoldable pub select_message : Printer → List ℕ → List ℕ → Order
select_message p store d =
    change
    (test (on_printer p d) 8 ∷ test (is_there store (selected_number d)) 17 ∷ [])
    (with_jet_in p d (selected_jet (jet_in p d) (selected_body store d)))

-- A store behind some tests: what they give, and its bytes with the change where they all hold.
pub record ChangesStore (tests : List Test) (change : StoreChange) (store : List ℕ) (r : Given) (store' : List ℕ) : Type 0 where
  pub gives : r ≡ given tests
  pub bytes : store' ≡ pick (all tests) (store_after change store) store

-- 02, Wish 1: "The approval screen asks for a record's content by number, lending the store and a jet's current content: it gets that part
-- of the store, or, for an empty number, the whole content lent; on a refusal (1, 17) no bytes."
abbrev pub show_tests : List ℕ → ℕ → List Test
show_tests store n = test (valid_store store) 1 ∷ test (is_number n) 17 ∷ []

abbrev pub shown : List ℕ → List ℕ → ℕ → List ℕ
shown store current n = pick (held n (records store)) (body_content (body_of n (records store))) current

pub record Shows (store current : List ℕ) (n : ℕ) (g : Given) (r : List ℕ) : Type 0 where
  pub gives : g ≡ given (show_tests store n)
  pub bytes : r ≡ pick (all (show_tests store n)) (shown store current n) []

-- The bytes that an answer hands back: none of a refusal.
abbrev pub bytes_shown : Result (Bor (List ℕ)) Refusal → List ℕ
bytes_shown (Ok part) = part.now
bytes_shown (Err why) = []
