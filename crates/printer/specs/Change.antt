-- What the frames 0Ah, 0Bh, 0Ch, 42h and a field update change.
use Rattle.std.specs.Prelude.{ℕ, ◌+◌, List, [], ◌∷◌, ltb, get_or, take, drop, ◌≡◌}
use Rattle.frame.specs.Ground.{Test, all, given, pick, test}
use Rattle.frame.specs.declared.given.Given.{Given}
use Rattle.frame.specs.Wire.{word}
use Rattle.content.specs.Machine.{start}
use Rattle.content.specs.Content.{content_tests}
use Rattle.content.specs.Position.{field_positions}
use Rattle.content.specs.Edit.{edit_tests, replaced}
use Rattle.content.specs.Update.{laid, update_tests}
use Rattle.printer.specs.Jet.{Jet, head_jet, has_message, message, good_parameters, with_message, with_parameters, jet_of, jet_bytes}
use Rattle.printer.specs.State.{Printer, jet_at, with_jet}
use Rattle.printer.specs.Order.{Order, change, on_printer, jet_in, with_jet_in}
use Rattle.printer.specs.declared.change.Change.{Change}
use Rattle.printer.specs.declared.change.Change.TheVariants.{Message, Parameters, Both, Characters}

-- 01, On the wire: 0Ah "jet, content", 0Bh "jet, 37 parameter bytes", 0Ch "jet, 37 parameter bytes, content", 42h "jet, address (2),
-- symbols".
abbrev pub parameters_in : List ℕ → List ℕ
parameters_in d = take 37 (drop 1 d)

abbrev pub address_in : List ℕ → ℕ
address_in d = word (get_or d 1 0) (get_or d 2 0)

-- Which frame changes what: 0Ah the message, 0Bh the parameters, 0Ch both, 42h characters of the message. What each asks of its jet: 01,
-- Numbers: 9 "parameters not good", 10 "not a content", 11 "no content", 12 "an addressed byte is no character position", 13 "a new
-- symbol [..] is no character".
abbrev pub change_tests : Change → Jet → List ℕ → List Test
change_tests Message j d = content_tests (drop 1 d)
change_tests Parameters j d = test (good_parameters (parameters_in d)) 9 ∷ []
change_tests Both j d = test (good_parameters (parameters_in d)) 9 ∷ content_tests (drop 38 d)
change_tests Characters j d = test (has_message j) 11 ∷ edit_tests (message j) (address_in d) (drop 3 d)

-- 01, What an accepted frame does: "0Ah, 0Bh, 0Ch replace what they name on that jet", "42h replaces bytes from the address on".
abbrev pub with_both : Jet → List ℕ → List ℕ → Jet
with_both j q c = with_parameters (with_message j c) q

abbrev pub edited_jet : Jet → ℕ → List ℕ → Jet
edited_jet j address symbols = with_message j (replaced (message j) address symbols)

abbrev pub changed_jet : Change → Jet → List ℕ → Jet
changed_jet Message j d = with_message j (drop 1 d)
changed_jet Parameters j d = with_parameters j (parameters_in d)
changed_jet Both j d = with_both j (parameters_in d) (drop 38 d)
changed_jet Characters j d = edited_jet j (address_in d) (drop 3 d)

-- 01, Numbers: 8 "jet not on this printer" comes before what is asked of the jet.
abbrev pub change_order : Change → Printer → List ℕ → Order
change_order what p d =
    change
    (test (on_printer p d) 8 ∷ change_tests what (jet_in p d) d)
    (with_jet_in p d (changed_jet what (jet_in p d) d))

unfoldable pub set_message : Printer → List ℕ → Order
set_message p d = change_order Message p d

unfoldable pub set_parameters : Printer → List ℕ → Order
set_parameters p d = change_order Parameters p d

unfoldable pub set_both : Printer → List ℕ → Order
set_both p d = change_order Both p d

unfoldable pub edit_message : Printer → List ℕ → Order
edit_message p d = change_order Characters p d

-- How many data bytes each of them has at the least: the table's lengths.
abbrev pub least_data : Change → ℕ
least_data Message = 2
least_data Parameters = 38
least_data Both = 39
least_data Characters = 4

-- The jets of head 1, and how many field positions a jet has, and the head, both jets' together.
abbrev pub first_of_head : Printer → Jet
first_of_head p = jet_at p (head_jet 1 0)

abbrev pub second_of_head : Printer → Jet
second_of_head p = jet_at p (head_jet 1 1)

abbrev pub positions : Jet → ℕ
positions j = field_positions (message j)

abbrev pub head_positions : Printer → ℕ
head_positions p = positions (first_of_head p) + positions (second_of_head p)

-- 01, What an accepted frame does: "An update lays its characters over the character positions of external fields on head 1, jets
-- ascending": the first jet takes as many characters as it has positions, the second those behind them.
abbrev pub updated_jet : Jet → List ℕ → Jet
updated_jet j text = with_message j (laid text start (message j))

abbrev pub updated_head : Printer → List ℕ → Printer
updated_head p text =
    with_jet
    (with_jet p (head_jet 1 0) (updated_jet (first_of_head p) (take (positions (first_of_head p)) text)))
    (head_jet 1 1)
    (updated_jet (second_of_head p) (drop (positions (first_of_head p)) text))

-- 01, Numbers: 11 "no field position on head 1". 02, Wish 3: 18 where the characters are not "exactly as many as the field positions on
-- head 1"; 01, Numbers: 13 "an update byte is no character".
unfoldable pub update_fields : Printer → List ℕ → Order
update_fields p text =
    change (test (ltb 0 (head_positions p)) 11 ∷ update_tests (head_positions p) text) (updated_head p text)

-- A jet's bytes behind some tests: what they give, and the bytes of another jet where they all hold.
pub record BecomesJet (tests : List Test) (j : Jet) (b : List ℕ) (r : Given) (b' : List ℕ) : Type 0 where
  pub gives : r ≡ given tests
  pub jet : b' ≡ pick (all tests) (jet_bytes j) b

-- What a change makes of a jet's bytes.
abbrev pub ChangesJet : Change → List ℕ → List ℕ → Given → List ℕ → Type 0
ChangesJet what d b r b' = BecomesJet (change_tests what (jet_of b) d) (changed_jet what (jet_of b) d) b r b'
