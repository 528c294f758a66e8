-- What 94h prints, and how every jet then counts.
use Rattle.std.specs.Prelude.{ℕ, ◌*◌, ◌≤◌, Bool, true, List, [], ◌∷◌, ◌≡◌, length}
use Rattle.frame.specs.Ground.{unless, both, each, test, over}
use Rattle.content.specs.Content.{longest_message}
use Rattle.content.specs.Strip.{strip}
use Rattle.content.specs.declared.strip.Values.{Values}
use Rattle.calendar.specs.Clock.{entries}
use Rattle.calendar.specs.DateChange.{printed}
use Rattle.printer.specs.Number.{digits}
use Rattle.printer.specs.Jet.{Jet, has_message, message, has_parameters, counted_jet}
use Rattle.printer.specs.State.{Printer, every_jet, with_jets}
use Rattle.printer.specs.Order.{Order, unchanged}

-- 01, Numbers: 94h gets 11 with "either missing on any jet".
abbrev pub ready_jet : Bool → Jet → Bool
ready_jet present j = unless present true (both (has_message j) (has_parameters j))

unfoldable pub ready : Printer → Bool
ready p = every_jet ready_jet p

-- What the items of a jet's message stand for, with the entries of the moment: the counter is the "value before this print".
abbrev pub values : List ℕ → Jet → Values
values entries j = record { digits = digits j.counter.value; entries = entries }

abbrev pub strip_of : List ℕ → Jet → List ℕ
strip_of entries j = strip (values entries j) (message j)

-- What the codes of date items stand for now. 02, Wish 5: "the day and month in date items are those of the preceding calendar day", before
-- the date change.
abbrev pub entries_now : Printer → List ℕ
entries_now p = entries (printed p.date_change p.clock)

-- 01, What an accepted frame does: "94h writes the strips of all jets, ascending, one behind the other from the start of the strip
-- buffer, then counts." A jet that the printer lacks has no message, and so no strip.
abbrev pub strips : Printer → List (List ℕ)
strips p = each (λ (n : ℕ) (j : Jet). strip_of (entries_now p) j) 1 p.jets

abbrev pub counted_jets : Printer → Printer
counted_jets p = with_jets p (each (λ (n : ℕ) (j : Jet). counted_jet j) 1 p.jets)

unfoldable pub print : Printer → Order
print p = record { tests = test (ready p) 11 ∷ []; after = counted_jets p; store = unchanged; frame = []; strips = strips p }

-- What is written of a jet: its strip, three times as long as a message of 512 bytes at the most.
pub record PrintsJet (entries : List ℕ) (j : Jet) (before : List ℕ) (r : ℕ) (after : List ℕ) : Type 0 where
  pub count : r ≡ length (strip_of entries j)
  pub short : r ≤ 3 * longest_message
  pub bytes : after ≡ over (strip_of entries j) before
