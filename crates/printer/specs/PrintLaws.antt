-- What is true of printing: every strip is the message with its items replaced, all strips fit the buffer, and counting changes counters
-- alone.
use Rattle.std.specs.Prelude.{ℕ, ◌-◌, ◌≤◌, true, false, List, [], ◌∷◌, ◌++◌, ◌≡◌, length, get_or}
use Rattle.frame.specs.Ground.{joined}
use Rattle.content.specs.Content.{good, verdict}
use Rattle.content.specs.Grammar.{encode, resolved, shape}
use Rattle.content.specs.Tree.{tree_of}
use Rattle.content.specs.StripLaws.{Printable}
use Rattle.content.specs.declared.strip.Values.{Values}
use Rattle.printer.specs.Jet.{Jet, has_jet, message}
use Rattle.printer.specs.State.{Printer, jet_at, valid}
use Rattle.calendar.specs.Clock.{entries}
use Rattle.printer.specs.Print.{ready, entries_now, values, strips, counted_jets}
use Rattle.printer.specs.Receive.{strips_size}
use Rattle.calendar.specs.declared.clock.Clock.{Clock}

-- What the items of a message stand for is printable at every moment, and so every law of strips holds of what 94h prints.
abbrev pub ValuesPrintable : Type 0
ValuesPrintable = (c : Clock) (j : Jet) → Printable (values (entries c) j)

-- 01, What an accepted frame does: "A strip is the content with each counter replaced by its 9 digits (value before this print), each
-- field by its characters, each date item by its text. Tabulations stay. A strip is itself a content but for the 512".
pub record Means (v : Values) (s strip : List ℕ) : Type 0 where
  pub replaced : strip ≡ encode (resolved v (tree_of s))
  pub ends : (p : List ℕ) × (strip ≡ p ++ (0x0D ∷ []))
  pub content : verdict strip ≡ good
  pub same_shape : shape (tree_of strip) ≡ shape (tree_of s)

-- The strip of a jet, among those of all.
abbrev pub strip_at : List (List ℕ) → ℕ → List ℕ
strip_at s n = get_or s (n - 1) []

-- Of each jet on the printer: what its message stands for at the moment that is printed, whichever jet it is.
abbrev pub StripMeaning : Type 0
StripMeaning =
    (p : Printer) (n : ℕ) →
    length p.jets ≡ 4 →
    valid p ≡ true →
    ready p ≡ true →
    has_jet p.model n ≡ true →
    Means (values (entries_now p) (jet_at p n)) (message (jet_at p n)) (strip_at (strips p) n)

-- 01, On the wire: the length of a strip is "0 where none".
abbrev pub NoStrip : Type 0
NoStrip =
    (p : Printer) (n : ℕ) → valid p ≡ true → 1 ≤ n → has_jet p.model n ≡ false → strip_at (strips p) n ≡ []

-- All strips together fit the 6,144 bytes that number 2 asks for: each is at most three times its message, and a message at most 512.
abbrev pub StripsFit : Type 0
StripsFit = (p : Printer) → length p.jets ≡ 4 → valid p ≡ true → length (joined (strips p)) ≤ strips_size

-- Counting keeps a state valid: each counter from initial to final, each batch below lot.
abbrev pub CountedValid : Type 0
CountedValid = (p : Printer) → valid p ≡ true → valid (counted_jets p) ≡ true

-- Counting changes the value and the batch of counters, and nothing else.
pub record SameButCount (j k : Jet) : Type 0 where
  pub length : k.length ≡ j.length
  pub content : k.content ≡ j.content
  pub general : k.general ≡ j.general
  pub settings : k.counter.settings ≡ j.counter.settings
  pub set : k.counter.set ≡ j.counter.set

pub record CountsOnly (p q : Printer) : Type 0 where
  pub model : q.model ≡ p.model
  pub clock : q.clock ≡ p.clock
  pub date_change : q.date_change ≡ p.date_change
  pub jets : (n : ℕ) → SameButCount (jet_at p n) (jet_at q n)

abbrev pub CountedKeeps : Type 0
CountedKeeps = (p : Printer) → CountsOnly p (counted_jets p)
