-- Why prints are as they should be: what stands for an item prints, the strips of a valid state are the strips of contents, and counting
-- keeps a counter in its range and touches nothing else.
use Prim.Native.Nat.{ℕ, ◌+◌, ◌-◌, ◌≤◌}
use mathlib.Core.Bool.{Bool, true, false}
use mathlib.Core.List.{List, []}
use mathlib.Core.Path.{◌≡◌, refl, ◌∙◌}
use native.Mathlib.Omega.{arith}
use Rattle.std.proofs.Common.{Ok, Err}
use borrow.Author.Tests.{leb-true, ltb-false}
use lib.Dec.{leb}
use lib.ListN.{length}
use Rattle.frame.proofs.Ground.{never, both_true, pick_case, every_at}
use Rattle.content.specs.StripLaws.{Printable}
use Rattle.content.specs.Content.{Verdict, good, verdict, is_good, is_content}
use Rattle.content.specs.Strip.{strip}
use Rattle.content.proofs.StripLaws.{strip_resolves, strip_ends, strip_is_content, strip_same_shape, strip_length}
use Rattle.calendar.specs.Clock.{entries}
use Rattle.printer.specs.Counter.{Counter, is_set, moved, counted}
use Rattle.printer.specs.Jet.{Jet, has_jet, has_message, message, has_parameters, valid_message, valid_jet, counted_jet}
use Rattle.printer.specs.State.{Printer, empty_jet, jet_at}
use Rattle.printer.specs.Print.{ready_jet, ready, entries_now, values, strip_of, strips, counted_jets}
use Rattle.printer.specs.PrintLaws.{ValuesPrintable, strip_at, StripMeaning, NoStrip, StripsFit, CountedValid, SameButCount, CountedKeeps}
use Rattle.calendar.specs.declared.clock.Clock.{Clock}
use Rattle.printer.proofs.Valid.{valid_model, valid_clock, valid_time, valid_row, valid_at, absent_empty, jet_content, on_row}
use Rattle.printer.proofs.Rows.{every_each, joined_short, each_beside}
use Rattle.calendar.proofs.ClockLaws.{entries_print}
use Rattle.printer.proofs.CounterLaws.{digits_print, count_stays}
use Rattle.printer.proofs.StateLaws.{parts_valid, present_tells, tells_present}

-- ---- What items stand for.
pub values_printable : ValuesPrintable
values_printable c j =
    record { digits = (digits_print j.counter.value).0; nine = (digits_print j.counter.value).1; entries = entries_print c }

-- ---- Counting.
-- What is counted keeps its settings, and is set where it was.
pub counted_settings : (c : Counter) → (counted c).settings ≡ c.settings
unfolding counted
counted_settings c = pick_case (λ (x : Counter). x.settings ≡ c.settings) (is_set c) (moved c) c (λ _. refl) (λ _. refl)

pub counted_set : (c : Counter) → (counted c).set ≡ c.set
unfolding counted
counted_set c = pick_case (λ (x : Counter). x.set ≡ c.set) (is_set c) (moved c) c (λ _. refl) (λ _. refl)

message_counted : (j : Jet) → valid_message (counted_jet j) ≡ valid_message j
unfolding valid_message
message_counted j = refl

absent_counted : (j : Jet) → valid_jet false j ≡ true → valid_jet false (counted_jet j) ≡ true
unfolding valid_jet
absent_counted j v = rw (counted_set j.counter) v

jet_stays : (present : Bool) (j : Jet) → valid_jet present j ≡ true → valid_jet present (counted_jet j) ≡ true
jet_stays true j v =
    let w = present_tells j v in
    tells_present (counted_jet j) (record { message_valid = rw message_counted w.message_valid; counter_valid = (count_stays j.counter w.counter_valid).0 })
jet_stays false j v = absent_counted j v

pub counted_valid : CountedValid
counted_valid p e =
    parts_valid (counted_jets p) (valid_model p e) (valid_clock p e) (valid_time p e)
    (every_each (λ (n : ℕ) (j : Jet). valid_jet (has_jet p.model n) j) (λ (n : ℕ) (j : Jet). counted_jet j)
    (λ n j w. jet_stays (has_jet p.model n) j w) 1 p.jets (valid_row p e))

pub counted_keeps : CountedKeeps
counted_keeps p =
    record {
      model = refl;
      clock = refl;
      date_change = refl;
      jets = λ n.
          each_beside (λ (k : ℕ) (j : Jet). counted_jet j) SameButCount empty_jet empty_jet
          (record { length = refl; content = refl; general = refl; settings = refl; set = refl })
          (λ k j. record { length = refl; content = refl; general = refl; settings = counted_settings j.counter; set = counted_set j.counter })
          1 (n - 1) p.jets;
    }

-- ---- The strip of each jet.
read_good : (t : Verdict) → is_good t ≡ true → t ≡ good
read_good (Ok u) e = refl
read_good (Err i) e = never e

pub content_good : (s : List ℕ) → is_content s ≡ true → (length s ≤ 512) × (verdict s ≡ good)
unfolding is_content
content_good s e =
    let h = both_true (leb (length s) 512) (is_good (verdict s)) e in
    (leb-true (length s) 512 h.0, read_good (verdict s) h.1)

-- A jet without a message holds no byte of one, and has no strip.
pub none_empty : (j : Jet) → has_message j ≡ false → message j ≡ []
none_empty j e = let z = ltb-false 0 j.length e in let q : j.length ≡ 0 = omega arith in rw q

none_strip : (entries : List ℕ) (j : Jet) → has_message j ≡ false → strip_of entries j ≡ []
unfolding strip
none_strip entries j e = rw (none_empty j e)

empty_strip : (entries : List ℕ) → [] ≡ strip_of entries empty_jet
unfolding strip empty_jet
empty_strip entries = refl

-- Among the strips of all jets, that of a jet.
pub strip_there : (p : Printer) (n : ℕ) → strip_at (strips p) n ≡ strip_of (entries_now p) (jet_at p n)
strip_there p n =
    each_beside (λ (k : ℕ) (j : Jet). strip_of (entries_now p) j) (λ (j : Jet) (s : List ℕ). s ≡ strip_of (entries_now p) j) empty_jet []
    (empty_strip (entries_now p)) (λ k j. refl) 1 (n - 1) p.jets

-- 512 bytes at most give a strip of 1536 at most.
strip_short : (c : Clock) (present : Bool) (j : Jet) → valid_jet present j ≡ true → length (strip_of (entries c) j) ≤ 1536
strip_short c present j v = go (has_message j) refl
  where
    go : (t : Bool) → has_message j ≡ t → length (strip_of (entries c) j) ≤ 1536
    go true h =
        let g = content_good (message j) (jet_content present j v h) in
        omega (arith, strip_length (values (entries c) j) (message j) (values_printable c j) g.1, g.0)
    go false h = rw (none_strip (entries c) j h) (omega arith)

pub strips_fit : StripsFit
strips_fit p four e =
    omega (
      arith,
      joined_short (λ (n : ℕ) (j : Jet). valid_jet (has_jet p.model n) j) 1536 (λ (n : ℕ) (j : Jet). strip_of (entries_now p) j)
          (λ n j w. strip_short _ (has_jet p.model n) j w) 1 p.jets (valid_row p e),
    )

pub no_strip : NoStrip
no_strip p n e h lacks = strip_there p n ∙ none_strip (entries_now p) (jet_at p n) (absent_empty (jet_at p n) (rw lacks at (valid_at p n e h))).0

-- Of a state that is ready, a jet that the printer has.
pub ready_at : (p : Printer) (n : ℕ) → length p.jets ≡ 4 → ready p ≡ true → has_jet p.model n ≡ true
    → (has_message (jet_at p n) ≡ true) × (has_parameters (jet_at p n) ≡ true)
unfolding ready
ready_at p n four r h =
    let w = on_row p.model n h in
    let at : ready_jet (has_jet p.model (1 + (n - 1))) (jet_at p n) ≡ true =
    every_at (λ (k : ℕ) (j : Jet). ready_jet (has_jet p.model k) j) 1 p.jets (n - 1) empty_jet (omega arith) r in
    let e : 1 + (n - 1) ≡ n = omega arith in
    both_true (has_message (jet_at p n)) (has_parameters (jet_at p n)) (rw (e, h) at at)

pub strip_meaning : StripMeaning
strip_meaning p n four e r h =
    let j = jet_at p n in
    let good = (content_good (message j) (jet_content _ j (valid_at p n e (on_row p.model n h).0) (ready_at p n four r h).0)).1 in
    let v : Printable (values (entries_now p) j) = values_printable _ j in
    rw (strip_there p n)
    (record {
      replaced = strip_resolves (values (entries_now p) j) (message j) good;
      ends = strip_ends (values (entries_now p) j) (message j) good;
      content = strip_is_content (values (entries_now p) j) (message j) v good;
      same_shape = strip_same_shape (values (entries_now p) j) (message j) v good;
    })
