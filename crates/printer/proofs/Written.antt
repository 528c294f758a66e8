-- What the bytes of a state say of it when they are read: the state itself, but that three bytes keep of a batch what they can say. A batch
-- goes beyond them only where settings are no bytes.
use Prim.Native.Nat.{ℕ, suc, ◌+◌, ◌-◌, ◌/◌, ◌%◌, ◌≤◌}
use mathlib.Core.Bool.{Bool, true, false}
use mathlib.Core.List.{List, [], ◌∷◌, map}
use mathlib.Core.Path.{◌≡◌, refl, sym, subst, ap, ap₂, ◌∙◌}
use native.Mathlib.Omega.{arith}
use borrow.Author.Tests.{leb-true, le-leb}
use lib.Dec.{leb}
use lib.ListN.{length, get_or}
use Rattle.frame.specs.Ground.{each}
use Rattle.frame.proofs.Ground.{both_true, length_each}
use Rattle.printer.specs.Number.{in_bytes}
use Rattle.printer.specs.Counter.{Counter, is_set, valid_counter, counter_bytes}
use Rattle.printer.specs.Jet.{Jet, has_jet, message, valid_message, valid_jet, jet_bytes}
use Rattle.printer.specs.State.{Printer, empty_jet, jet_at, with_jets, valid, valid_state, printer_of, bytes_of}
use Rattle.printer.specs.BytesLaws.{SizedJet, AllOf, Sized}
use Rattle.printer.proofs.Valid.{valid_model, valid_clock, valid_time, valid_row, valid_at, jet_short, jet_counter}
use Rattle.printer.proofs.BytesLaws.{printer_back, valid_bytes, sized_fresh, time_sized}
use Rattle.printer.proofs.Rows.{every_each, each_beside}
use Rattle.printer.proofs.Counters.{valid_tells, tells_valid, set_one}
use Rattle.printer.proofs.StateLaws.{parts_valid, present_tells, tells_present}
use Rattle.printer.proofs.Rooms.{Roomy, Rooms, empty_roomy}

-- ---- A state with its batches as three bytes say them.
abbrev trimmed_counter : Counter → Counter
trimmed_counter c = record { settings = c.settings; set = c.set; value = c.value; batch = c.batch % 16_777_216 }

abbrev trimmed_jet : Jet → Jet
trimmed_jet j = record { length = j.length; content = j.content; general = j.general; counter = trimmed_counter j.counter }

abbrev trimmed : Printer → Printer
trimmed p = with_jets p (each (λ (n : ℕ) (j : Jet). trimmed_jet j) 1 p.jets)

-- It has the same bytes.
three_bytes : (n : ℕ) → in_bytes 3 (n % 16_777_216) ≡ in_bytes 3 n
three_bytes n =
    let a : n % 16_777_216 / 256 / 256 % 256 ≡ n / 256 / 256 % 256 = omega arith in
    let b : n % 16_777_216 / 256 % 256 ≡ n / 256 % 256 = omega arith in
    let c : n % 16_777_216 % 256 ≡ n % 256 = omega arith in
    cc

jet_same : (j : Jet) → jet_bytes (trimmed_jet j) ≡ jet_bytes j
unfolding jet_bytes counter_bytes
jet_same j = rw (three_bytes j.counter.batch)

jets_same : (n : ℕ) (l : List Jet) → map jet_bytes (each (λ (n : ℕ) (j : Jet). trimmed_jet j) n l) ≡ map jet_bytes l
jets_same n [] = refl
jets_same n (j ∷ l) = ap₂ (λ (x : List ℕ) (xs : List (List ℕ)). x ∷ xs) (jet_same j) (jets_same (n + 1) l)

bytes_same : (p : Printer) → bytes_of (trimmed p) ≡ bytes_of p
unfolding bytes_of
bytes_same p = rw (jets_same 1 p.jets)

-- It is valid where the state is.
set_small : (c : Counter) → valid_counter c ≡ true → c.set ≤ 1
unfolding valid_counter
set_small c v = leb-true c.set 1 (both_true (leb c.set 1) _ v).0

unset_valid : (c : Counter) → c.set ≤ 1 → is_set c ≡ false → valid_counter c ≡ true
unfolding valid_counter
unset_valid c h s = rw (le-leb c.set 1 h, s) refl

counter_stays : (c : Counter) → valid_counter c ≡ true → valid_counter (trimmed_counter c) ≡ true
counter_stays c v = go (is_set c) refl
  where
    go : (t : Bool) → is_set c ≡ t → valid_counter (trimmed_counter c) ≡ true
    go true s =
        let k = valid_tells c v s in
        tells_valid (trimmed_counter c) (set_one c s)
        (record { good = k.good; least = k.least; most = k.most; below = omega (arith, k.below) })
    go false s = unset_valid (trimmed_counter c) (set_small c v) s

message_same : (j : Jet) → valid_message (trimmed_jet j) ≡ valid_message j
unfolding valid_message
message_same j = refl

absent_same : (j : Jet) → valid_jet false (trimmed_jet j) ≡ valid_jet false j
unfolding valid_jet
absent_same j = refl

jet_stays : (present : Bool) (j : Jet) → valid_jet present j ≡ true → valid_jet present (trimmed_jet j) ≡ true
jet_stays true j v =
    let w = present_tells j v in
    tells_present (trimmed_jet j)
    (record { message_valid = message_same j ∙ w.message_valid; counter_valid = counter_stays j.counter w.counter_valid })
jet_stays false j v = absent_same j ∙ v

trimmed_valid : (p : Printer) → valid p ≡ true → valid (trimmed p) ≡ true
trimmed_valid p e =
    parts_valid (trimmed p) (valid_model p e) (valid_clock p e) (valid_time p e)
    (every_each (λ (n : ℕ) (j : Jet). valid_jet (has_jet p.model n) j) (λ (n : ℕ) (j : Jet). trimmed_jet j)
    (λ n j w. jet_stays (has_jet p.model n) j w) 1 p.jets (valid_row p e))

-- Its bytes have room for it.
jet_sized : (j : Jet) → Roomy j → j.length ≤ 512 → j.counter.set ≤ 1 → SizedJet (trimmed_jet j)
jet_sized j r h s =
    record {
      message = omega arith;
      content = r.content;
      general = r.general;
      counter = record { settings = r.settings; set = omega arith; value = r.value; batch = omega arith };
    }

empty_sized : SizedJet empty_jet
unfolding empty_jet
empty_sized = jet_sized empty_jet empty_roomy (omega arith) (omega arith)

all_of : {A : Type 0} (P : A → Type 0) (d : A) (l : List A) → ((i : ℕ) → P (get_or l i d)) → AllOf P l
all_of P d [] h = tt
all_of P d (x ∷ l) h = (h 0, all_of P d l (λ i. h (suc i)))

module _ (p : Printer) (v : valid p ≡ true) (r : Rooms p) where
  sized_at : (n : ℕ) → 1 ≤ n → SizedJet (jet_at (trimmed p) n)
  sized_at n h =
      let w = valid_at p n v h in
      each_beside (λ (n : ℕ) (j : Jet). trimmed_jet j) (λ (i j : Jet). Roomy i → i.length ≤ 512 → i.counter.set ≤ 1 → SizedJet j) empty_jet empty_jet
      (λ _ _ _. empty_sized) (λ n j. jet_sized j) 1 (n - 1) p.jets
      (r n h) (jet_short _ (jet_at p n) w) (set_small (jet_at p n).counter (jet_counter _ (jet_at p n) w))

  trimmed_sized : length p.jets ≡ 4 → Sized (trimmed p)
  trimmed_sized four =
      let z = sized_fresh p.model p.clock (valid_model p v) (valid_clock p v) in
      record {
        model = z.model;
        clock = z.clock;
        date_change = time_sized p.date_change (valid_time p v);
        four = length_each (λ (n : ℕ) (j : Jet). trimmed_jet j) 1 p.jets ∙ four;
        jets = all_of SizedJet empty_jet (trimmed p).jets (λ i. subst (λ (k : ℕ). SizedJet (get_or (trimmed p).jets k empty_jet)) (back i) (sized_at (suc i) (omega arith)));
      }
    where
      back : (i : ℕ) → suc i - 1 ≡ i
      back i = omega arith

  trimmed_rooms : Rooms (trimmed p)
  trimmed_rooms n h =
      each_beside (λ (n : ℕ) (j : Jet). trimmed_jet j) (λ (i j : Jet). Roomy i → Roomy j) empty_jet empty_jet (λ e. e)
      (λ n j e. record { content = e.content; general = e.general; settings = e.settings; value = e.value }) 1 (n - 1) p.jets (r n h)

trimmed_message : (p : Printer) (n : ℕ) → message (jet_at (trimmed p) n) ≡ message (jet_at p n)
trimmed_message p n =
    each_beside (λ (n : ℕ) (j : Jet). trimmed_jet j) (λ (i j : Jet). message j ≡ message i) empty_jet empty_jet refl (λ n j. refl) 1 (n - 1) p.jets

-- ---- What is read of the bytes of a valid state that has its rooms.
pub record Written (q : Printer) : Type 0 where
  pub sound : valid_state (bytes_of q) ≡ true
  pub rooms : Rooms (printer_of (bytes_of q))
  pub model : (printer_of (bytes_of q)).model ≡ q.model
  pub messages : (n : ℕ) → message (jet_at (printer_of (bytes_of q)) n) ≡ message (jet_at q n)

pub written : (q : Printer) → valid q ≡ true → length q.jets ≡ 4 → Rooms q → Written q
written q v four r =
    let z = trimmed_sized q v r four in
    let back : printer_of (bytes_of q) ≡ trimmed q = ap printer_of (sym (bytes_same q)) ∙ printer_back (trimmed q) z in
    record {
      sound = subst (λ (b : List ℕ). valid_state b ≡ true) (bytes_same q) (valid_bytes (trimmed q) z ∙ trimmed_valid q v);
      rooms = subst Rooms (sym back) (trimmed_rooms q v r);
      model = ap (λ (p : Printer). p.model) back;
      messages = λ n. ap (λ (p : Printer). message (jet_at p n)) back ∙ trimmed_message q n;
    }
