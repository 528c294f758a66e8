-- The bytes of a state and the printer that they hold give each other back: part by part, from the numbers in a counter up to the row of four jets.
use Prim.{tt}
use Prim.Native.Nat.{ℕ, zero, suc, ◌+◌, ◌-◌, ◌*◌, ◌/◌, ◌%◌, ◌≤◌, ◌<◌}
use mathlib.Core.Bool.{true}
use mathlib.Core.List.{List, [], ◌∷◌, ◌++◌, map}
use mathlib.Core.Path.{◌≡◌, refl, sym, ◌∙◌, ap, ap₂, subst}
use native.Mathlib.Nat.{div-add-mod', div-lt_iff_lt-mul}
use native.Mathlib.Omega.{arith}
use borrow.Author.Tests.{leb-true, ltb-true, eq-eqb}
use lib.Dec.{eqb, leb, ltb}
use lib.ListN.{length, get_or, set, take, drop, length-append, length-take, length-drop, length-set}
use lib.Seq.{take-nil, get_or-take, get_or-drop, drop-drop, take_at, drop_at, get_or_at, take_all}
use Rattle.frame.specs.Ground.{pick, every, each, joined}
use Rattle.frame.proofs.Ground.{pick_case, both_true, within_true, length_over, length_each}
use Rattle.calendar.specs.Clock.{is_real, is_leap, days_in}
use Rattle.calendar.specs.DateChange.{is_time}
use Rattle.printer.specs.Number.{is_digit, all_digits, value_from, number_from, number_of, in_bytes}
use Rattle.printer.specs.Counter.{Counter, control, all_digits_in, initial, final, step, lot, good_settings, grown, next_value, next_batch, is_set, moved, counted, valid_counter, counter_size, counter_of, counter_bytes}
use Rattle.printer.specs.Jet.{Jet, has_jet, good_parameters, valid_jet, counted_jet, general_place, counter_place, jet_size, jet_of, jet_bytes}
use Rattle.printer.specs.State.{state_size, jets_place, empty_jet, with_jets, jets_of, printer_of, bytes_of, valid_state}
use Rattle.printer.specs.BytesLaws.{AllBytes, SizedCounter, SizedJet, SizedJets, SizedMoment, SizedTime, AllOf, StateBack, SameBytes, PrinterBack, BytesFull, ValidBytes, SizedOf, SizedFresh, SizedWithJet, SizedClock, SizedDateChange, SizedEach, SizedMessage, SizedParameters, SizedPrint}
use Rattle.calendar.specs.declared.clock.Clock.{Clock}
use Rattle.calendar.specs.declared.date_change.TimeOfDay.{TimeOfDay}
use Rattle.printer.proofs.Valid.{valid_size, valid_printer, valid_row, jet_counter}
use Rattle.printer.proofs.Numbers.{Bytes, bytes_drop}
use Rattle.printer.proofs.Memory.{part_bytes, next_place}
use Rattle.printer.proofs.Memory as memory
use Rattle.calendar.proofs.Moments.{real_tells}
use Rattle.calendar.proofs.DateChangeLaws.{time_tells}

fitting : (m : List ℕ) → AllBytes m → Bytes m
fitting m f i = record { fits = f i }

pub state_back : StateBack
state_back m full f = memory.state_back m full (fitting m f)

pub same_bytes : SameBytes
same_bytes m m' full f full' f' e = sym (state_back m full f) ∙ ap bytes_of e ∙ state_back m' full' f'

-- ---- Numbers: so many bytes have room for so many numbers.
abbrev room : ℕ → ℕ
room zero = 1
room (suc k) = room k * 256

number_snoc : (s : List ℕ) (n b : ℕ) → number_from n (s ++ (b ∷ [])) ≡ number_from n s * 256 + b
number_snoc [] n b = refl
number_snoc (x ∷ s) n b = number_snoc s (n * 256 + x) b

number_back : (k n : ℕ) → n < room k → number_of (in_bytes k n) ≡ n
number_back zero n h = omega arith
number_back (suc k) n h =
    number_snoc (in_bytes k (n / 256)) 0 (n % 256)
    ∙ ap (λ (a : ℕ). a * 256 + n % 256) (number_back k (n / 256) ((div-lt_iff_lt-mul (omega arith)).1 h))
    ∙ div-add-mod' n 256

abbrev room_from : ℕ → ℕ → ℕ
room_from most zero = most
room_from most (suc k) = room_from (most * 256) k

number_below : (k n most : ℕ) (b : List ℕ) → AllBytes b → n < most → number_from n (take k b) < room_from most k
number_below zero n most b f h = h
number_below (suc k) n most [] f h =
    subst (λ (s : List ℕ). number_from n s < room_from (most * 256) k) (take-nil k) (number_below k n (most * 256) [] f (omega arith))
number_below (suc k) n most (x ∷ b) f h = number_below k (n * 256 + x) (most * 256) b (λ i. f (suc i)) (omega (arith, f 0))

-- ---- A counter.
counter_same : {s s' : List ℕ} {t t' v v' b b' : ℕ} → s ≡ s' → t ≡ t' → v ≡ v' → b ≡ b'
    → ◌≡◌ {A = Counter} (record { settings = s; set = t; value = v; batch = b }) (record { settings = s'; set = t'; value = v'; batch = b' })
counter_same p q r t = cc

pub counter_length : (c : Counter) → SizedCounter c → length (counter_bytes c) ≡ counter_size
unfolding counter_bytes
counter_length c z = length-append c.settings _ ∙ ap (λ (n : ℕ). n + 8) z.settings

pub counter_again : (c : Counter) → SizedCounter c → counter_of (counter_bytes c) ≡ c
unfolding counter_of counter_bytes
counter_again c z =
    let rest : List ℕ = c.set ∷ (in_bytes 4 c.value ++ in_bytes 3 c.batch) in
    let behind : drop 26 (c.settings ++ rest) ≡ rest = drop_at c.settings rest 26 z.settings in
    counter_same
    (take_at c.settings rest 26 z.settings)
    (get_or_at c.settings c.set _ 0 26 z.settings)
    (ap (λ (l : List ℕ). number_of (take 4 l)) (sym (drop-drop 1 26 (c.settings ++ rest)) ∙ ap (drop 1) behind) ∙ number_back 4 c.value z.value)
    (ap (λ (l : List ℕ). number_of (take 3 l)) (sym (drop-drop 5 26 (c.settings ++ rest)) ∙ ap (drop 5) behind) ∙ number_back 3 c.batch z.batch)

-- ---- A jet.
jet_same : {l l' : ℕ} {s s' g g' : List ℕ} {c c' : Counter} → l ≡ l' → s ≡ s' → g ≡ g' → c ≡ c'
    → ◌≡◌ {A = Jet} (record { length = l; content = s; general = g; counter = c }) (record { length = l'; content = s'; general = g'; counter = c' })
jet_same p q r t = cc

pub jet_length : (j : Jet) → SizedJet j → length (jet_bytes j) ≡ jet_size
unfolding jet_bytes
jet_length j z =
    simp length-append (omega (arith, z.content, z.general, counter_length j.counter z.counter))

pub jet_again : (j : Jet) → SizedJet j → jet_of (jet_bytes j) ≡ j
unfolding jet_of jet_bytes
jet_again j z =
    let last : List ℕ = counter_bytes j.counter in
    let parameters : List ℕ = j.general ++ last in
    let behind : drop 512 (j.content ++ parameters) ≡ parameters = drop_at j.content parameters 512 z.content in
    jet_same
    (number_back 2 j.length z.message)
    (take_at j.content parameters 512 z.content)
    (ap (take 11) behind ∙ take_at j.general last 11 z.general)
    (ap (λ (l : List ℕ). counter_of (take counter_size l))
    (sym (drop-drop 11 512 (j.content ++ parameters)) ∙ ap (drop 11) behind ∙ drop_at j.general last 11 z.general)
    ∙ ap counter_of (take_all counter_size last (omega (arith, counter_length j.counter z.counter)))
    ∙ counter_again j.counter z.counter)

-- ---- The row.
pub row_length : (js : List Jet) → SizedJets js → length (joined (map jet_bytes js)) ≡ jet_size * length js
row_length [] z = refl
row_length (j ∷ js) z =
    length-append (jet_bytes j) (joined (map jet_bytes js))
    ∙ ap₂ (λ (a b : ℕ). a + b) (jet_length j z.0) (row_length js z.1)
    ∙ sym (next_place (length js))

pub row_again : (js : List Jet) → SizedJets js → jets_of (length js) (joined (map jet_bytes js)) ≡ js
row_again [] z = refl
row_again (j ∷ js) z =
    let rest : List ℕ = joined (map jet_bytes js) in
    let full = jet_length j z.0 in
    ap₂ (λ (k : Jet) (ks : List Jet). k ∷ ks)
    (ap jet_of (take_at (jet_bytes j) rest jet_size full) ∙ jet_again j z.0)
    (ap (jets_of (length js)) (drop_at (jet_bytes j) rest jet_size full) ∙ row_again js z.1)

pub printer_back : PrinterBack
unfolding printer_of bytes_of
printer_back p z =
    ap (with_jets p)
    (ap (λ (k : ℕ). jets_of k (joined (map jet_bytes p.jets))) (sym z.four) ∙ row_again p.jets z.jets)

pub bytes_full : BytesFull
unfolding bytes_of
bytes_full p z = omega (arith, row_length p.jets z.jets, z.four)

pub valid_bytes : ValidBytes
unfolding valid_state
valid_bytes p z = rw (eq-eqb (length (bytes_of p)) state_size (bytes_full p z), printer_back p z) refl

-- ---- What has room.
drop_all : (a : ℕ) (m : List ℕ) → AllBytes m → AllBytes (drop a m)
drop_all a m f i = (bytes_drop a m (fitting m f) i).fits

part_all : (a k : ℕ) (m : List ℕ) → AllBytes m → AllBytes (take k (drop a m))
part_all a k m f i = (part_bytes a k m (fitting m f) i).fits

part_length : (a k : ℕ) (m : List ℕ) → a + k ≤ length m → length (take k (drop a m)) ≡ k
part_length a k m h = simp (length-take, length-drop) (omega arith)

sized_counter : (b : List ℕ) → length b ≡ counter_size → AllBytes b → SizedCounter (counter_of b)
unfolding counter_of
sized_counter b full f =
    record {
      settings = part_length 0 26 b (omega arith);
      set = f 26;
      value = number_below 4 0 1 (drop 27 b) (drop_all 27 b f) (omega arith);
      batch = number_below 3 0 1 (drop 31 b) (drop_all 31 b f) (omega arith);
    }

sized_jet : (b : List ℕ) → length b ≡ jet_size → AllBytes b → SizedJet (jet_of b)
unfolding jet_of
sized_jet b full f =
    record {
      message = number_below 2 0 1 b f (omega arith);
      content = part_length 2 512 b (omega arith);
      general = part_length general_place 11 b (omega arith);
      counter = sized_counter _ (part_length counter_place counter_size b (omega arith)) (part_all counter_place counter_size b f);
    }

sized_row : (k : ℕ) (b : List ℕ) → length b ≡ jet_size * k → AllBytes b → SizedJets (jets_of k b)
sized_row zero b full f = tt
sized_row (suc k) b full f =
    let n = next_place k in (
      sized_jet (take jet_size b) (part_length 0 jet_size b (omega arith)) (part_all 0 jet_size b f),
      sized_row k (drop jet_size b) (rw length-drop (omega arith)) (drop_all jet_size b f),
    )

pub sized_of : SizedOf
unfolding printer_of
sized_of m full f =
    record {
      model = f 0;
      clock =
          record {
            second = drop_all 1 m f 0;
            minute = drop_all 1 m f 1;
            hour = drop_all 1 m f 2;
            day = drop_all 1 m f 3;
            month = drop_all 1 m f 4;
            year = drop_all 1 m f 5;
          };
      date_change = record { hour = drop_all 7 m f 0; minute = drop_all 7 m f 1 };
      four = refl;
      jets = sized_row 4 (drop jets_place m) (rw length-drop (omega arith)) (drop_all jets_place m f);
    }

month_short : (month year : ℕ) → days_in month year ≤ 31
unfolding days_in
month_short month year =
    pick_case P (eqb month 2) _ _ (λ _. pick_case P (is_leap year) _ _ (λ _. omega arith) (λ _. omega arith))
    (λ _. thirty 4 (thirty 6 (thirty 9 (thirty 11 (omega arith)))))
  where
    P : ℕ → Type 0
    P n = n ≤ 31

    thirty : (k : ℕ) {n : ℕ} → n ≤ 31 → pick (eqb month k) 30 n ≤ 31
    thirty k h = pick_case P (eqb month k) _ _ (λ _. omega arith) (λ _. h)

real_sized : (c : Clock) → is_real c ≡ true → SizedMoment c
real_sized c v =
    let r = real_tells c v in
    let d = r.date in
    let short = month_short c.date.month c.date.year in
    record {
      second = omega arith;
      minute = omega arith;
      hour = omega arith;
      day = omega arith;
      month = omega arith;
      year = omega arith;
    }

pub time_sized : (t : TimeOfDay) → is_time t ≡ true → SizedTime t
time_sized t v = let h = time_tells t v in record { hour = omega arith; minute = omega arith }

empty_sized : SizedJet empty_jet
unfolding empty_jet
empty_sized =
    record {
      message = omega arith;
      content = refl;
      general = refl;
      counter = record { settings = refl; set = omega arith; value = omega arith; batch = omega arith };
    }

pub sized_fresh : SizedFresh
sized_fresh model clock t v =
    let w = within_true 1 4 model t in
    record {
      model = omega arith;
      clock = real_sized clock v;
      date_change = record { hour = omega arith; minute = omega arith };
      four = refl;
      jets = (empty_sized, (empty_sized, (empty_sized, (empty_sized, tt))));
    }

set_sized : (js : List Jet) (i : ℕ) (j : Jet) → SizedJets js → SizedJet j → SizedJets (set js i j)
set_sized [] i j z w = z
set_sized (k ∷ js) zero j z w = (w, z.1)
set_sized (k ∷ js) (suc i) j z w = (z.0, set_sized js i j z.1 w)

each_all : (P Q : Jet → Type 0) (f : ℕ → Jet → Jet) → ((n : ℕ) (j : Jet) → P j → Q (f n j)) → (n : ℕ) (js : List Jet) → AllOf P js → AllOf Q (each f n js)
each_all P Q f h n [] z = z
each_all P Q f h n (j ∷ js) z = (h n j z.0, each_all P Q f h (n + 1) js z.1)

pub sized_with_jet : SizedWithJet
sized_with_jet p n j z w =
    record {
      model = z.model;
      clock = z.clock;
      date_change = z.date_change;
      four = length-set p.jets (n - 1) j ∙ z.four;
      jets = set_sized p.jets (n - 1) j z.jets w;
    }

pub sized_clock : SizedClock
sized_clock p c z v =
    record { model = z.model; clock = real_sized c v; date_change = z.date_change; four = z.four; jets = z.jets }

pub sized_date_change : SizedDateChange
sized_date_change p t z v =
    record { model = z.model; clock = z.clock; date_change = time_sized t v; four = z.four; jets = z.jets }

pub sized_each : SizedEach
sized_each p f h z =
    record {
      model = z.model;
      clock = z.clock;
      date_change = z.date_change;
      four = length_each f 1 p.jets ∙ z.four;
      jets = each_all SizedJet SizedJet f h 1 p.jets z.jets;
    }

-- ---- What digits come to: nine of them stay below 10 to the ninth.
digit_most : (b : ℕ) → is_digit b ≡ true → b ≤ 0x39
unfolding is_digit
digit_most b h = (within_true 0x30 0x39 b h).1

digit_at : (s : List ℕ) (i : ℕ) → all_digits s ≡ true → get_or s i 0 ≤ 0x39
digit_at [] i v = omega arith
digit_at (b ∷ s) zero v = digit_most b (both_true (is_digit b) _ v).0
digit_at (b ∷ s) (suc i) v = digit_at s i (both_true (is_digit b) _ v).1

abbrev tens_from : ℕ → ℕ → ℕ
tens_from most zero = most
tens_from most (suc k) = tens_from (most * 10) k

value_below : (k n most : ℕ) (s : List ℕ) → ((i : ℕ) → i < k → get_or s i 0 ≤ 0x39) → n < most → value_from n (take k s) < tens_from most k
value_below zero n most s f h = h
value_below (suc k) n most [] f h =
    subst (λ (s : List ℕ). value_from n s < tens_from (most * 10) k) (take-nil k) (value_below k n (most * 10) [] (λ i g. omega arith) (omega arith))
value_below (suc k) n most (x ∷ s) f h =
    value_below k (n * 10 + (x - 0x30)) (most * 10) s (λ i g. f (suc i) (omega arith)) (omega (arith, f 0 (omega arith)))

final_small : (q : List ℕ) → all_digits_in q ≡ true → final q < 1_000_000_000
final_small q v = value_below 9 0 1 (drop 10 q) (λ i h. rw (sym (here i h)) (digit_at (take 20 (drop 1 q)) (9 + i) v)) (omega arith)
  where
    here : (i : ℕ) → i < 9 → get_or (take 20 (drop 1 q)) (9 + i) 0 ≡ get_or (drop 10 q) i 0
    here i h = get_or-take 20 (drop 1 q) (9 + i) 0 (omega arith) ∙ sym (get_or-drop 9 (drop 1 q) i 0) ∙ ap (λ (l : List ℕ). get_or l i 0) (drop-drop 9 1 q)

-- ---- Good settings, and a counter that counts by them.
record Good (q : List ℕ) : Type 0 where
  most : final q < 1_000_000_000
  ordered : initial q ≤ final q

good_tells : (q : List ℕ) → good_settings q ≡ true → Good q
unfolding good_settings
good_tells q v =
    let a = both_true (eqb (control q) 0x89) _ v in
    let b = both_true (all_digits_in q) _ a.1 in
    let d = both_true _ _ b.1 in
    record { most = final_small q b.0; ordered = leb-true (initial q) (final q) d.0 }

pub sized_message : SizedMessage
sized_message j c z h =
    record {
      message = omega arith;
      content = length_over c j.content (omega (arith, z.content)) ∙ z.content;
      general = z.general;
      counter = z.counter;
    }

pub sized_parameters : SizedParameters
unfolding good_parameters
sized_parameters j q z h v =
    let g = good_tells (drop 11 q) v in
    record {
      message = z.message;
      content = z.content;
      general = part_length 0 11 q (omega arith);
      counter = record { settings = length-drop 11 q ∙ ap (λ (n : ℕ). n - 11) h; set = omega arith; value = omega arith; batch = omega arith };
    }

grown_small : (q : List ℕ) (value : ℕ) → Good q → grown q value < 4_294_967_296
unfolding grown
grown_small q value g =
    pick_case (λ (n : ℕ). n < 4_294_967_296) (leb (value + step q) (final q)) _ _
    (λ e. let h = leb-true (value + step q) (final q) e in omega arith)
    (λ _. omega arith)

value_small : (q : List ℕ) (value batch : ℕ) → Good q → value < 4_294_967_296 → next_value q value batch < 4_294_967_296
unfolding next_value
value_small q value batch g h =
    pick_case (λ (n : ℕ). n < 4_294_967_296) (ltb (batch + 1) (lot q)) _ _ (λ _. h) (λ _. grown_small q value g)

batch_small : (q : List ℕ) (batch : ℕ) → lot q < 16_777_216 → next_batch q batch < 16_777_216
unfolding next_batch
batch_small q batch h =
    pick_case (λ (n : ℕ). n < 16_777_216) (ltb (batch + 1) (lot q)) _ _
    (λ e. let g = ltb-true (batch + 1) (lot q) e in omega arith)
    (λ _. omega arith)

set_good : (c : Counter) → valid_counter c ≡ true → is_set c ≡ true → Good c.settings
unfolding valid_counter
set_good c v e =
    let a = both_true (leb c.set 1) _ v in
    good_tells c.settings (both_true (good_settings c.settings) _ (rw e at a.1)).0

sized_counted : (c : Counter) → SizedCounter c → valid_counter c ≡ true → lot c.settings < 16_777_216 → SizedCounter (counted c)
unfolding counted
sized_counted c z v h =
    pick_case SizedCounter (is_set c) (moved c) c
    (λ e. record {
      settings = z.settings;
      set = z.set;
      value = value_small c.settings c.value c.batch (set_good c v e) z.value;
      batch = batch_small c.settings c.batch h;
    })
    (λ _. z)

-- ---- A row of a valid state, read from bytes, counts within its room.
record Countable (j : Jet) : Type 0 where
  sized : SizedJet j
  valid : valid_counter j.counter ≡ true
  small : lot j.counter.settings < 16_777_216

lot_of : (b : List ℕ) → AllBytes b → lot (jet_of b).counter.settings < 16_777_216
unfolding jet_of counter_of
lot_of b f =
    let held : List ℕ = take counter_size (drop counter_place b) in
    let q : List ℕ = take 26 held in
    number_below 3 0 1 (drop 21 q) (drop_all 21 q (part_all 0 26 held (part_all counter_place counter_size b f))) (omega arith)

countable_row : (model n k : ℕ) (b : List ℕ) → length b ≡ jet_size * k → AllBytes b
    → every (λ (i : ℕ) (j : Jet). valid_jet (has_jet model i) j) n (jets_of k b) ≡ true → AllOf Countable (jets_of k b)
countable_row model n zero b full f v = tt
countable_row model n (suc k) b full f v =
    let one = next_place k in
    let first : List ℕ = take jet_size b in
    let g = part_all 0 jet_size b f in
    let a = both_true (valid_jet (has_jet model n) (jet_of first)) _ v in (
      record { sized = sized_jet first (part_length 0 jet_size b (omega arith)) g; valid = jet_counter _ (jet_of first) a.0; small = lot_of first g },
      countable_row model (n + 1) k (drop jet_size b) (rw length-drop (omega arith)) (drop_all jet_size b f) a.1,
    )

pub sized_print : SizedPrint
unfolding printer_of
sized_print m v f =
    let full = valid_size m v in
    let z = sized_of m full f in
    let row = countable_row (get_or m 0 0) 1 4 (drop jets_place m) (rw length-drop (omega arith)) (drop_all jets_place m f) (valid_row (printer_of m) (valid_printer m v)) in
    record {
      model = z.model;
      clock = z.clock;
      date_change = z.date_change;
      four = refl;
      jets = each_all Countable SizedJet (λ (n : ℕ) (j : Jet). counted_jet j) counts 1 (jets_of 4 (drop jets_place m)) row;
    }
  where
    counts : (n : ℕ) (j : Jet) → Countable j → SizedJet (counted_jet j)
    counts n j w =
        record {
          message = w.sized.message;
          content = w.sized.content;
          general = w.sized.general;
          counter = sized_counted j.counter w.sized.counter w.valid w.small;
        }
