-- Four jets one after the other: the strips so far lie one behind the other, and the jets so far have counted.
use Prim.Native.Nat.{ℕ, zero, suc, ◌+◌, ◌-◌, ◌*◌, ◌≤◌, ◌<◌}
use mathlib.Core.List.{List, [], ◌∷◌, ◌++◌, map, append_assoc, append-nil}
use mathlib.Core.Path.{◌≡◌, refl, sym, ◌∙◌, ap, ap₂, subst}
use native.Mathlib.Nat.{not-suc-le-zero, le_of_suc-le-suc}
use native.Mathlib.Numerals.{add-one}
use native.Mathlib.Omega.{arith}
use borrow.Rule.Slice.PartMut.{mid_of, put_mid}
use lib.ListN.{length, get_or, set, take, drop, replicate, length-append, length-map, drop_of_length-le}
use lib.Seq.{drop-drop, take_at, drop_at, take-length}
use Rattle.frame.specs.Ground.{each, joined, over}
use Rattle.frame.proofs.Ground.{copied_more, copied_all}
use Rattle.frame.proofs.Lent.{Laid, laid_more}
use Rattle.printer.specs.Jet.{jet_size, jet_of, jet_bytes, counted_jet}
use Rattle.printer.specs.State.{Printer, state_size, jets_place, empty_jet, jet_at, front_bytes, printer_of, bytes_of}
use Rattle.printer.specs.Print.{entries_now, strip_of, strips, counted_jets}
use Rattle.printer.proofs.Numbers.{Bytes}
use Rattle.printer.proofs.Memory.{state_back, jet_lent}
use Rattle.printer.proofs.Valid.{four_jets}

-- ---- A row of jets, and what each becomes.
pub each_at : {A B : Type 0} (f : A → B) (k : ℕ) (xs : List A) (n : ℕ) (a : A) (b : B) → n < length xs → get_or (each (λ (i : ℕ) (x : A). f x) k xs) n b ≡ f (get_or xs n a)
each_at f k [] n a b h = absurd (not-suc-le-zero h)
each_at f k (x ∷ xs) zero a b h = refl
each_at f k (x ∷ xs) (suc n) a b h = each_at f (k + 1) xs n a b (le_of_suc-le-suc h)

pub map_at : {A B : Type 0} (f : A → B) (xs : List A) (n : ℕ) (a : A) (b : B) → n < length xs → get_or (map f xs) n b ≡ f (get_or xs n a)
map_at f [] n a b h = absurd (not-suc-le-zero h)
map_at f (x ∷ xs) zero a b h = refl
map_at f (x ∷ xs) (suc n) a b h = map_at f xs n a b (le_of_suc-le-suc h)

-- One more of them behind the others.
joined_suc : (xs : List (List ℕ)) (n : ℕ) → n < length xs → joined (take (suc n) xs) ≡ joined (take n xs) ++ get_or xs n []
joined_suc [] n h = absurd (not-suc-le-zero h)
joined_suc (x ∷ xs) zero h = append-nil x
joined_suc (x ∷ xs) (suc n) h = ap (λ (l : List ℕ). x ++ l) (joined_suc xs n (le_of_suc-le-suc h)) ∙ sym (append_assoc x (joined (take n xs)) (get_or xs n []))

pub joined_next : (xs : List (List ℕ)) (n : ℕ) {x : List ℕ} → n < length xs → get_or xs n [] ≡ x → joined (take (n + 1) xs) ≡ joined (take n xs) ++ x
joined_next xs n h e = rw (add-one, ← e) (joined_suc xs n h)

-- A state has four jets.
pub jet_next : (p : Printer) (n : ℕ) → get_or p.jets n empty_jet ≡ jet_at p (n + 1)
jet_next p n = ap (λ (k : ℕ). get_or p.jets k empty_jet) (same n)
  where
    same : (n : ℕ) → n ≡ n + 1 - 1
    same n = omega arith

-- ---- Strips: n of them are written, and their lengths noted; each is 1,536 bytes long at the most.
pub record Printed (xs : List (List ℕ)) (before after lengths : List ℕ) (behind n : ℕ) : Type 0 where
  pub laid : Laid behind (joined (take n xs)) before after
  pub counts : lengths ≡ take n (map length xs) ++ drop n (replicate 4 0)
  pub short : behind ≤ 1536 * n

pub printed_more : {xs : List (List ℕ)} {before after lengths : List ℕ} {behind n : ℕ} (k : ℕ) {x last : List ℕ} → length xs ≡ 4 → 6144 ≤ length before → n < 4
    → Printed xs before after lengths behind n → get_or xs n [] ≡ x → k ≡ length x → k ≤ 1536 → last ≡ over x (mid_of behind (length after - behind) after)
    → Printed xs before (put_mid behind (length after - behind) after last) (set lengths n k) (behind + k) (n + 1)
printed_more {xs} {before} {after} {lengths} {behind} {n} k {x} {last} four room h p e c s b =
    let noted : get_or (map length xs) n 0 ≡ k = map_at length xs n [] 0 (omega arith) ∙ ap length e ∙ sym c in
    record {
      laid = rw (joined_next xs n (omega arith) e) (laid_more k x last p.laid (sym c) (omega (arith, p.short)) b);
      counts = rw (p.counts, ← noted) (copied_more (map length xs) (replicate 4 0) n (omega (arith, length-map xs length)) h);
      short = omega (arith, p.short);
    }

pub printed_all : {xs : List (List ℕ)} {before after lengths : List ℕ} {behind n : ℕ} → length xs ≡ 4 → 4 ≤ n → n ≤ 4 → Printed xs before after lengths behind n
    → (lengths ≡ map length xs) × (after ≡ over (joined xs) before)
printed_all {xs} {before} {n = n} four h g p =
    let e : n ≡ length xs = omega arith in
    let f : n ≡ length (map length xs) = omega (arith, length-map xs length) in (
      p.counts ∙ copied_all (map length xs) (replicate 4 0) n f
          ∙ ap (λ (l : List ℕ). map length xs ++ l) (drop_of_length-le (replicate 4 0) {i = length (map length xs)} (omega (arith, length-map xs length)))
          ∙ append-nil (map length xs),
      p.laid.same ∙ ap (λ (l : List (List ℕ)). over (joined l) before) (ap (λ (k : ℕ). take k xs) e ∙ take-length xs),
    )

-- The strip of the next jet.
pub strip_next : (m es : List ℕ) {n : ℕ} → n < 4 → es ≡ entries_now (printer_of m)
    → let at = jets_place + jet_size * n in
    get_or (strips (printer_of m)) n [] ≡ strip_of es (jet_of (mid_of at (at + jet_size - at) m))
strip_next m es {n} h q =
    let p : Printer = printer_of m in
    each_at (strip_of (entries_now p)) 1 p.jets n empty_jet [] (omega (arith, four_jets m))
    ∙ ap₂ strip_of (sym q) (jet_next p n ∙ sym (jet_lent m (n + 1) (omega arith) (omega arith) (omega arith)))

pub four_strips : (m : List ℕ) → length (strips (printer_of m)) ≡ 4
unfolding printer_of
four_strips m = refl

-- ---- Counting: the bytes before the jets, and the bytes of n jets that have counted, stand before those that have not.
abbrev counted_bytes : Printer → List (List ℕ)
counted_bytes p = map jet_bytes (counted_jets p).jets

-- What is laid over a buffer leaves the part behind it; and bytes that take the place of that part are laid behind the others.
pub part_behind : {a : ℕ} {w before after : List ℕ} (k : ℕ) → Laid a w before after → mid_of a k after ≡ mid_of a k before
part_behind {a} {w} {before} k l =
    ap (λ (l : List ℕ). mid_of a k l) l.same ∙ ap (take k) (drop_at w (drop (length w) before) a l.count ∙ ap (λ (i : ℕ). drop i before) l.count)

pub part_laid : {a : ℕ} {w before after : List ℕ} (k : ℕ) (last : List ℕ) → Laid a w before after → length last ≡ k → a + k ≤ length before
    → Laid (a + k) (w ++ last) before (put_mid a (a + k - a) after last)
part_laid {a} {w} {before} {after} k last l e h =
    let n : length w + (a + k - a) ≡ length (w ++ last) = simp length-append (omega (arith, l.count, e)) in
    record {
      count = simp length-append (omega (arith, l.count, e));
      inside = h;
      same =
          ap (λ (l : List ℕ). put_mid a (a + k - a) l last) l.same
          ∙ rw (take_at w (drop (length w) before) a l.count, drop_at w (drop (length w) before) a l.count, drop-drop, n)
          (sym (append_assoc w last (drop (length (w ++ last)) before)));
    }

pub record Counted (m m' : List ℕ) (n : ℕ) : Type 0 where
  pub laid : Laid (jets_place + jet_size * n) (front_bytes (printer_of m) ++ joined (take n (counted_bytes (printer_of m)))) m m'

front_stays : (p : Printer) {m : List ℕ} → bytes_of p ≡ m → m ≡ over (front_bytes p ++ []) m
unfolding bytes_of
front_stays p {m} e = subst (λ (l : List ℕ). l ≡ over (front_bytes p ++ []) l) e refl

pub counted_none : (m : List ℕ) → length m ≡ state_size → Bytes m → Counted m m 0
counted_none m full f =
    record { laid = record { count = refl; inside = omega arith; same = front_stays (printer_of m) (state_back m full f) } }

-- The part of the next jet is as it was.
pub counted_jet_at : {m m' : List ℕ} {n : ℕ} → n < 4 → Counted m m' n
    → let at = jets_place + jet_size * n in
    jet_of (mid_of at (at + jet_size - at) m') ≡ jet_at (printer_of m) (n + 1)
counted_jet_at {m} {m'} {n} h c =
    let at = jets_place + jet_size * n in
    ap jet_of (part_behind (at + jet_size - at) c.laid) ∙ jet_lent m (n + 1) (omega arith) (omega arith) (omega arith)

counted_four : (m : List ℕ) → length (counted_jets (printer_of m)).jets ≡ 4
unfolding printer_of
counted_four m = refl

pub counted_more : {m m' : List ℕ} {n : ℕ} {last : List ℕ} → length m ≡ state_size → n < 4 → Counted m m' n → length last ≡ jet_size
    → let at = jets_place + jet_size * n in
    last ≡ jet_bytes (counted_jet (jet_of (mid_of at (at + jet_size - at) m'))) → Counted m (put_mid at (at + jet_size - at) m' last) (n + 1)
counted_more {m} {m'} {n} {last} full h c size e =
    let p : Printer = printer_of m in
    let at = jets_place + jet_size * n in
    let next : get_or (counted_bytes p) n [] ≡ last =
    map_at jet_bytes (counted_jets p).jets n empty_jet [] (omega (arith, counted_four m))
    ∙ ap jet_bytes
    (each_at counted_jet 1 p.jets n empty_jet empty_jet (omega (arith, four_jets m)) ∙ ap counted_jet (jet_next p n ∙ sym (counted_jet_at h c)))
    ∙ sym e in
    let further : jets_place + jet_size * (n + 1) ≡ at + jet_size = omega arith in
    record {
      laid = rw (further, joined_next (counted_bytes p) n (omega (arith, counted_four m, length-map (counted_jets p).jets jet_bytes)) next)
          (part_laid jet_size last c.laid size (omega arith));
    }

pub counted_all : {m m' : List ℕ} {n : ℕ} → length m ≡ state_size → n ≡ 4 → Counted m m' n → m' ≡ bytes_of (counted_jets (printer_of m))
unfolding bytes_of
counted_all {m} {m'} {n} full h c =
    let xs : List (List ℕ) = counted_bytes (printer_of m) in
    let w : List ℕ = front_bytes (printer_of m) ++ joined (take n xs) in
    let e : n ≡ length xs = omega (arith, counted_four m, length-map (counted_jets (printer_of m)).jets jet_bytes) in
    c.laid.same
    ∙ ap (λ (l : List ℕ). w ++ l) (drop_of_length-le m {i = length w} (omega (arith, c.laid.count)))
    ∙ append-nil w
    ∙ ap (λ (l : List (List ℕ)). front_bytes (printer_of m) ++ joined l) (ap (λ (k : ℕ). take k xs) e ∙ take-length xs)
