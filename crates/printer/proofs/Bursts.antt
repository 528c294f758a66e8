-- Why a burst comes to the same byte for byte: while what is held is not whole the first receiver waits too; what becomes whole with a byte is
-- whole in the burst, and is all that was held; and 4 takes all that follows.
use Prim.Native.Nat.{ℕ, zero, suc, ◌+◌, ◌-◌, ◌≤◌}
use mathlib.Core.Bool.{Bool, true, false}
use mathlib.Core.List.{List, [], ◌∷◌, ◌++◌, append-nil}
use mathlib.Core.Path.{◌≡◌, refl, sym, ◌∙◌, ap, subst}
use native.Mathlib.Omega.{arith}
use borrow.Author.Tests.{ne_eqb, eqb-true, eqb-false}
use lib.Dec.{eqb}
use lib.ListN.{length, get_or, set, take, drop, length-append, length-drop, length-set}
use lib.Seq.{append_snoc, drop-append-le, drop-append_seam, drop-length, length-take-le, take-append-le}
use Rattle.frame.specs.Ground.{pick, plain, within}
use Rattle.frame.specs.declared.given.Given.{Given}
use Rattle.frame.specs.Receive.{consumed, number, received}
use Rattle.frame.specs.Holding.{buffer_behind, holding_behind, holding_size, is_held, is_holding}
use Rattle.frame.specs.declared.holding.Holding.{Holding}
use Rattle.frame.specs.declared.holding.Holding.TheVariants.{Held, Dropping}
use Rattle.frame.specs.declared.receive.Received.{Received}
use Rattle.frame.specs.declared.given.Refusal.TheVariants.{TooLong}
use Rattle.frame.specs.declared.receive.Received.TheVariants.{Partial, Refused, Misfit, Enquiry, Update, Frame}
use Rattle.frame.proofs.Ground.{checked_case}
use Rattle.frame.proofs.Heard.{frame_inside, update_inside}
use Rattle.frame.proofs.HoldingLaws.{Holds, behind_front, byte_completes, four_stays, held_partial, held_short, holding_follows, holds_tell, never_silent, none_held, tell_dropping, tell_holds, three_partial}
use Rattle.printer.specs.Jet.{Jet}
use Rattle.printer.specs.State.{Printer, empty_jet, printer_of, valid_state}
use Rattle.printer.specs.BytesLaws.{AllBytes, AllOf, SizedJet}
use Rattle.printer.specs.Order.{Order, store_after}
use Rattle.printer.specs.Change.{update_fields}
use Rattle.printer.specs.Messages.{valid_store}
use Rattle.printer.specs.Receive.{Outcome, done, enquire, handled, kept, obeyed, order, outcome, refusal, silent}
use Rattle.printer.specs.Single.{byte_handled, byte_tests, joined_by, single}
use Rattle.printer.specs.Demands.{byte_comes, full, hand_in}
use Rattle.printer.specs.Bursts.{BurstAsWhole, Run, Stand, behind, byte_in, byte_run, ended, heard, quiet, reply, said, saying, whole_run}
use Rattle.printer.proofs.Orders.{Passes, end, holds, passes_checked}
use Rattle.printer.proofs.Valid.{valid_size}
use Rattle.printer.proofs.BytesLaws.{sized_of}
use Rattle.printer.proofs.Rooms.{Roomy, empty_roomy}
use Rattle.printer.proofs.Bytewise.{GivenOf, given_loud, given_same, handled_given, handled_loud}
use Rattle.printer.proofs.Accepting.{valid_handled}
use Rattle.printer.proofs.Storing.{store_stays}
use Rattle.printer.proofs.Reaching.{Reached, call_reached}

-- ---- A valid state of bytes has its rooms, and so has every state behind it.
jet_roomy : (j : Jet) → SizedJet j → Roomy j
jet_roomy j z = record { content = z.content; general = z.general; settings = z.counter.settings; value = z.counter.value }

row_roomy : (js : List Jet) (i : ℕ) → AllOf SizedJet js → Roomy (get_or js i empty_jet)
row_roomy [] i z = empty_roomy
row_roomy (j ∷ js) zero z = jet_roomy j z.0
row_roomy (j ∷ js) (suc i) z = row_roomy js i z.1

state_reached : (m : List ℕ) → valid_state m ≡ true → AllBytes m → Reached (printer_of m).model m
state_reached m v f =
    let z = sized_of m (valid_size m v) f in
    record { sound = v; rooms = λ n h. row_roomy (printer_of m).jets (n - 1) z.jets; same_model = refl }

-- ---- What is handled looks at no byte behind what is consumed, and consumes just that.
obeyed_consumes : (p : Printer) (o : Order) (c : ℕ) → (obeyed p o c).consumed ≡ c
unfolding obeyed
obeyed_consumes p o c =
    checked_case (λ (x : Outcome). x.consumed ≡ c) o.tests (λ (r : Given). refusal p r c) (done o c) (λ _ _. refl) (λ _. refl)

handled_consumes : (p : Printer) (store s : List ℕ) (r : Received) → (handled p store s r).consumed ≡ consumed r
handled_consumes p store s Partial = refl
handled_consumes p store s (Refused k c) = refl
handled_consumes p store s (Misfit k i n c) = refl
handled_consumes p store s Enquiry = obeyed_consumes p (enquire p) 1
handled_consumes p store s (Update n c) = obeyed_consumes p (update_fields p (take n (drop 1 s))) c
handled_consumes p store s (Frame i n c) = obeyed_consumes p (order p store i (take n (drop 3 s))) c

part_same : (a n : ℕ) (t rest : List ℕ) → a + n ≤ length t → take n (drop a (t ++ rest)) ≡ take n (drop a t)
part_same a n t rest h =
    ap (take n) (drop-append-le a t rest (omega arith)) ∙ take-append-le n (drop a t) rest (simp length-drop (omega arith))

handled_same : (p : Printer) (store t rest : List ℕ) (r : Received) → received t ≡ r → handled p store (t ++ rest) r ≡ handled p store t r
handled_same p store t rest Partial e = refl
handled_same p store t rest (Refused k c) e = refl
handled_same p store t rest (Misfit k i n c) e = refl
handled_same p store t rest Enquiry e = refl
handled_same p store t rest (Update n c) e =
    ap (λ (d : List ℕ). obeyed p (update_fields p d) c) (part_same 1 n t rest (omega (arith, update_inside t e)))
handled_same p store t rest (Frame i n c) e =
    ap (λ (d : List ℕ). obeyed p (order p store i d) c) (part_same 3 n t rest (omega (arith, frame_inside t e)))

-- ---- The first receiver in a valid state.
pick_same : (t : Bool) (x y : Run) → y ≡ x → pick t x y ≡ x
pick_same true x y e = refl
pick_same false x y e = e

whole_waits : (calls : ℕ) (m store s : List ℕ) → valid_state m ≡ true → valid_store store ≡ true → received s ≡ Partial → whole_run calls m store s ≡ ended m store
whole_waits zero m store s v w e = refl
whole_waits (suc calls) m store s v w e = pick_same (eqb (length s) 0) (ended m store) _ (rw (valid_handled m store s v w, e) refl)

whole_says : (calls : ℕ) (m store s : List ℕ) → (length s ≡ 0 → ⊥) → ((heard m store s).number ≡ 3 → ⊥)
    → whole_run (suc calls) m store s
    ≡ saying (reply (heard m store s))
    (whole_run calls (kept (heard m store s) m) (store_after (heard m store s).store store) (drop (heard m store s).consumed s))
whole_says calls m store s h three = rw (ne_eqb (length s) 0 h, ne_eqb (heard m store s).number 3 three) refl

whole_none : (calls : ℕ) (m store : List ℕ) → whole_run calls m store [] ≡ ended m store
whole_none zero m store = refl
whole_none (suc calls) m store = refl

-- ---- The second receiver in a valid state, with a holding that some burst leaves.
abbrev stand : List ℕ → List ℕ → Holding → List ℕ → Stand
stand m store holding buffer = record { state = m; store = store; holding = holding; buffer = buffer }

pub record Sound (model : ℕ) (w : Stand) : Type 0 where
  pub state : Reached model w.state
  pub store : valid_store w.store ≡ true
  pub holding : is_holding w.holding w.buffer ≡ true

byte_passes : {model : ℕ} (w : Stand) (b : ℕ) → Sound model w → Passes (byte_tests w.state (byte_in w b))
byte_passes w b g = holds g.state.sound (holds g.store (holds g.holding (holds refl (holds refl end))))

said_handled : {model : ℕ} (w : Stand) (b : ℕ) → Sound model w → said w b ≡ byte_handled w.state (byte_in w b) w.holding
unfolding single
said_handled w b g = passes_checked (λ (r : Given). silent (printer_of w.state) r.number) (byte_handled w.state (byte_in w b) w.holding) (byte_passes w b g)

-- A byte leaves it so: the number of what is handled moves what is held as the receiver's own does.
holding_same : (n : ℕ) {j k : ℕ} → GivenOf j k → within 1 2 k ≡ false → holding_behind (Held n) j ≡ holding_behind (Held n) k
holding_same n g q = rw (given_loud g q, q, given_same g 3 (omega arith) (omega arith), given_same g 4 (omega arith) (omega arith)) refl

buffer_same : (n : ℕ) (buffer : List ℕ) (b : ℕ) {j k : ℕ} → GivenOf j k → within 1 2 k ≡ false → buffer_behind (Held n) buffer b j ≡ buffer_behind (Held n) buffer b k
buffer_same n buffer b g q = rw (given_loud g q, q) refl

module _ (m store buffer : List ℕ) (b : ℕ) where
  abbrev LeftSound : Holding → Outcome → Type 0
  LeftSound h o =
      (valid_store (store_after o.store store) ≡ true) × (is_holding (holding_behind h o.number) (buffer_behind h buffer b o.number) ≡ true)

  left_sound : {model : ℕ} (h : Holding) → Sound model (stand m store h buffer) → LeftSound h (said (stand m store h buffer) b)
  left_sound (Held n) g =
      let t = joined_by n buffer b in
      let given = handled_given (printer_of m) store t (received t) in
      subst (LeftSound (Held n)) (sym (said_handled (stand m store (Held n) buffer) b g)) (
        subst (λ (o : Outcome). valid_store (store_after o.store store) ≡ true) (valid_handled m store t g.state.sound g.store) (store_stays m (full store t) g.store),
        subst (λ (h : Holding). is_holding h (buffer_behind (Held n) buffer b (handled (printer_of m) store t (received t)).number) ≡ true) (sym (holding_same n given (never_silent t)))
            (subst (λ (l : List ℕ). is_holding (holding_behind (Held n) (number (received t))) l ≡ true) (sym (buffer_same n buffer b given (never_silent t)))
            (holding_follows (Held n) buffer b g.holding).holds),
      )
  left_sound Dropping g = subst (LeftSound Dropping) (sym (said_handled (stand m store Dropping buffer) b g)) (g.store, g.holding)

pub quiet_sound : (m store : List ℕ) (holding : Holding) (buffer : List ℕ) → valid_state m ≡ true → AllBytes m → valid_store store ≡ true → length buffer ≡ holding_size
    → Sound (printer_of m).model (quiet m store holding buffer)
quiet_sound m store holding buffer v f w full =
    record { state = state_reached m v f; store = w; holding = tell_holds 0 buffer full (omega arith) none_held }

pub behind_sound : {model : ℕ} (w : Stand) (b : ℕ) → Sound model w → Sound model (behind w b)
behind_sound w b g =
    let l = left_sound w.state w.store w.buffer b w.holding (record { state = g.state; store = g.store; holding = g.holding }) in
    record { state = call_reached g.state (byte_comes (byte_in w b)); store = l.0; holding = l.1 }

-- While all is dropped nothing comes of a byte.
dropping_run : {model : ℕ} (s m store buffer : List ℕ) → Sound model (stand m store Dropping buffer) → byte_run (stand m store Dropping buffer) s ≡ ended m store
dropping_run [] m store buffer g = refl
dropping_run (b ∷ s) m store buffer g = rw (said_handled (stand m store Dropping buffer) b g) (dropping_run s m store buffer g)

-- ---- A byte behind n that are held, by what the receiver makes of them together.
module _ {model : ℕ} (m store buffer : List ℕ) (n b : ℕ) (s : List ℕ) (g : Sound model (stand m store (Held n) buffer)) where
  abbrev together : List ℕ
  together = joined_by n buffer b

  abbrev all_of : List ℕ
  all_of = take n buffer ++ (b ∷ s)

  abbrev made : Outcome
  made = handled (printer_of m) store together (received together)

  in_front : together ++ s ≡ all_of
  in_front = append_snoc (take n buffer) b s

  room : Holds n buffer
  room = holds_tell n buffer g.holding

  full_again : length (set buffer n b) ≡ holding_size
  full_again = length-set buffer n b ∙ room.full

  waits : received together ≡ Partial → byte_run (stand m store (Held n) buffer) (b ∷ s) ≡ byte_run (stand m store (Held (n + 1)) (set buffer n b)) s
  waits e = rw (said_handled (stand m store (Held n) buffer) b g, e) refl

  drops : received together ≡ Refused TooLong (length together)
      → byte_run (stand m store (Held n) buffer) (b ∷ s)
      ≡ saying (reply (refusal (printer_of m) (plain 4) (length together))) (byte_run (stand m store Dropping (set buffer n b)) s)
  drops e = rw (said_handled (stand m store (Held n) buffer) b g, e) refl

  says : eqb made.number 3 ≡ false → eqb made.number 4 ≡ false
      → byte_run (stand m store (Held n) buffer) (b ∷ s)
      ≡ saying (reply made) (byte_run (stand (kept made m) (store_after made.store store) (Held 0) (set buffer n b)) s)
  says three four = rw (said_handled (stand m store (Held n) buffer) b g, handled_loud (printer_of m) store together, three, four) refl

  -- The first receiver, over all of them.
  heard_whole : valid_state m ≡ true → valid_store store ≡ true → received (together ++ s) ≡ received together → heard m store all_of ≡ made
  heard_whole v w e =
      valid_handled m store all_of v w
      ∙ ap (λ (l : List ℕ). handled (printer_of m) store l (received l)) (sym in_front)
      ∙ ap (handled (printer_of m) store (together ++ s)) e
      ∙ handled_same (printer_of m) store together s (received together) refl

  heard_over : valid_state m ≡ true → valid_store store ≡ true → number (received together) ≡ 4
      → heard m store all_of ≡ refusal (printer_of m) (plain 4) (length all_of)
  heard_over v w four =
      valid_handled m store all_of v w
      ∙ ap (handled (printer_of m) store all_of) (ap received (sym in_front) ∙ four_stays together s four ∙ ap (λ (l : List ℕ). Refused TooLong (length l)) in_front)

-- What is true of the bytes behind this one.
abbrev Again : ℕ → List ℕ → Type 0
Again model s =
    (m store buffer : List ℕ) (n calls : ℕ) → Reached model m → valid_store store ≡ true → is_holding (Held n) buffer ≡ true → length (take n buffer ++ s) ≤ calls
    → byte_run (stand m store (Held n) buffer) s ≡ whole_run calls m store (take n buffer ++ s)

module _ (model : ℕ) (m store buffer : List ℕ) (n b : ℕ) (s : List ℕ) (r : Reached model m) (w : valid_store store ≡ true) (h : is_holding (Held n) buffer ≡ true) (again : Again model s) where
  abbrev all-bytes : List ℕ
  all-bytes = take n buffer ++ (b ∷ s)

  abbrev whole : List ℕ
  whole = joined_by n buffer b

  abbrev outcome-of : Outcome
  outcome-of = handled (printer_of m) store whole (received whole)

  sound : Sound model (stand m store (Held n) buffer)
  sound = record { state = r; store = w; holding = h }

  held_room : Holds n buffer
  held_room = holds_tell n buffer h

  buffer_full : length (set buffer n b) ≡ holding_size
  buffer_full = full_again m store buffer n b s sound

  length_whole : length whole ≡ n + 1
  length_whole = length-append (take n buffer) (b ∷ []) ∙ ap (λ (k : ℕ). k + 1) (length-take-le n buffer (omega (arith, held_room.full, held_room.room)))

  length_all : length all-bytes ≡ n + 1 + length s
  length_all = ap length (sym (in_front m store buffer n b s sound)) ∙ length-append whole s ∙ ap (λ (k : ℕ). k + length s) length_whole

  -- It waits on.
  case_three : (calls : ℕ) → length all-bytes ≤ calls → number (received whole) ≡ 3
      → byte_run (stand m store (Held n) buffer) (b ∷ s) ≡ whole_run calls m store all-bytes
  case_three calls long three =
      let e : received whole ≡ Partial = three_partial whole three in
      let held : is_held whole ≡ true = (held_partial whole).1 e in
      let front : take (n + 1) (set buffer n b) ≡ whole = behind_front n buffer b (omega (arith, held_room.full, held_room.room)) in
      let joined : take (n + 1) (set buffer n b) ++ s ≡ all-bytes = ap (λ (l : List ℕ). l ++ s) front ∙ in_front m store buffer n b s sound in
      let holding : is_holding (Held (n + 1)) (set buffer n b) ≡ true =
      tell_holds (n + 1) (set buffer n b) buffer_full (omega (arith, length_whole, held_short whole held)) (rw front held) in
      waits m store buffer n b s sound e
      ∙ again m store (set buffer n b) (n + 1) calls r w holding (rw joined long)
      ∙ ap (whole_run calls m store) joined

  -- It is given up, and all behind it is dropped.
  case_four : (calls : ℕ) → length all-bytes ≤ calls → number (received whole) ≡ 4
      → byte_run (stand m store (Held n) buffer) (b ∷ s) ≡ whole_run calls m store all-bytes
  case_four zero long four = absurd (none_left long)
    where
      none_left : length all-bytes ≤ 0 → ⊥
      none_left q = omega (arith, length_all)
  case_four (suc calls) long four =
      let e : received whole ≡ Refused TooLong (length whole) = ap received (sym (append-nil whole)) ∙ four_stays whole [] four ∙ ap (λ (l : List ℕ). Refused TooLong (length l)) (append-nil whole) in
      let q : heard m store all-bytes ≡ refusal (printer_of m) (plain 4) (length all-bytes) = heard_over m store buffer n b s sound r.sound w four in
      let some : length all-bytes ≡ 0 → ⊥ = λ z. omega (arith, length_all) in
      let loud : (heard m store all-bytes).number ≡ 3 → ⊥ = λ z. omega (arith, sym (ap (λ (o : Outcome). o.number) q) ∙ z) in
      drops m store buffer n b s sound e
      ∙ ap (saying (reply (refusal (printer_of m) (plain 4) (length whole))))
      (dropping_run s m store (set buffer n b) (record { state = r; store = w; holding = tell_dropping (set buffer n b) buffer_full })
      ∙ sym (whole_none calls m store))
      ∙ sym (whole_says calls m store all-bytes some loud ∙ rw (q, drop-length all-bytes) refl)

  -- It is whole.
  case_whole : (calls : ℕ) → length all-bytes ≤ calls → (number (received whole) ≡ 3 → ⊥) → (number (received whole) ≡ 4 → ⊥)
      → byte_run (stand m store (Held n) buffer) (b ∷ s) ≡ whole_run calls m store all-bytes
  case_whole zero long three four = absurd (none_left long)
    where
      none_left : length all-bytes ≤ 0 → ⊥
      none_left q = omega (arith, length_all)
  case_whole (suc calls) long three four =
      let c = byte_completes (take n buffer) b s held_room.bytes three four in
      let q : heard m store all-bytes ≡ outcome-of = heard_whole m store buffer n b s sound r.sound w c.same in
      let not_three : eqb outcome-of.number 3 ≡ false = given_same (handled_given (printer_of m) store whole (received whole)) 3 (omega arith) (omega arith) ∙ ne_eqb (number (received whole)) 3 three in
      let not-four : eqb outcome-of.number 4 ≡ false = given_same (handled_given (printer_of m) store whole (received whole)) 4 (omega arith) (omega arith) ∙ ne_eqb (number (received whole)) 4 four in
      let some : length all-bytes ≡ 0 → ⊥ = λ z. omega (arith, length_all) in
      let loud : (heard m store all-bytes).number ≡ 3 → ⊥ = λ z. eqb-false outcome-of.number 3 not_three (sym (ap (λ (o : Outcome). o.number) q) ∙ z) in
      let eaten : outcome-of.consumed ≡ length whole = handled_consumes (printer_of m) store whole (received whole) ∙ c.all in
      let rest : drop outcome-of.consumed all-bytes ≡ s =
      ap (λ (k : ℕ). drop k all-bytes) eaten ∙ ap (drop (length whole)) (sym (in_front m store buffer n b s sound)) ∙ drop-append_seam whole s in
      let alone : outcome m (full store whole) ≡ outcome-of = valid_handled m store whole r.sound w in
      let reached : Reached model (kept outcome-of m) = subst (λ (o : Outcome). Reached model (kept o m)) alone (call_reached r (hand_in (full store whole))) in
      let stored : valid_store (store_after outcome-of.store store) ≡ true =
      subst (λ (o : Outcome). valid_store (store_after o.store store) ≡ true) alone (store_stays m (full store whole) w) in
      says m store buffer n b s sound not_three not-four
      ∙ ap (saying (reply outcome-of))
      (again (kept outcome-of m) (store_after outcome-of.store store) (set buffer n b) 0 calls reached stored
      (tell_holds 0 (set buffer n b) buffer_full (omega arith) none_held) (omega (arith, length_all)))
      ∙ sym (whole_says calls m store all-bytes some loud ∙ rw (q, rest) refl)

  one_byte : (calls : ℕ) → length all-bytes ≤ calls → byte_run (stand m store (Held n) buffer) (b ∷ s) ≡ whole_run calls m store all-bytes
  one_byte calls long = go (eqb (number (received whole)) 3) refl (eqb (number (received whole)) 4) refl
    where
      go : (x : Bool) → eqb (number (received whole)) 3 ≡ x → (y : Bool) → eqb (number (received whole)) 4 ≡ y
          → byte_run (stand m store (Held n) buffer) (b ∷ s) ≡ whole_run calls m store all-bytes
      go true p y q = case_three calls long (eqb-true (number (received whole)) 3 p)
      go false p true q = case_four calls long (eqb-true (number (received whole)) 4 q)
      go false p false q = case_whole calls long (eqb-false (number (received whole)) 3 p) (eqb-false (number (received whole)) 4 q)

-- ---- By induction over the burst.
bytes_as_whole : (model : ℕ) (s : List ℕ) → Again model s
bytes_as_whole model [] m store buffer n calls r w h long =
    sym
    (whole_waits calls m store (take n buffer ++ []) r.sound w
    (ap received (append-nil (take n buffer)) ∙ (held_partial (take n buffer)).0 (holds_tell n buffer h).bytes))
bytes_as_whole model (b ∷ s) m store buffer n calls r w h long =
    one_byte model m store buffer n b s r w h
    (λ m' store' buffer' n' calls' r' w' h' long'. bytes_as_whole model s m' store' buffer' n' calls' r' w' h' long') calls long

pub burst_as_whole : BurstAsWhole
burst_as_whole m store holding buffer burst calls v f w full long =
    let g = quiet_sound m store holding buffer v f w full in
    bytes_as_whole (printer_of m).model burst m store buffer 0 calls g.state w g.holding long
