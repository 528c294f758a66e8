-- The three demands, over the rules: a type of calls, what a list of calls makes of a fresh printer, and what is then true.
use Rattle.std.specs.Prelude.{ℕ, None, Some, Ok, ◌+◌, ◌-◌, ◌≤◌, Bool, true, false, List, [], ◌∷◌, ◌++◌, ◌↔◌, ◌≡◌, eqb, leb, ltb, length, get_or, take, drop}
use Rattle.frame.specs.Ground.{pick, both, plain, within, has, all}
use Rattle.frame.specs.declared.given.Given.{Given}
use Rattle.frame.specs.Wire.{size_of, fits}
use Rattle.frame.specs.Build.{frame, Builds}
use Rattle.frame.specs.Receive.{received}
use Rattle.frame.specs.declared.receive.Received.{Received}
use Rattle.frame.specs.declared.receive.Received.TheVariants.{Partial, Refused, Misfit, Enquiry, Update, Frame}
use Rattle.content.specs.Byte.{all_characters}
use Rattle.content.specs.Content.{is_content}
use Rattle.content.specs.PlaceLaws.{FirstAstray, FirstOther, TenAt}
use Rattle.content.specs.Position.{is_field_position, is_position}
use Rattle.content.specs.Grammar.{Tree, encode, good_tree, outline, resolved, shape}
use Rattle.content.specs.Marks.{tree_letters, tree_marks}
use Rattle.content.specs.Tree.{tree_of}
use Rattle.content.specs.declared.position.Mark.TheVariants.{Structure}
use Rattle.calendar.specs.Clock.{clock_text, entries, is_real, tick}
use Rattle.calendar.specs.DateChange.{is_time, table_text}
use Rattle.calendar.specs.DateChangeLaws.{StandsFor}
use Rattle.printer.specs.Counter.{counter_text}
use Rattle.printer.specs.Jet.{Jet, has_jet, has_message, message, parameters, with_message, with_parameters}
use Rattle.printer.specs.State.{Printer, jet_at, printer_of, bytes_of, state_size, valid_state}
use Rattle.printer.specs.BytesLaws.{AllBytes}
use Rattle.library.specs.Record.{records}
use Rattle.library.specs.Store.{body_of, held}
use Rattle.library.specs.StoreLaws.{Stores}
use Rattle.printer.specs.Order.{StoreChange, unchanged, storing, store_after, Obeys, left, no_strips, jet_number, jet_in, with_jet_in}
use Rattle.printer.specs.Change.{parameters_in, address_in, edited_jet, update_fields, updated_head}
use Rattle.printer.specs.Messages.{valid_store, selected_jet, shown}
use Rattle.printer.specs.Print.{ready, strips, values, counted_jets}
use Rattle.printer.specs.Receive.{Handed, Outcome, outcome, kept, obeyed, order, refusal, silent, answer_size, strips_size}
use Rattle.printer.specs.Single.{HandedByte, joined_by, single, taken}
use Rattle.frame.specs.Holding.{buffer_behind, holding_behind, is_holding}
use Rattle.frame.specs.declared.holding.Holding.{Holding}
use Rattle.frame.specs.declared.holding.Holding.TheVariants as holdings
use Rattle.printer.specs.Call.{Freshens, fresh, fresh_tests, set_clock, set_date_change, tick_clock}
use Rattle.calendar.specs.declared.clock.Clock.{Clock}
use Rattle.calendar.specs.declared.date_change.TimeOfDay.{TimeOfDay}

-- ---- Calls.
-- A call of the box: bytes handed in with a store and buffers of some sizes, a single byte with what is held before it, a clock or a date
-- change to be set, or a second that passes. 02, Wish 1: "a fresh printer starts with any store, and another may be lent from call to call";
-- so may another holding.
pub data Call : Type 0 where
  hand_in : Handed → Call
  byte_comes : HandedByte → Call
  clock_set : Clock → Call
  date_change_set : TimeOfDay → Call
  second_passes : Call

-- The state behind a call, and behind a list of calls.
abbrev pub after : List ℕ → Call → List ℕ
after m (hand_in h) = kept (outcome m h) m
after m (byte_comes h) = kept (single m h) m
after m (clock_set c) = left (set_clock m c) m
after m (date_change_set t) = left (set_date_change m t) m
after m second_passes = left (tick_clock m) m

abbrev pub after_all : List ℕ → List Call → List ℕ
after_all m [] = m
after_all m (c ∷ calls) = after_all (after m c) calls

-- Bytes handed in with a store and buffers of the stated size.
abbrev pub full : List ℕ → List ℕ → Handed
full store s = record { bytes = s; store = store; answer_room = answer_size; strip_room = strips_size }

-- ---- Demand 1: "a bad state, a short buffer or a bad frame gets its number; the first two take in nothing; a refused frame is answered
-- NACK alone and leaves the state as it was."
-- With a bad state or a short buffer nothing is consumed, written or changed.
pub record Untouched (m : List ℕ) (o : Outcome) (number : ℕ) : Type 0 where
  pub gets : o.number ≡ number
  pub nowhere : o.place ≡ None
  pub takes : o.consumed ≡ 0
  pub writes : o.answer ≡ []
  pub prints : o.strips ≡ no_strips
  pub stays : kept o m ≡ m
  pub stores : o.store ≡ unchanged

abbrev pub BadState : Type 0
BadState =
    (m : List ℕ) (h : Handed) → both (valid_state m) (valid_store h.store) ≡ false → Untouched m (outcome m h) 1

-- So it is where the clock or the date change is set and where a second passes: 1, and no byte changes; and a fresh printer wants bytes of a state's size.
pub record OtherCalls (m : List ℕ) : Type 0 where
  pub clock_set : (c : Clock) (r : Given) (m' : List ℕ) → valid_state m ≡ false → Obeys (set_clock m c) m r m' → (r ≡ plain 1) × (m' ≡ m)
  pub date_change_set :
      (t : TimeOfDay) (r : Given) (m' : List ℕ) → valid_state m ≡ false →
      Obeys (set_date_change m t) m r m' → (r ≡ plain 1) × (m' ≡ m)
  pub second_passes : (r : Given) (m' : List ℕ) → valid_state m ≡ false → Obeys (tick_clock m) m r m' → (r ≡ plain 1) × (m' ≡ m)
  pub fresh :
      (model : ℕ) (c : Clock) (r : Given) (m' : List ℕ) → eqb (length m) state_size ≡ false →
      Freshens m model c r m' → (r ≡ plain 1) × (m' ≡ m)

abbrev pub BadStateElsewhere : Type 0
BadStateElsewhere = (m : List ℕ) → OtherCalls m

abbrev pub ShortBuffer : Type 0
ShortBuffer =
    (m : List ℕ) (h : Handed) → valid_state m ≡ true → valid_store h.store ≡ true →
    both (leb 554 h.answer_room) (leb 6144 h.strip_room) ≡ false →
    Untouched m (outcome m h) 2

-- 02, Wish 6: "1 also for a holding that no burst leaves, then 2; both leave the byte untaken", and what is held and its buffer as they were.
pub record UntouchedByte (m : List ℕ) (h : HandedByte) (number : ℕ) : Type 0 where
  pub untouched : Untouched m (single m h) number
  pub holding : holding_behind h.holding (single m h).number ≡ h.holding
  pub buffer : buffer_behind h.holding h.buffer h.byte (single m h).number ≡ h.buffer

abbrev pub BadByte : Type 0
BadByte =
    (m : List ℕ) (h : HandedByte) →
    both (valid_state m) (both (valid_store h.store) (is_holding h.holding h.buffer)) ≡ false →
    UntouchedByte m h 1

abbrev pub ShortForByte : Type 0
ShortForByte =
    (m : List ℕ) (h : HandedByte) →
    valid_state m ≡ true → valid_store h.store ≡ true → is_holding h.holding h.buffer ≡ true →
    both (leb 554 h.answer_room) (leb 6144 h.strip_room) ≡ false →
    UntouchedByte m h 2

-- A refused frame or update is answered 15h alone, and state and store stay; what is not whole is not answered.
abbrev pub RefusedStays : Type 0
RefusedStays =
    (m : List ℕ) (h : Handed) → ((outcome m h).number ≡ 0 → ⊥) →
    (kept (outcome m h) m ≡ m)
    × ((outcome m h).store ≡ unchanged)
    × ((outcome m h).strips ≡ no_strips)
    × ((outcome m h).answer ≡ pick (leb (outcome m h).number 3) [] (0x15 ∷ []))

-- ---- Demand 2: "In a valid state with buffers of the stated size, a frame is acknowledged exactly when the rules accept it, and then has
-- exactly the written effect".
-- What is handed in passes if it is a 05h, or an update or a sound frame all of whose tests hold.
abbrev pub passes : Printer → List ℕ → List ℕ → Received → Bool
passes p store s Partial = false
passes p store s (Refused why consumed) = false
passes p store s (Misfit why identifier n consumed) = false
passes p store s Enquiry = true
passes p store s (Update n consumed) = all (update_fields p (take n (drop 1 s))).tests
passes p store s (Frame identifier n consumed) = all (order p store identifier (take n (drop 3 s))).tests

abbrev pub AcknowledgedExactly : Type 0
AcknowledgedExactly =
    (m store s : List ℕ) → valid_state m ≡ true → valid_store store ≡ true →
    ((outcome m (full store s)).number ≡ 0) ↔ (passes (printer_of m) store s (received s) ≡ true)

-- The characters of the fields of a jet's message, in order.
abbrev pub letters : Printer → ℕ → List ℕ
letters p jet = tree_letters (tree_of (message (jet_at p jet)))

-- What an update gets, apart from its tests: its number by how many characters the fields on head 1 have. 01, Numbers: 11 "no field
-- position on head 1"; 02, Wish 3: 18 unless it has "exactly as many"; 01, Numbers: 13 "an update byte is no character".
abbrev pub update_number : ℕ → List ℕ → ℕ
update_number positions text =
    pick (eqb positions 0) 11 (pick (eqb (length text) positions) (pick (all_characters text) 0 13) 18)

-- What is true of every update on the line, alone or with bytes behind it: of the state, the text and what comes of it.
abbrev pub OfUpdates : (List ℕ → List ℕ → Outcome → Type 0) → Type 0
OfUpdates P =
    (m store text rest : List ℕ) →
    valid_state m ≡ true →
    valid_store store ≡ true →
    length text ≤ 1022 →
    has 0x03 text ≡ false →
    P m text (outcome m (full store (0x02 ∷ text ++ (0x03 ∷ rest))))

-- All bytes between 02h and 03h count, characters or not, and with every number it is consumed through its 03h.
abbrev pub UpdateNumbered : Type 0
UpdateNumbered =
    OfUpdates
    (λ m text o.
    (o.number ≡ update_number (length (letters (printer_of m) 1) + length (letters (printer_of m) 2)) text)
    × (o.consumed ≡ length text + 2))

-- 02, Wish 4: "12 and 13 carry the first offending address or symbol index, from 0": of an update its characters count through, jet 2's
-- behind jet 1's.
abbrev pub UpdateTellsWhere : Type 0
UpdateTellsWhere = OfUpdates (λ m text o. o.number ≡ 13 → (i : ℕ) × (o.place ≡ Some i) × FirstOther text i)

-- 02, Wish 4: "Refusal 10 shall carry a place in the content", which begins behind the jet of 0Ah, and behind the 38 bytes of jet or number
-- and parameters of 0Ch and 1Ch.
abbrev pub content_in : ℕ → List ℕ → List ℕ
content_in identifier d = pick (eqb identifier 0x0A) (drop 1 d) (drop 38 d)

-- Of a frame: 10 has the first byte with which no good content can begin, 12 the first address that is no character of the message's tree,
-- 13 the first of the symbols that is no character.
pub record TellsWhere (p : Printer) (identifier : ℕ) (d : List ℕ) (o : Outcome) : Type 0 where
  pub ten : o.number ≡ 10 → (i : ℕ) × (o.place ≡ Some i) × TenAt (content_in identifier d) i
  pub twelve :
      o.number ≡ 12 →
      (i : ℕ) × (o.place ≡ Some i) × FirstAstray (message (jet_in p d)) (address_in d) (length (drop 3 d)) i
  pub thirteen : o.number ≡ 13 → (i : ℕ) × (o.place ≡ Some i) × FirstOther (drop 3 d) i

abbrev pub FrameTellsWhere : Type 0
FrameTellsWhere =
    (m store s : List ℕ) (identifier n consumed : ℕ) →
    valid_state m ≡ true →
    valid_store store ≡ true →
    received s ≡ Frame identifier n consumed →
    TellsWhere (printer_of m) identifier (take n (drop 3 s)) (outcome m (full store s))

-- No other number has a place, whatever is handed in.
abbrev pub NowhereElse : Type 0
NowhereElse =
    (m : List ℕ) (h : Handed) → has (outcome m h).number (10 ∷ 12 ∷ 13 ∷ []) ≡ false → (outcome m h).place ≡ None

-- The message that a number in the data stands for: 02, Wish 1, 40h has "jet, number", and the body is "37 parameter bytes, content".
abbrev pub selected_in : List ℕ → List ℕ → List ℕ
selected_in store d = body_of (get_or d 1 0) (records store)

-- The state, the frame behind the 06h, the strips and what is put into the store that each identifier leads to, where it passes.
abbrev pub printer_after : Printer → List ℕ → ℕ → List ℕ → Printer
printer_after p store identifier d =
    pick (eqb identifier 0x0A) (with_jet_in p d (with_message (jet_in p d) (drop 1 d)))
    (pick (eqb identifier 0x0B) (with_jet_in p d (with_parameters (jet_in p d) (parameters_in d)))
    (pick (eqb identifier 0x0C)
    (with_jet_in p d (with_parameters (with_message (jet_in p d) (drop 38 d)) (parameters_in d)))
    (pick (eqb identifier 0x40)
    (with_jet_in p d (with_parameters (with_message (jet_in p d) (drop 37 (selected_in store d))) (take 37 (selected_in store d))))
    (pick (eqb identifier 0x42) (with_jet_in p d (edited_jet (jet_in p d) (address_in d) (drop 3 d)))
    (pick (eqb identifier 0x94) (counted_jets p) p)))))

abbrev pub frame_after : Printer → ℕ → List ℕ → List ℕ
frame_after p identifier d =
    pick (eqb identifier 0x39) (frame 0x39 (counter_text (jet_in p d).counter))
    (pick (eqb identifier 0x43) (frame 0x43 (parameters (jet_in p d) ++ message (jet_in p d)))
    (pick (eqb identifier 0x52) (frame 0x52 (table_text p.date_change))
    (pick (eqb identifier 0xD6) (frame 0x9C (clock_text p.clock)) [])))

abbrev pub strips_after : Printer → ℕ → List (List ℕ)
strips_after p identifier = pick (eqb identifier 0x94) (strips p) no_strips

abbrev pub change_after : ℕ → List ℕ → StoreChange
change_after identifier d = pick (eqb identifier 0x1C) (storing (get_or d 0 0) (drop 1 d)) unchanged

-- "and then has exactly the written effect, answer and strip included": where what is handed in passes, this is the outcome.
pub record Effect (o : Outcome) (consumed : ℕ) (frame : List ℕ) (strips : List (List ℕ)) (p : Printer) (change : StoreChange) : Type 0 where
  pub acknowledged : o.number ≡ 0
  pub nowhere : o.place ≡ None
  pub takes : o.consumed ≡ consumed
  pub answers : o.answer ≡ 0x06 ∷ frame
  pub prints : o.strips ≡ strips
  pub becomes : o.printer ≡ p
  pub stores : o.store ≡ change

abbrev pub HasEffect : Printer → List ℕ → List ℕ → Received → Outcome → Type 0
HasEffect p store s Partial o = ⊥
HasEffect p store s (Refused why consumed) o = ⊥
HasEffect p store s (Misfit why identifier n consumed) o = ⊥
HasEffect p store s Enquiry o = Effect o 1 [] no_strips p unchanged
HasEffect p store s (Update n consumed) o = Effect o consumed [] no_strips (updated_head p (take n (drop 1 s))) unchanged
HasEffect p store s (Frame identifier n consumed) o =
    Effect
    o
    consumed
    (frame_after p identifier (take n (drop 3 s)))
    (strips_after p identifier)
    (printer_after p store identifier (take n (drop 3 s)))
    (change_after identifier (take n (drop 3 s)))

abbrev pub ExactEffect : Type 0
ExactEffect =
    (m store s : List ℕ) → valid_state m ≡ true → valid_store store ≡ true → passes (printer_of m) store s (received s) ≡ true →
    HasEffect (printer_of m) store s (received s) (outcome m (full store s))

-- The state's bytes are then those of the printer that it becomes.
abbrev pub EffectKept : Type 0
EffectKept = (m : List ℕ) (h : Handed) → (outcome m h).number ≡ 0 → kept (outcome m h) m ≡ bytes_of (outcome m h).printer

-- 02, Wish 6: demands 2 and 3 speak "of frames that begin where an identifier is expected (while it drops, none is), and here of a holding that
-- some burst leaves": then what comes of a byte is what comes of all that is held with it, handed in together; the byte is consumed. While all
-- is dropped it gets 3, and nothing comes of it.
pub record AsWhole (m : List ℕ) (h : HandedByte) : Type 0 where
  pub held :
      (n : ℕ) → h.holding ≡ holdings.Held n →
      single m h ≡ taken (outcome m (full h.store (joined_by n h.buffer h.byte)))
  pub dropped : h.holding ≡ holdings.Dropping → single m h ≡ taken (silent (printer_of m) 3)

abbrev pub ByteAsWhole : Type 0
ByteAsWhole =
    (m : List ℕ) (h : HandedByte) →
    valid_state m ≡ true → valid_store h.store ≡ true → is_holding h.holding h.buffer ≡ true →
    554 ≤ h.answer_room → 6144 ≤ h.strip_room →
    AsWhole m h

-- The calls that are handed no bytes of the line have exactly their effect too. 01, Parameters, counter, clock: "It moves by a call per second",
-- "It may be set to any valid moment"; 02, Wish 5: "A call sets HHMM". Each sets what it is for, and every other part stays.
pub record SetsAlone (p q : Printer) (c : Clock) (t : TimeOfDay) : Type 0 where
  pub model : q.model ≡ p.model
  pub clock : q.clock ≡ c
  pub date_change : q.date_change ≡ t
  pub jets : q.jets ≡ p.jets

pub record Sets (m : List ℕ) : Type 0 where
  pub clock_set :
      (c : Clock) → is_real c ≡ true →
      SetsAlone (printer_of m) (printer_of (after m (clock_set c))) c (printer_of m).date_change
  pub date_change_set :
      (t : TimeOfDay) → is_time t ≡ true →
      SetsAlone (printer_of m) (printer_of (after m (date_change_set t))) (printer_of m).clock t
  pub second_passes :
      SetsAlone (printer_of m) (printer_of (after m second_passes)) (tick (printer_of m).clock) (printer_of m).date_change

abbrev pub CallsSet : Type 0
CallsSet = (m : List ℕ) → valid_state m ≡ true → AllBytes m → Sets m

-- Buffers larger than the stated size change nothing.
abbrev pub RoomEnough : Type 0
RoomEnough =
    (m : List ℕ) (h : Handed) → 554 ≤ h.answer_room → 6144 ≤ h.strip_room → outcome m h ≡ outcome m (full h.store h.bytes)

-- "What the frame builder writes, the box reads back as the same identifier and data", whatever stands behind it: that identifier and
-- data are obeyed, or refused with 7 where the table wants another length; the frame is consumed; and only 7 to 13, 16 and 17 can follow.
pub record ReadAsBuilt (p : Printer) (store : List ℕ) (identifier : ℕ) (d : List ℕ) (o : Outcome) : Type 0 where
  pub handled :
      o ≡
      pick
      (fits (size_of identifier) (length d))
      (obeyed p (order p store identifier d) (length d + 4))
      (refusal p (plain 7) (length d + 4))
  pub takes : o.consumed ≡ length d + 4
  pub numbers :
      (o.number ≡ 0 → ⊥) → has o.number (7 ∷ 8 ∷ 9 ∷ 10 ∷ 11 ∷ 12 ∷ 13 ∷ 16 ∷ 17 ∷ []) ≡ true

abbrev pub BuiltReadAsBuilt : Type 0
BuiltReadAsBuilt =
    (m store before : List ℕ) (identifier : ℕ) (d : List ℕ) (n : ℕ) (after rest : List ℕ) →
    valid_state m ≡ true →
    valid_store store ≡ true →
    Builds before identifier d (Ok n) after →
    ReadAsBuilt (printer_of m) store identifier d (outcome m (full store (take n after ++ rest)))

-- ---- The store. 02, Wish 1: storing "leaves the store well formed", as does every other call that is lent it.
abbrev pub StoreStays : Type 0
StoreStays =
    (m : List ℕ) (h : Handed) → valid_store h.store ≡ true →
    valid_store (store_after (outcome m h).store h.store) ≡ true

-- An accepted 1Ch: every other record is there as it was, byte for byte and in its order, and the new one, found under its number, is last.
abbrev pub StoredLast : Type 0
StoredLast =
    (m store s : List ℕ) (n consumed : ℕ) →
    valid_state m ≡ true →
    valid_store store ≡ true →
    received s ≡ Frame 0x1C n consumed →
    (outcome m (full store s)).number ≡ 0 →
    Stores
    store
    (get_or (take n (drop 3 s)) 0 0)
    (drop 1 (take n (drop 3 s)))
    (store_after (outcome m (full store s)).store store)

-- What the approval screen is shown for a number is the message that a jet holds which selects it; for an empty number it is the content
-- that was lent.
pub record ShownAs (store current : List ℕ) (n : ℕ) : Type 0 where
  pub selected :
      (j : Jet) → held n (records store) ≡ true → shown store current n ≡ message (selected_jet j (body_of n (records store)))
  pub empty : held n (records store) ≡ false → shown store current n ≡ current

abbrev pub ShownAsSelected : Type 0
ShownAsSelected = (store current : List ℕ) (n : ℕ) → ShownAs store current n

-- ---- Demand 3: "From a fresh printer, in any order of calls".
abbrev pub fresh_state : ℕ → Clock → List ℕ
fresh_state model clock = bytes_of (fresh model clock)

abbrev pub is_fresh : ℕ → Clock → Bool
is_fresh model clock = all (fresh_tests model clock)

-- The whole message that a call brings a jet: the content of an accepted 0Ah or 0Ch for it, or of the record that an accepted 40h selects
-- (02, Wish 1: "a selection counts as a whole message accepted"), else none.
pub data Brought : Type 0 where
  nothing : Brought
  whole : List ℕ → Brought

abbrev pub brought_by : ℕ → List ℕ → ℕ → List ℕ → Brought
brought_by jet store identifier d =
    pick (eqb (jet_number d) jet)
    (pick (eqb identifier 0x0A) (whole (drop 1 d))
    (pick (eqb identifier 0x0C) (whole (drop 38 d))
    (pick (eqb identifier 0x40) (whole (drop 37 (selected_in store d))) nothing)))
    nothing

abbrev pub brought_in : ℕ → List ℕ → List ℕ → Received → Brought
brought_in jet store s Partial = nothing
brought_in jet store s (Refused why consumed) = nothing
brought_in jet store s (Misfit why identifier n consumed) = nothing
brought_in jet store s Enquiry = nothing
brought_in jet store s (Update n consumed) = nothing
brought_in jet store s (Frame identifier n consumed) = brought_by jet store identifier (take n (drop 3 s))

-- With a byte: what is held and the byte behind it; while all is dropped nothing.
abbrev pub brought_with : ℕ → HandedByte → Holding → Brought
brought_with jet h (holdings.Held n) = brought_in jet h.store (joined_by n h.buffer h.byte) (received (joined_by n h.buffer h.byte))
brought_with jet h holdings.Dropping = nothing

abbrev pub brought : ℕ → List ℕ → Call → Brought
brought jet m (hand_in h) =
    pick (eqb (outcome m h).number 0) (brought_in jet h.store h.bytes (received h.bytes)) nothing
brought jet m (byte_comes h) = pick (eqb (single m h).number 0) (brought_with jet h h.holding) nothing
brought jet m (clock_set c) = nothing
brought jet m (date_change_set t) = nothing
brought jet m second_passes = nothing

-- "the last whole message accepted for that jet": what the calls bring, the latest, behind what was there before them.
abbrev pub newer : Brought → List ℕ → List ℕ
newer nothing w = w
newer (whole c) w = c

abbrev pub last_whole : ℕ → List ℕ → List Call → List ℕ → List ℕ
last_whole jet m [] w = w
last_whole jet m (c ∷ calls) w = last_whole jet (after m c) calls (newer (brought jet m c) w)

-- "each message held is one that the rules read in exactly one way, with the lines, blocks, fonts and item kinds of the last whole
-- message accepted for that jet".
pub record Held (c last : List ℕ) : Type 0 where
  pub content : is_content c ≡ true
  pub tree : Tree
  pub good : good_tree tree ≡ true
  pub written : encode tree ≡ c
  pub only : (u : Tree) → good_tree u ≡ true → encode u ≡ c → u ≡ tree
  pub outlines : outline tree ≡ outline (tree_of last)

-- The jet of a number behind calls.
abbrev pub jet_after : ℕ → Clock → List Call → ℕ → Jet
jet_after model clock calls jet = jet_at (printer_of (after_all (fresh_state model clock) calls)) jet

abbrev pub MessagesHeld : Type 0
MessagesHeld =
    (model : ℕ) (clock : Clock) (calls : List Call) (jet : ℕ) →
    is_fresh model clock ≡ true →
    has_jet model jet ≡ true →
    has_message (jet_after model clock calls jet) ≡ true →
    Held (message (jet_after model clock calls jet)) (last_whole jet (fresh_state model clock) calls [])

-- A jet that no whole message was accepted for has none.
abbrev pub NothingHeld : Type 0
NothingHeld =
    (model : ℕ) (clock : Clock) (calls : List Call) (jet : ℕ) →
    is_fresh model clock ≡ true →
    has_jet model jet ≡ true →
    (has_message (jet_after model clock calls jet) ≡ false) ↔ (last_whole jet (fresh_state model clock) calls [] ≡ [])

-- What a jet is besides its message: its parameters, and how far it has counted.
pub record SameButMessage (j k : Jet) : Type 0 where
  pub general : k.general ≡ j.general
  pub counter : k.counter ≡ j.counter

-- "edits and updates change only the characters they address": an accepted 42h leaves type, clock, date change and every other jet, and of its own jet
-- all but the bytes from the address on, as many as there are symbols; and these are characters of the message's tree.
pub record Edited (p q : Printer) (d : List ℕ) : Type 0 where
  pub model : q.model ≡ p.model
  pub clock : q.clock ≡ p.clock
  pub date_change : q.date_change ≡ p.date_change
  pub others : (jet : ℕ) → within 1 4 jet ≡ true → (jet ≡ jet_number d → ⊥) → jet_at q jet ≡ jet_at p jet
  pub elsewhere :
      (i : ℕ) → both (leb (address_in d) i) (ltb i (address_in d + length (drop 3 d))) ≡ false →
      get_or (message (jet_at q (jet_number d))) i 0 ≡ get_or (message (jet_at p (jet_number d))) i 0
  pub characters :
      (i : ℕ) → both (leb (address_in d) i) (ltb i (address_in d + length (drop 3 d))) ≡ true →
      is_position (get_or (tree_marks (tree_of (message (jet_at p (jet_number d))))) i Structure) ≡ true
  pub as_long : length (message (jet_at q (jet_number d))) ≡ length (message (jet_at p (jet_number d)))
  pub rest : SameButMessage (jet_at p (jet_number d)) (jet_at q (jet_number d))

abbrev pub EditsOnlyAddressed : Type 0
EditsOnlyAddressed =
    (m store s : List ℕ) (n consumed : ℕ) →
    valid_state m ≡ true →
    valid_store store ≡ true →
    received s ≡ Frame 0x42 n consumed →
    (outcome m (full store s)).number ≡ 0 →
    Edited (printer_of m) (outcome m (full store s)).printer (take n (drop 3 s))

-- An accepted update leaves type, clock, date change and head 2, and on head 1 all but the characters of external fields. These, jet 1 before jet 2,
-- become the text, each its own character; 02, Wish 3: they are "exactly as many", so that none is left over and none is lost.
pub record Updated (p q : Printer) (text : List ℕ) : Type 0 where
  pub model : q.model ≡ p.model
  pub clock : q.clock ≡ p.clock
  pub date_change : q.date_change ≡ p.date_change
  pub second_head : (jet : ℕ) → within 3 4 jet ≡ true → jet_at q jet ≡ jet_at p jet
  pub elsewhere :
      (jet i : ℕ) → within 1 2 jet ≡ true →
      is_field_position (get_or (tree_marks (tree_of (message (jet_at p jet)))) i Structure) ≡ false →
      get_or (message (jet_at q jet)) i 0 ≡ get_or (message (jet_at p jet)) i 0
  pub as_many : length text ≡ length (letters p 1) + length (letters p 2)
  pub lands : letters q 1 ++ letters q 2 ≡ text
  pub same_fields : (jet : ℕ) → within 1 2 jet ≡ true → length (letters q jet) ≡ length (letters p jet)
  pub as_long : (jet : ℕ) → within 1 4 jet ≡ true → length (message (jet_at q jet)) ≡ length (message (jet_at p jet))
  pub rest : (jet : ℕ) → within 1 4 jet ≡ true → SameButMessage (jet_at p jet) (jet_at q jet)

abbrev pub UpdatesOnlyFields : Type 0
UpdatesOnlyFields =
    (m store s : List ℕ) (n consumed : ℕ) →
    valid_state m ≡ true →
    valid_store store ≡ true →
    received s ≡ Update n consumed →
    (outcome m (full store s)).number ≡ 0 →
    Updated (printer_of m) (outcome m (full store s)).printer (take n (drop 1 s))

-- "a sound print frame is refused exactly when a jet has no message or no parameters, and otherwise every strip runs to its end mark with
-- those same lines and blocks, each item replaced by what it stands for then." 02, Wish 1: it "asks for a well-formed store too".
-- A print frame, alone or with bytes behind it.
abbrev pub print_frame : List ℕ → List ℕ
print_frame rest = 0x94 ∷ 0x00 ∷ 0x00 ∷ 0x94 ∷ rest

abbrev pub PrintRefusedExactly : Type 0
PrintRefusedExactly =
    (m store rest : List ℕ) → valid_state m ≡ true → valid_store store ≡ true →
    (outcome m (full store (print_frame rest))).number ≡ pick (ready (printer_of m)) 0 11

-- The strip of a jet, with the lines and blocks of a content. 02, Wish 5: "At times before HHMM, the day and month in date items are those of
-- the preceding calendar day".
pub record Printed (p : Printer) (jet : ℕ) (content strip : List ℕ) : Type 0 where
  pub ends : (front : List ℕ) × (strip ≡ front ++ (0x0D ∷ []))
  pub same_shape : shape (tree_of strip) ≡ shape (tree_of content)
  pub moment : Clock
  pub stands : StandsFor p.date_change p.clock moment
  pub items : strip ≡ encode (resolved (values (entries moment) (jet_at p jet)) (tree_of (message (jet_at p jet))))

abbrev pub StripsPrinted : Type 0
StripsPrinted =
    (m store rest : List ℕ) (jet : ℕ) →
    valid_state m ≡ true →
    valid_store store ≡ true →
    ready (printer_of m) ≡ true →
    has_jet (printer_of m).model jet ≡ true →
    Printed
    (printer_of m)
    jet
    (message (jet_at (printer_of m) jet))
    (get_or (outcome m (full store (print_frame rest))).strips (jet - 1) [])

-- Every state that is reached is valid, so that all of this holds of it.
abbrev pub ReachedValid : Type 0
ReachedValid =
    (model : ℕ) (clock : Clock) (calls : List Call) → is_fresh model clock ≡ true →
    valid_state (after_all (fresh_state model clock) calls) ≡ true

-- The whole of it, from the calls to the strip: behind any calls a print frame is refused exactly when a jet of the printer has no message
-- or no parameters; otherwise the strip of each jet "runs to its end mark with those same lines and blocks" of "the last whole message
-- accepted for that jet", and is the message held, which is that one but for its characters, with "each item replaced by what it stands
-- for at that moment".
pub record AsAccepted (p : Printer) (jet : ℕ) (last strip : List ℕ) : Type 0 where
  pub held : Held (message (jet_at p jet)) last
  pub printed : Printed p jet last strip

pub record PrintsAccepted (model : ℕ) (p : Printer) (o : Outcome) (last : ℕ → List ℕ) : Type 0 where
  pub gets : o.number ≡ pick (ready p) 0 11
  pub prints :
      (jet : ℕ) → ready p ≡ true → has_jet model jet ≡ true → AsAccepted p jet (last jet) (get_or o.strips (jet - 1) [])

abbrev pub PrintedAsAccepted : Type 0
PrintedAsAccepted =
    (model : ℕ) (clock : Clock) (calls : List Call) (store rest : List ℕ) → is_fresh model clock ≡ true → valid_store store ≡ true →
    PrintsAccepted
    model
    (printer_of (after_all (fresh_state model clock) calls))
    (outcome (after_all (fresh_state model clock) calls) (full store (print_frame rest)))
    (λ (jet : ℕ). last_whole jet (fresh_state model clock) calls [])
