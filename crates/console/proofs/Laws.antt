-- What the program's proofs cite: the start state, the line of a call over a text's front, and a walk that goes on.
use Prim.Native.Nat.{ℕ, ◌+◌, ◌-◌, ◌<◌, ◌≤◌}
use mathlib.Core.Bool.{Bool, true, false, false≢true}
use mathlib.Core.Logic.{inl, inr}
use mathlib.Core.List.{List, [], ◌∷◌, ◌++◌}
use mathlib.Core.Path.{◌≡◌, refl, sym, subst, ◌∙◌, ap, ap₂}
use native.Mathlib.Omega.{arith}
use borrow.Rule.Slice.PartMut.{mid_of}
use borrow.Author.Tests.{eq-eqb, ne_eqb, le-ltb, eqb-true}
use lib.Dec.{eqb}
use lib.ListN.{length, take, drop, length-drop}
use lib.Seq.{take-append_seam, take_all}
use Rattle.frame.specs.declared.given.Given.{Given}
use Rattle.frame.specs.Given.{given_in}
use Rattle.frame.specs.declared.given.Refusal.{Refusal}
use Rattle.frame.specs.declared.given.Refusal.TheVariants.{BadState, ShortBuffer, NotWhole, TooLong, WrongCheck, UnknownIdentifier, WrongLength, NoSuchJet, NoSuchMessage, BadParameters, NoContent, NoRoom, Missing, WrongCount, NoPosition, NoCharacter, NoSuchType, NoSuchMoment}
use Rattle.line.specs.Line.{given_text, line, lined, bytes_of, longest_given, Writes}
use Rattle.line.proofs.Laws.{length_line, front_fits}
use Rattle.calendar.specs.Clock.{date, moment}
use Rattle.printer.specs.State.{state_size}
use Rattle.printer.specs.Call.{Freshens}
use Rattle.printer.specs.Order.{StoreChange, unchanged, store_after}
use Rattle.printer.specs.Receive.{Handed, Outcome, Meets, Fulfils, Receives, given_by, handed, outcome, kept}
use Rattle.printer.specs.Demands.{Call, hand_in, after, after_all, full}
use Rattle.printer.specs.declared.answer.Answered.{Answered}
use Rattle.printer.proofs.Accepting.{room_enough}
use Rattle.printer.proofs.OutcomeLaws.{answer_fits, consumes_handed_in, refusal_keeps}
use Rattle.console.specs.Console.{line_of, line_size, sized, Stand, first_stand, left, next, onward, start_state, start_store, Walks, begins, goes_on, Starts, Turns, Runs}
use Rattle.std.specs.Prelude.{Option, Some, None, Result, Ok, Err}
use Rattle.console.specs.declared.Turn.{Turn}
use Rattle.console.proofs.Consuming.{next_takes}

-- ---- The start.
pub starts : (m : List ℕ) (r : Given) (m' : List ℕ) → Freshens m 1 (moment 58 59 23 (date 29 2 24)) r m' → Starts m m'
starts m r m' f =
    record {
      state = λ e. rw (eq-eqb (length m) state_size e) at f.state;
      other = λ e. rw (ne_eqb (length m) state_size e) at f.state;
    }

-- ---- The line of a call.
pub no_line : (o : Outcome) → o.number ≡ 3 → line_of o ≡ []
no_line o e = rw (eq-eqb o.number 3 e)

pub a_line : (o : Outcome) → (o.number ≡ 3 → ⊥) → line_of o ≡ line (given_by o) o.answer
a_line o e = rw (ne_eqb o.number 3 e)

-- With buffers of the stated size.
pub met : {m store s answer strips : List ℕ} {r : Answered} {m' store' answer' strips' : List ℕ} → Receives m store s answer strips r m' store' answer' strips'
    → 554 ≤ length answer → 6144 ≤ length strips → Fulfils (outcome m (full store s)) m store answer strips r m' store' answer' strips'
met {m} {store} {s} {answer} {strips} {r} {m'} {store'} {answer'} {strips'} p a b =
    subst (λ (o : Outcome). Fulfils o m store answer strips r m' store' answer' strips') (room_enough m (handed store s answer strips) a b) p.fulfils

-- The answer lies inside its buffer, and is what the outcome says.
pub answer_inside : {o : Outcome} {m answer strips : List ℕ} {r : Answered} {m' answer' strips' : List ℕ} → Meets o m answer strips r m' answer' strips'
    → r.answer ≤ length answer'
answer_inside {o} {answer = answer} {r = r} {answer' = answer'} p = front_fits o.answer answer answer' r.answer p.answers p.answer_bytes

pub answer_taken : {o : Outcome} {m answer strips : List ℕ} {r : Answered} {m' answer' strips' : List ℕ} → Meets o m answer strips r m' answer' strips'
    → take r.answer answer' ≡ o.answer
answer_taken {o} {answer = answer} {r = r} {answer' = answer'} p =
    ap (λ (n : ℕ). take n answer') p.answers
    ∙ ap (λ (l : List ℕ). take (length o.answer) l) p.answer_bytes
    ∙ take-append_seam o.answer (drop (length o.answer) answer)

-- Number 3 is that of what is not whole, and of nothing else.
three_waits : (x : Result (Unit {0}) Refusal) → (given_in x).number ≡ 3 → x ≡ Err NotWhole
three_waits (Ok u) e = absurd (omega arith)
three_waits (Err NotWhole) e = refl
three_waits (Err BadState) e = absurd (omega arith)
three_waits (Err ShortBuffer) e = absurd (omega arith)
three_waits (Err TooLong) e = absurd (omega arith)
three_waits (Err WrongCheck) e = absurd (omega arith)
three_waits (Err UnknownIdentifier) e = absurd (omega arith)
three_waits (Err WrongLength) e = absurd (omega arith)
three_waits (Err NoSuchJet) e = absurd (omega arith)
three_waits (Err NoSuchMessage) e = absurd (omega arith)
three_waits (Err BadParameters) e = absurd (omega arith)
three_waits (Err NoRoom) e = absurd (omega arith)
three_waits (Err Missing) e = absurd (omega arith)
three_waits (Err WrongCount) e = absurd (omega arith)
three_waits (Err NoSuchType) e = absurd (omega arith)
three_waits (Err NoSuchMoment) e = absurd (omega arith)
three_waits (Err (NoContent i)) e = absurd (omega arith)
three_waits (Err (NoPosition i)) e = absurd (omega arith)
three_waits (Err (NoCharacter i)) e = absurd (omega arith)

-- Number 3: no line.
pub waits : {m store s answer strips : List ℕ} {r : Answered} {m' store' answer' strips' : List ℕ} (text : List ℕ)
    → Fulfils (outcome m (full store s)) m store answer strips r m' store' answer' strips'
    → r.outcome ≡ Err NotWhole → Turns m store s text (record { size = None; consumed = r.consumed }) m' store' text
waits {m} {store} {s} text f e =
    let o : Outcome = outcome m (full store s) in
    let p = f.meets in
    let three : o.number ≡ 3 = ap (λ (g : Given). g.number) (sym p.gives) ∙ ap (λ (x : Result (Unit {0}) Refusal). (given_in x).number) e in
    let none : [] ≡ line_of o = sym (no_line o three) in
    record {
      size = ap sized none;
      consumed = p.consumes;
      state = p.leaves;
      stores = f.stores;
      line = ap (λ (l : List ℕ). l ++ drop (length l) text) none;
    }

-- Every line has its room.
longest_line : (g : Given) (answer : List ℕ) → length (given_text g) ≤ longest_given → length answer ≤ 554 → length (line g answer) ≤ line_size
longest_line g answer z h = omega (arith, length_line g answer, z, h)

lined_there : (room : ℕ) (g : Given) (answer : List ℕ) → length (line g answer) ≤ room → lined room g answer ≡ Some (length (line g answer))
unfolding lined
lined_there room g answer h = rw (le-ltb room (length (line g answer)) h)

-- Another number: its line.
answered : (x : Handed) {m answer strips : List ℕ} {r : Answered} {m' answer' strips' : List ℕ} {text text' : List ℕ} {l : Option ℕ}
    → Meets (outcome m x) m answer strips r m' answer' strips' → line_size ≤ length text
    → Writes text (given_in r.outcome) (take r.answer answer') l text' → l ≡ Some (length (line (given_by (outcome m x)) (outcome m x).answer))
answered x {m} {r = r} {text = text} p h w =
    let o : Outcome = outcome m x in
    w.answered
    ∙ ap (lined (length text) (given_in r.outcome)) (answer_taken p)
    ∙ lined_there (length text) (given_in r.outcome) o.answer (omega (arith, longest_line (given_in r.outcome) o.answer w.short (answer_fits m x)))
    ∙ ap (λ (g : Given). Some (length (line g o.answer))) p.gives

-- How long a line is, where there is one.
sized_there : (l : List ℕ) → 1 ≤ length l → sized l ≡ Some (length l)
sized_there [] h = absurd (omega arith)
sized_there (b ∷ l) h = refl

none_never : {n : ℕ} → None ≡ Some n → ⊥
none_never {n} e = subst there e tt
  where
    there : Option ℕ → Type 0
    there None = Unit {0}
    there (Some i) = ⊥

sized_long : (l : List ℕ) {n : ℕ} → sized l ≡ Some n → 1 ≤ n
sized_long [] e = absurd (none_never e)
sized_long (b ∷ l) {n} e =
    let long : Some (length (b ∷ l)) ≡ Some n = e in
    let same : length (b ∷ l) ≡ n = cc in
    omega arith

no_size : (l : List ℕ) → None ≡ sized l → length l ≡ 0
no_size [] e = refl
no_size (b ∷ l) e = absurd (none_never e)

pub turns : {m store s answer strips : List ℕ} {r : Answered} {m' store' answer' strips' : List ℕ} {text text' : List ℕ} {l : Option ℕ}
    → Fulfils (outcome m (full store s)) m store answer strips r m' store' answer' strips' → line_size ≤ length text
    → Writes text (given_in r.outcome) (take r.answer answer') l text' → (r.outcome ≡ Err NotWhole → ⊥)
    → Turns m store s text (record { size = l; consumed = r.consumed }) m' store' text'
turns {m} {store} {s} {r = r} {answer' = answer'} {text = text} {text' = text'} {l = l} f h w z =
    let o : Outcome = outcome m (full store s) in
    let p = f.meets in
    let its : line (given_by o) o.answer ≡ line_of o =
    sym (a_line o (λ t. z (three_waits r.outcome (ap (λ (g : Given). g.number) p.gives ∙ t))))
    in
    let same : line (given_in r.outcome) (take r.answer answer') ≡ line_of o = ap₂ line p.gives (answer_taken p) ∙ its in
    let e : l ≡ Some (length (line (given_by o) o.answer)) = answered (full store s) p h w in
    record {
      size =
          e
          ∙ sym (sized_there (line (given_by o) o.answer) (omega (arith, length_line (given_by o) o.answer)))
          ∙ ap sized its;
      consumed = p.consumes;
      state = p.leaves;
      stores = f.stores;
      line =
          w.buffer
          ∙ ap (λ (q : Option ℕ). bytes_of q (given_in r.outcome) (take r.answer answer') ++ drop (length (bytes_of q (given_in r.outcome) (take r.answer answer'))) text) e
          ∙ ap (λ (x : List ℕ). x ++ drop (length x) text) same;
    }

-- What waits for more puts nothing into the store.
waits_stored : (m : List ℕ) (h : Handed) → (outcome m h).number ≡ 3 → (outcome m h).store ≡ unchanged
waits_stored m h e = (refusal_keeps m h (λ z. omega arith)).store

-- ---- The walk.
-- A place that was walked to, and the state and the store there.
pub record At (s m store : List ℕ) (place : ℕ) : Type 0 where
  pub stand : Stand
  pub walked : Walks s stand
  pub here : place ≡ stand.place
  pub state : m ≡ after_all start_state stand.calls
  pub stores : store ≡ stand.store

pub at_start : (s m store : List ℕ) → m ≡ start_state → store ≡ start_store → At s m store 0
at_start s m store e f = record { stand = first_stand; walked = begins; here = refl; state = e; stores = f }

after_snoc : (m : List ℕ) (calls : List Call) (c : Call) → after_all m (calls ++ (c ∷ [])) ≡ after (after_all m calls) c
after_snoc m [] c = refl
after_snoc m (x ∷ calls) c = after_snoc (after m x) calls c

-- No line is number 3, and only that.
waiting : (o : Outcome) → length (line_of o) ≡ 0 → o.number ≡ 3
waiting o e = go (eqb o.number 3) refl
  where
    go : (t : Bool) → eqb o.number 3 ≡ t → o.number ≡ 3
    go true h = eqb-true o.number 3 h
    go false h =
        let n : length (line (given_by o) o.answer) ≡ 0 = rw h at e in
        absurd (omega (arith, length_line (given_by o) o.answer))

stays : (o : Outcome) (m : List ℕ) → o.number ≡ 3 → kept o m ≡ m
stays o m e = rw (ne_eqb o.number 0 (λ z. omega arith))

module _ {s m store : List ℕ} {place : ℕ} (a : At s m store place) where
  -- The outcome of the next call, in the state that was walked to.
  next_there : outcome m (full store (drop place s)) ≡ next s a.stand
  next_there = rw (a.state, a.stores, a.here)

  module _ {text m' store' text' : List ℕ} {r : Turn} (t : Turns m store (drop place s) text r m' store' text') where
    heard : (r.size ≡ None → ⊥) → (next s a.stand).number ≡ 3 → ⊥
    heard z e =
        let o : Outcome = outcome m (full store (drop place s)) in
        let three : o.number ≡ 3 = ap (λ (x : Outcome). x.number) next_there ∙ e in
        z (t.size ∙ ap sized (no_line o three))

    pub goes : place < length s → (r.size ≡ None → ⊥) → At s m' store' (place + r.consumed)
    goes h z =
        let w : Stand = a.stand in
        let call : Call = hand_in (left s w) in
        record {
          stand = onward s w;
          walked = goes_on w a.walked (subst (λ (n : ℕ). n < length s) a.here h) (heard z);
          here = ap (λ (n : ℕ). place + n) (t.consumed ∙ ap (λ (x : Outcome). x.consumed) next_there) ∙ ap (λ (n : ℕ). n + (next s w).consumed) a.here;
          state = t.state ∙ ap₂ kept next_there a.state ∙ sym (after_snoc start_state w.calls call);
          stores = t.stores ∙ ap₂ (λ (x : Outcome) (l : List ℕ). store_after x.store l) next_there a.stores;
        }

    pub stops : r.size ≡ None → Runs s (Ok place) m' store'
    stops z =
        let o : Outcome = outcome m (full store (drop place s)) in
        let three : o.number ≡ 3 = waiting o (no_size (line_of o) (sym z ∙ t.size)) in
        record {
          stand = a.stand;
          walked = a.walked;
          place = a.here;
          state = t.state ∙ stays o m three ∙ a.state;
          stores = t.stores ∙ ap (λ (c : StoreChange). store_after c store) (waits_stored m (full store (drop place s)) three) ∙ a.stores;
          ended = λ _. inr (sym (ap (λ (x : Outcome). x.number) next_there) ∙ three);
        }

    -- No line is empty.
    pub has_bytes : (n : ℕ) → r.size ≡ Some n → 1 ≤ n
    has_bytes n z = sized_long (line_of (outcome m (full store (drop place s)))) (sym t.size ∙ z)

    -- A call that has a line consumes something.
    pub moves : place < length s → (r.size ≡ None → ⊥) → 1 ≤ r.consumed
    moves h z =
        subst (λ (n : ℕ). 1 ≤ n) (sym (t.consumed ∙ ap (λ (x : Outcome). x.consumed) next_there))
        (next_takes s a.stand a.walked (subst (λ (n : ℕ). n < length s) a.here h) (heard z))

  pub fails : Runs s (Err place) m store
  fails = record { stand = a.stand; walked = a.walked; place = a.here; state = a.state; stores = a.stores; ended = λ e. absurd (false≢true e) }

  pub ends : length s ≤ place → Runs s (Ok place) m store
  ends h = record { stand = a.stand; walked = a.walked; place = a.here; state = a.state; stores = a.stores; ended = λ _. inl (rw (sym a.here) h) }

-- The bytes that are left, as they are lent.
pub rest_lent : (place : ℕ) (s : List ℕ) → mid_of place (length s - place) s ≡ drop place s
rest_lent place s = take_all (length s - place) (drop place s) (simp length-drop (omega arith))

-- A call on those bytes as they are lent.
pub turned : (place : ℕ) {m store : List ℕ} (s : List ℕ) {text : List ℕ} {r : Turn} {m' store' text' : List ℕ}
    → Turns m store (mid_of place (length s - place) s) text r m' store' text' → Turns m store (drop place s) text r m' store' text'
turned place {m} {store} s {text} {r} {m'} {store'} {text'} t = subst (λ (l : List ℕ). Turns m store l text r m' store' text') (rest_lent place s) t

-- What a call consumes lies inside.
pub consumed_inside : (s : List ℕ) (place : ℕ) {m store text m' store' text' : List ℕ} {r : Turn} → Turns m store (drop place s) text r m' store' text' → place ≤ length s → place + r.consumed ≤ length s
consumed_inside s place {m} {store} t h = omega (arith, t.consumed, consumes_handed_in m (full store (drop place s)), length-drop place s)
