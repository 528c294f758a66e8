-- Every contract has one outcome: each field of the answer is the rule's, and so are the bytes.
use Prim.Native.Nat.{ℕ}
use mathlib.Core.List.{List}
use mathlib.Core.Path.{◌≡◌, sym, ◌∙◌, ap}
use Rattle.std.proofs.Common.{Result, Ok, Err}
use Rattle.frame.specs.declared.given.Refusal.{Refusal}
use Rattle.frame.proofs.Unique.{outcome_unique, refusal_unique}
use Rattle.printer.specs.Unique.{FreshensUnique, ObeysUnique, SetClockUnique, SetDateChangeUnique, TickUnique, ReceivesUnique, TakesByteUnique, ShowsUnique, ShownUnique}
use Rattle.frame.specs.declared.holding.Holding.{Holding}
use Rattle.printer.specs.Receive.{Fulfils, Outcome}
use Rattle.printer.specs.declared.answer.Answered.{Answered}
use Rattle.printer.specs.declared.single.Taken.{Taken}

pub freshens_unique : FreshensUnique
freshens_unique m model clock r r' m' m'' p q = (outcome_unique _ r r' p.gives q.gives, p.state ∙ sym q.state)

pub obeys_unique : ObeysUnique
obeys_unique o m r r' m' m'' p q = (p.gives ∙ sym q.gives, p.state ∙ sym q.state)

pub set_clock_unique : SetClockUnique
set_clock_unique m clock r r' m' m'' p q = (outcome_unique _ r r' p.gives q.gives, p.state ∙ sym q.state)

pub set_date_change_unique : SetDateChangeUnique
set_date_change_unique m time r r' m' m'' p q = (outcome_unique _ r r' p.gives q.gives, p.state ∙ sym q.state)

pub tick_unique : TickUnique
tick_unique m r r' m' m'' p q = (outcome_unique _ r r' p.gives q.gives, p.state ∙ sym q.state)

answered : {o o' : Result Unit Refusal} {c a c' a' : ℕ} {s s' : List ℕ} → o ≡ o' → c ≡ c' → a ≡ a' → s ≡ s'
    → ◌≡◌ {A = Answered} (record { outcome = o; consumed = c; answer = a; strips = s }) (record { outcome = o'; consumed = c'; answer = a'; strips = s' })
answered e f g h = cc

-- Of every outcome.
pub fulfils_unique : {o : Outcome} {m store answer strips : List ℕ} {r r' : Answered} {m' m'' store' store'' answer' answer'' strips' strips'' : List ℕ}
    → Fulfils o m store answer strips r m' store' answer' strips' → Fulfils o m store answer strips r' m'' store'' answer'' strips''
    → (r ≡ r') × (m' ≡ m'') × (store' ≡ store'') × (answer' ≡ answer'') × (strips' ≡ strips'')
fulfils_unique {r = r} {r' = r'} h k =
    let a = h.meets in
    let b = k.meets in (
      answered (outcome_unique _ r.outcome r'.outcome a.gives b.gives) (a.consumes ∙ sym b.consumes) (a.answers ∙ sym b.answers) (a.prints ∙ sym b.prints),
      a.leaves ∙ sym b.leaves,
      h.stores ∙ sym k.stores,
      a.answer_bytes ∙ sym b.answer_bytes,
      a.strip_bytes ∙ sym b.strip_bytes,
    )

pub receives_unique : ReceivesUnique
receives_unique m store s answer strips r r' m' m'' store' store'' answer' answer'' strips' strips'' h k = fulfils_unique h.fulfils k.fulfils

pub taken : {a a' : Answered} {h h' : Holding} → a ≡ a' → h ≡ h' → ◌≡◌ {A = Taken} (record { answered = a; holding = h }) (record { answered = a'; holding = h' })
taken e f = cc

pub takes_byte_unique : TakesByteUnique
takes_byte_unique m store holding buffer byte answer strips r r' m' m'' store' store'' buffer' buffer'' answer' answer'' strips' strips'' h k =
    let a = h.takes in
    let b = k.takes in
    let u = fulfils_unique a.fulfils b.fulfils in
    (taken u.0 (a.holds ∙ sym b.holds), u.1, u.2, a.buffer_bytes ∙ sym b.buffer_bytes, u.3, u.4)

pub shows_unique : ShowsUnique
shows_unique store current n refused refused' r r' p q = (p.gives ∙ sym q.gives, p.bytes ∙ sym q.bytes)

pub shown_unique : ShownUnique
shown_unique store current n (Ok part) (Ok part') p q = ap Ok (p.bytes ∙ sym q.bytes)
shown_unique store current n (Err why) (Err why') p q = ap Err (refusal_unique _ why why' p.gives q.gives)
shown_unique store current n (Ok part) (Err why) p q =
    let same : ◌≡◌ {A = Result Unit Refusal} (Ok tt) (Err why) = outcome_unique _ (Ok tt) (Err why) p.gives q.gives in (cc)
shown_unique store current n (Err why) (Ok part) p q =
    let same : ◌≡◌ {A = Result Unit Refusal} (Err why) (Ok tt) = outcome_unique _ (Err why) (Ok tt) p.gives q.gives in (cc)
