-- An order: what a test that fails and what tests that all hold say of it.
use Prim.Native.Nat.{ℕ, ◌+◌, ◌-◌, ◌≤◌}
use mathlib.Core.Bool.{Bool, true, false}
use mathlib.Core.List.{List, [], ◌∷◌, ◌++◌, append_assoc}
use mathlib.Core.Path.{◌≡◌, refl, sym, ◌∙◌, ap, ap₂}
use native.Mathlib.Omega.{arith}
use Rattle.std.proofs.Common.{Result, Ok, Err}
use Rattle.std.specs.Result.{IsErrAnd}
use borrow.Author.Tests.{eqb-false}
use borrow.Rule.Slice.PartMut.{mid_of, put_mid}
use lib.Dec.{eqb}
use lib.ListN.{length, take, drop, length-append, take-append-drop}
use lib.Seq.{length-take-le, take_at, drop_at}
use Rattle.frame.specs.Ground.{Test, plain, checked, given, all, over}
use Rattle.frame.specs.declared.given.Given.{Given}
use Rattle.frame.specs.Wire.{head_size}
use Rattle.frame.specs.Build as build
use Rattle.frame.specs.Given.{given_in, given_of, numbered}
use Rattle.frame.specs.declared.given.Refusal.{Refusal}
use Rattle.frame.specs.Build.{Built, frame, given_by, Answers, Lays, Wraps}
use Rattle.frame.proofs.Ground.{checked_all, laid_behind, length_over, over_under}
use Rattle.frame.proofs.Told.{frame_length, answered_fits, wrap_fits}
use Rattle.frame.proofs.Unique.{outcome_unique}
use Rattle.content.specs.Content.{Tests, content_tests, tested}
use Rattle.printer.specs.Jet.{Jet, jet_bytes}
use Rattle.printer.specs.State.{bytes_of}
use Rattle.printer.specs.Order.{Order, StoreChange, Obeys}
use Rattle.printer.specs.Change.{BecomesJet}
use Rattle.printer.specs.Messages.{ChangesStore}
use Rattle.printer.specs.Answer.{Tells}

-- ---- What is given of an answer, in the code's words and in the rules'.
pub given_numbered : {A : Type 0} (r : Result A Refusal) → given_in r ≡ given_by (numbered r)
given_numbered (Ok a) = refl
given_numbered (Err why) = refl

-- ---- A call that makes one test, and the `?` behind it.
-- No refusal's number is 0, which says that all is done.
pub refused_given : (why : Refusal) → given_of why ≡ plain 0 → ⊥
refused_given why e = never (outcome_unique (plain 0) (Err why) (Ok tt) e refl)
  where
    never : ◌≡◌ {A = Result Unit Refusal} (Err why) (Ok tt) → ⊥
    never q = cc

module _ (t : Test) {r : Result Unit Refusal} (e : given_in r ≡ given (t ∷ [])) where
  pub one_refused : {why : Refusal} → r ≡ Err why → (t.holds ≡ false) × (given_of why ≡ t.otherwise)
  one_refused {why} q = go t.holds (sym (ap given_in q) ∙ e)
    where
      go : (b : Bool) → given_of why ≡ given (record { holds = b; otherwise = t.otherwise } ∷ []) → (b ≡ false) × (given_of why ≡ t.otherwise)
      go true f = absurd (refused_given why f)
      go false f = (refl, f)

  pub one_passed : {u : Unit} → r ≡ Ok u → eqb t.otherwise.number 0 ≡ false → t.holds ≡ true
  one_passed q n = go t.holds (sym (ap given_in q) ∙ e)
    where
      go : (b : Bool) → plain 0 ≡ given (record { holds = b; otherwise = t.otherwise } ∷ []) → b ≡ true
      go true f = refl
      go false f = absurd (eqb-false t.otherwise.number 0 n (ap (λ (g : Given). g.number) (sym f)))

pub handed_up : {A : Type 0} (up : Result A Refusal) (why : Refusal) → IsErrAnd up (λ y. y ≡ why) → given_in up ≡ given_of why
handed_up (Ok a) why e = absurd e
handed_up (Err y) why e = ap given_of e

-- The content test is one.
pub content_given : {s : List ℕ} {g : Given} → Tests s g → g ≡ given (content_tests s)
unfolding tested
content_given t = t.answer

-- ---- A test that the code makes with `if !..`: its call tells the rule's value.
-- ---- Tests in a row: one fails and those before it hold, or all hold.
pub data Fails : List Test → Given → Type 0 where
  here : {b : Bool} {g : Given} {ts : List Test} → b ≡ false → Fails (record { holds = b; otherwise = g } ∷ ts) g
  past : {b : Bool} {g k : Given} {ts : List Test} → b ≡ true → Fails ts k → Fails (record { holds = b; otherwise = g } ∷ ts) k

pub data Passes : List Test → Type 0 where
  end : Passes []
  holds : {b : Bool} {g : Given} {ts : List Test} → b ≡ true → Passes ts → Passes (record { holds = b; otherwise = g } ∷ ts)

fails_given : {ts : List Test} {g : Given} → Fails ts g → g ≡ given ts
fails_given (here e) = rw e
fails_given (past e f) = rw e (fails_given f)

fails_all : {ts : List Test} {g : Given} → Fails ts g → all ts ≡ false
fails_all (here e) = rw e
fails_all (past e f) = rw e (fails_all f)

passes_given : {ts : List Test} → Passes ts → plain 0 ≡ given ts
passes_given end = refl
passes_given (holds e f) = rw e (passes_given f)

passes_all : {ts : List Test} → Passes ts → all ts ≡ true
passes_all end = refl
passes_all (holds e f) = rw e (passes_all f)

-- What is made of what is given, and of what is accepted.
pub fails_checked : {A : Type 0} {ts : List Test} {g : Given} (refuse : Given → A) (accept : A) → Fails ts g → checked ts refuse accept ≡ refuse g
fails_checked refuse accept (here e) = rw e
fails_checked refuse accept (past e f) = rw e (fails_checked refuse accept f)

pub passes_checked : {A : Type 0} {ts : List Test} (refuse : Given → A) (accept : A) → Passes ts → checked ts refuse accept ≡ accept
passes_checked {ts = ts} refuse accept f = checked_all ts refuse accept (passes_all f)

-- ---- An order on the state: refused it gives the number and leaves the bytes, obeyed it gives 0 and leaves those of the state behind it.
pub refused : {o : Order} {m : List ℕ} {r g : Given} → r ≡ g → Fails o.tests g → Obeys o m r m
refused e f = record { gives = e ∙ fails_given f; state = rw (fails_all f) }

pub obeyed : {o : Order} {m : List ℕ} {r : Given} {m' : List ℕ} → r ≡ plain 0 → Passes o.tests → m' ≡ bytes_of o.after → Obeys o m r m'
obeyed z f e = record { gives = z ∙ passes_given f; state = rw (passes_all f) e }

-- The same of a jet's bytes.
pub jet_refused : {ts : List Test} {j : Jet} {b : List ℕ} {r g : Given} → r ≡ g → Fails ts g → BecomesJet ts j b r b
jet_refused e f = record { gives = e ∙ fails_given f; jet = rw (fails_all f) }

pub jet_becomes : {ts : List Test} {j : Jet} {b b' : List ℕ} {r : Given} → r ≡ plain 0 → Passes ts → b' ≡ jet_bytes j → BecomesJet ts j b r b'
jet_becomes z f e = record { gives = z ∙ passes_given f; jet = rw (passes_all f) e }

-- And of the store's.
pub store_refused : {ts : List Test} {c : StoreChange} {store : List ℕ} {r g : Given} → r ≡ g → Fails ts g → ChangesStore ts c store r store
store_refused e f = record { gives = e ∙ fails_given f; bytes = rw (fails_all f) }

-- ---- A frame that is told: refused nothing is written, else the frame stands at the buffer's front.
pub told_behind : {t : Bool} {g : Given} {ts : List Test} {frame before after : List ℕ} {r : Built} → t ≡ true → Tells ts frame before r after → Tells (record { holds = t; otherwise = g } ∷ ts) frame before r after
told_behind h e = record { gives = rw h e.gives; size = rw h e.size; bytes = rw h e.bytes }

pub told_frame : {ts : List Test} (identifier : ℕ) (d : List ℕ) {told before after : List ℕ} {r : Built} → Passes ts → told ≡ frame identifier d
    → (r ≡ Ok (length d + 4)) × (after ≡ over (frame identifier d) before) → Tells ts told before r after
told_frame identifier d f e w =
    rw w.0
    (record {
      gives = passes_given f;
      size = rw (passes_all f, e) (sym (frame_length identifier d));
      bytes = rw (passes_all f, e) w.1;
    })

-- The builder writes the frame, since it fits: of data that it is given, and of data that stands behind a head's place already.
pub answer_told : {ts : List Test} {identifier : ℕ} {d told before after : List ℕ} {r : Built} → Answers before identifier d r after → Passes ts
    → told ≡ frame identifier d → length d ≤ 549 → 553 ≤ length before → Tells ts told before r after
answer_told {identifier = identifier} {d = d} {before = before} a f e short room =
    let fits = a.answer ∙ answered_fits (length before) (length d) (omega arith) (omega arith) in
    told_frame identifier d f e (fits, a.buffer ∙ ap (λ (x : Built). over (build.bytes_of x identifier d) before) fits)

pub wrapped : (identifier : ℕ) (w d before : List ℕ) {xs after : List ℕ} {n : ℕ} {r : Built} → Wraps xs identifier n r after → length w ≡ head_size
    → xs ≡ over (w ++ d) before → n ≡ length d → length d ≤ 549 → 553 ≤ length before
    → (r ≡ Ok (length d + 4)) × (after ≡ over (frame identifier d) before)
wrapped identifier w d before {xs} {n = n} p three e k short room =
    let rest : List ℕ = drop (length (w ++ d)) before in
    let size : length (w ++ d) ≡ head_size + length d = simp length-append (omega arith) in
    let same : length xs ≡ length before = ap length e ∙ length_over (w ++ d) before (omega arith) in
    let there : take n (drop head_size xs) ≡ d =
    ap (λ (l : List ℕ). take n (drop head_size l)) (e ∙ append_assoc w d rest)
    ∙ ap (take n) (drop_at w (d ++ rest) head_size three)
    ∙ take_at d rest n (sym k)
    in
    let written = wrap_fits p (omega arith) (omega arith) in (
      written.0 ∙ ap (λ (k : ℕ). Ok (k + 4)) k,
      written.1
          ∙ ap₂ (λ (x y : List ℕ). over (frame identifier x) y) there e
          ∙ over_under (frame identifier d) (w ++ d) before (omega (arith, frame_length identifier d)),
    )

-- Two parts laid one behind the other where the data stands, and the frame around both.
module _ (identifier at : ℕ) (q text before : List ℕ) {last last' after : List ℕ} {r r' : Bool} {r'' : Built} {n : ℕ} (next : at ≡ head_size + length q)
    (short : length q + length text ≤ 549) (room : 553 ≤ length before) (a : Lays (mid_of head_size (length before - head_size) before) q r last)
    (b : let xs = put_mid head_size (length before - head_size) before last in Lays (mid_of at (length xs - at) xs) text r' last') (whole : n ≡ length q + length text)
    (c : let xs = put_mid head_size (length before - head_size) before last in Wraps (put_mid at (length xs - at) xs last') identifier n r'' after) where
  three : length (take head_size before) ≡ head_size
  three = length-take-le head_size before (omega arith)

  front : length (take head_size before ++ q) ≡ at
  front = simp length-append (omega (arith, three))

  first : put_mid head_size (length before - head_size) before last ≡ over (take head_size before ++ q) before
  first =
      laid_behind head_size (take head_size before) q before last r before three (omega arith)
      (sym (ap (λ (k : ℕ). take head_size before ++ drop k before) three ∙ take-append-drop head_size before)) a

  both_laid : let xs = put_mid head_size (length before - head_size) before last in
      put_mid at (length xs - at) xs last' ≡ over (take head_size before ++ (q ++ text)) before
  both_laid =
      laid_behind at (take head_size before ++ q) text before last' r' (put_mid head_size (length before - head_size) before last) front (omega arith) first b
      ∙ ap (λ (l : List ℕ). over l before) (append_assoc (take head_size before) q text)

  pub framed : (r'' ≡ Ok (length (q ++ text) + 4)) × (after ≡ over (frame identifier (q ++ text)) before)
  framed =
      wrapped identifier (take head_size before) (q ++ text) before c three both_laid
      (simp length-append (omega arith)) (simp length-append (omega arith)) room
