-- `content::test::test` meets its contract: 0 for a content, and 10 with its place for what is none, as the rule has it.
use Prim.Native.Nat.{ℕ}
use mathlib.Core.Path.{◌≡◌, ◌∙◌, refl, ap}
use borrow.Author.Tests.{lt-leb, le-leb}
use Rattle.std.proofs.Common.{rules}
use Rattle.std.specs.Prelude.{Result, Ok, Err}
use Rattle.std.specs.Result.{MatchResult, IsErrAnd}
use lib.Dec.{leb}
use lib.ListN.{length}
use mathlib.Core.Bool.{Bool, true, false}
use Rattle.frame.specs.Ground.{both, pick, placed, plain, unless}
use Rattle.frame.proofs.Ground.{never}
use Rattle.frame.specs.Given.{given_in}
use Rattle.frame.specs.declared.given.Refusal.{Refusal}
use Rattle.frame.specs.declared.given.Refusal.TheVariants.{NoContent}
use Rattle.content.specs.Content.{Verdict, is_content, is_good, tested, unfit_place, verdict, wrong_place}
use Rattle.content.proofs.test.test.Goals as goal

-- What the refusal is of a verdict.
abbrev refusal_of : Verdict → Result Unit Refusal
refusal_of (Ok u) = Ok u
refusal_of (Err i) = Err (NoContent i)

mapped : (v : Verdict) (r : Result Unit Refusal) (Says : ℕ → Refusal → Type 0) → ((i : ℕ) (why : Refusal) → Says i why → why ≡ NoContent i)
    → MatchResult v (λ u. r ≡ Ok u) (λ i. IsErrAnd r (Says i)) → r ≡ refusal_of v
mapped (Ok u) r Says says e = e
mapped (Err i) (Ok u) Says says e = absurd e
mapped (Err i) (Err why) Says says e = ap (λ (x : Refusal). Err x) (says i why e)

-- And what is given of it, by the tests of bytes that are few enough.
comes_to : (few : Bool) (v : Verdict) → few ≡ true → given_in (refusal_of v) ≡ unless (both few (is_good v)) (placed 10 (pick few (unfit_place v) 512)) (plain 0)
comes_to true (Ok u) e = refl
comes_to true (Err i) e = refl
comes_to false v e = never e

pub returns-then-s-gt-MESSAGE : goal.returns-then-s-gt-MESSAGE
unfolding tested is_content wrong_place
returns-then-s-gt-MESSAGE c = record { answer = rw (lt-leb _ 512 c.if-s-gt-MESSAGE.true) }

pub returns : goal.returns
unfolding tested is_content wrong_place
returns c =
    let e = mapped c.read.result c.map_err.result _ (λ i why h. search rules) c.map_err.ensures.cases in
    let v = c.read.ensures.answer in
    record { answer = ap given_in (e ∙ ap refusal_of v) ∙ comes_to (leb (length c.args.s.now) 512) (verdict c.args.s.now) (le-leb _ 512 c.if-s-gt-MESSAGE.false) }
