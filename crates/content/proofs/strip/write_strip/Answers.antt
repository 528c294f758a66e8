-- `content::strip::write_strip` meets its contract. Its tests are those of the rule, in its order: what is no content and what doesn't fit
-- writes nothing, and else the strip of the content, which has 512 bytes at the most, is written whole and then laid over the buffer.
use Prim.Native.Nat.{ℕ, ◌*◌, ◌≤◌}
use mathlib.Core.Bool.{Bool, true, false}
use mathlib.Core.List.{List, []}
use mathlib.Core.Path.{◌≡◌, refl, sym, ◌∙◌, ap}
use native.Mathlib.Omega.{arith}
use borrow.Author.Tests.{leb-true}
use lib.Dec.{leb}
use lib.ListN.{length, take, drop, replicate}
use lib.Seq.{take_at}
use Rattle.std.proofs.Common.{rules}
use Rattle.std.specs.Prelude.{Result, Ok, Err}
use Rattle.frame.specs.Build.{Lays}
use Rattle.frame.specs.Given.{given_in, numbered}
use Rattle.frame.specs.Ground.{over, pick, plain}
use Rattle.frame.specs.declared.given.Given.{Given}
use Rattle.frame.specs.declared.given.Refusal.{Refusal}
use Rattle.content.specs.Content.{Tests, is_content, is_good, longest_message, verdict}
use Rattle.content.specs.Strip.{Strips, strip, strip_tests, stripped}
use Rattle.content.specs.declared.strip.Values.{Values}
use Rattle.frame.proofs.Ground.{both_true}
use Rattle.content.proofs.Room.{strip_fits}
use Rattle.content.proofs.Told.{strip_told, test_passes, test_fails}
use Rattle.content.proofs.strip.write_strip.Goals as goal

-- The array that the strip is written into.
abbrev zeros : List ℕ
zeros = replicate (3 * longest_message) 0

module _ (v : Values) (s : List ℕ) {t : Result Unit Refusal} (tests : Tests s (given_in t)) where
  refused : {why : Refusal} {r : Result ℕ Refusal} (before : List ℕ) → t ≡ Err why → r ≡ Err why → Strips v s before (numbered r) before
  unfolding stripped
  refused before e f =
      let h = test_fails tests e in
      rw f (strip_told (strip_tests v s (length before)) v s before (ap (λ (g : Given). Err g) h.1 ∙ rw h.0) refl)

  module _ {u : Unit} (e : t ≡ Ok u) where
    few : length s ≤ longest_message
    unfolding is_content
    few = leb-true (length s) longest_message (both_true (leb (length s) longest_message) (is_good (verdict s)) (test_passes tests e)).0

    fits : length v.digits ≡ 9 → length (strip v s) ≤ 3 * longest_message
    fits n = omega (arith, strip_fits v n s, few)

    module _ {before after whole : List ℕ} {n : ℕ} {laid : Bool} (p : (n ≡ length (strip v s)) × (whole ≡ over (strip v s) zeros)) (l : Lays before (take n whole) laid after) where
      front : take n whole ≡ strip v s
      front = ap (take n) p.1 ∙ take_at (strip v s) (drop (length (strip v s)) zeros) n (sym p.0)

      answer : {b : Bool} → laid ≡ b → leb (length (strip v s)) (length before) ≡ b
      answer f = ap (λ (x : List ℕ). leb (length x) (length before)) (sym front) ∙ sym l.answer ∙ f

      bytes : {b : Bool} → laid ≡ b → after ≡ over (pick b (strip v s) []) before
      bytes f =
          l.buffer
          ∙ ap (λ (x : List ℕ). over (pick (leb (length x) (length before)) x []) before) front
          ∙ ap (λ (b : Bool). over (pick b (strip v s) []) before) (answer f)

      short : laid ≡ false → Strips v s before (Err (plain 2)) after
      unfolding stripped
      short f = strip_told (strip_tests v s (length before)) v s before (rw (test_passes tests e, answer f)) (bytes f)

      written : laid ≡ true → Strips v s before (Ok n) after
      unfolding stripped
      written f = strip_told (strip_tests v s (length before)) v s before (rw (test_passes tests e, answer f) (ap (λ (k : ℕ). Ok k) p.0)) (bytes f)

pub returns-in_err-test : goal.returns-in_err-test
returns-in_err-test c = refused c.args.values c.args.s.now c.test.ensures c.args.out.now c.in_err-test.was (search rules)

pub write-n-requires : goal.write-n-requires
write-n-requires c = fits c.args.values c.args.s.now c.test.ensures c.in_ok-test.was (search rules)

pub returns-then-lay : goal.returns-then-lay
returns-then-lay c = written c.args.values c.args.s.now c.test.ensures c.in_ok-test.was c.write-n.ensures c.lay.ensures c.if-lay.true

pub returns-else-lay : goal.returns-else-lay
returns-else-lay c = short c.args.values c.args.s.now c.test.ensures c.in_ok-test.was c.write-n.ensures c.lay.ensures c.if-lay.false
