use mathlib.Core.List.{List}
use mathlib.Core.Path.{◌≡◌, refl, sym, ◌∙◌}
use Prim.Native.Nat.{ℕ}
use Rattle.std.specs.Prelude.{Result, Ok, Err}
use Rattle.std.specs.Result.{is_ok}
use Rattle.frame.specs.Given.{given_in}
use Rattle.frame.specs.declared.given.Refusal.{Refusal}
use Rattle.content.specs.Content.{Tests, is_content}
use Rattle.content.proofs.Told.{test_passes, test_fails}
use Rattle.content.proofs.test.is_content.Goals as goal

told : (s : List ℕ) (r : Result Unit Refusal) → Tests s (given_in r) → is_ok r ≡ is_content s
told s (Ok u) t = sym (test_passes t refl)
told s (Err why) t = sym (test_fails t refl).0

pub returns : goal.returns
returns c = c.is_ok.ensures.value ∙ told c.args.s.now c.test.result c.test.ensures
