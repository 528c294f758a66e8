-- The numbers of the content test, of an edit, of an update and of a strip: of those that apply the first is given.
use Rattle.std.specs.Prelude.{ℕ, true, List, ◌≡◌, length}
use Rattle.frame.specs.Numbers.{FirstGiven, in_order}
use Rattle.content.specs.Content.{Tests, content_tests}
use Rattle.content.specs.Position.{field_positions}
use Rattle.content.specs.Edit.{Edited, Edits, edit_tests}
use Rattle.content.specs.Update.{Updates, update_tests}
use Rattle.frame.specs.Build.{Built, given_by}
use Rattle.frame.specs.declared.given.Given.{Given}
use Rattle.content.specs.Strip.{Puts, put_tests}
use Rattle.content.specs.declared.strip.Values.{Values}

-- 01, Numbers: "Checked in this order". `write_strip` alone asks 10 before 2: what is no content has no strip that could fit.
pub record InOrder : Type 0 where
  pub tests : (s : List ℕ) → in_order (content_tests s) ≡ true
  pub edits : (s : List ℕ) (address : ℕ) (symbols : List ℕ) → in_order (edit_tests s address symbols) ≡ true
  pub updates : (positions : ℕ) (text : List ℕ) → in_order (update_tests positions text) ≡ true
  pub puts : (s : List ℕ) (room : ℕ) → in_order (put_tests s room) ≡ true

-- 01, Numbers: "the first that applies is given, and none otherwise". Of each call that gives a number.
pub record CallsGiveFirst : Type 0 where
  pub test : (s : List ℕ) (r : Given) → Tests s r → FirstGiven (content_tests s) r
  pub edit :
      (before : List ℕ) (address : ℕ) (symbols : List ℕ) (r : Edited) (after : List ℕ) →
      Edits before address symbols r after →
      FirstGiven (edit_tests before address symbols) (given_by r)
  pub update :
      (before text : List ℕ) (r : Edited) (after : List ℕ) →
      Updates before text r after →
      FirstGiven (update_tests (field_positions before) text) (given_by r)
  pub put :
      (v : Values) (s before : List ℕ) (r : Built) (after : List ℕ) →
      Puts v s before r after →
      FirstGiven (put_tests s (length before)) (given_by r)
