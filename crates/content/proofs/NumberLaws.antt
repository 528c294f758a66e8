-- The tests of each call stand in the order of the numbers, and its contract says that the first that fails is given.
use mathlib.Core.Path.{refl}
use lib.ListN.{length}
use Rattle.frame.proofs.Numbers.{first_given}
use Rattle.content.specs.Content.{content_tests, tested}
use Rattle.content.specs.Edit.{edit_tests}
use Rattle.content.specs.Position.{field_positions}
use Rattle.content.specs.Update.{update_tests}
use Rattle.content.specs.Strip.{put_tests}
use Rattle.content.specs.NumberLaws.{CallsGiveFirst, InOrder}

pub in_order : InOrder
in_order =
    record {
      tests = λ s. refl;
      edits = λ s address symbols. refl;
      updates = λ positions text. refl;
      puts = λ s room. refl;
    }

pub calls_give_first : CallsGiveFirst
unfolding tested
calls_give_first =
    record {
      test = λ s r p. first_given (content_tests s) _ refl p.answer;
      edit = λ before address symbols r after p. first_given (edit_tests before address symbols) _ refl p.first;
      update = λ before text r after p. first_given (update_tests (field_positions before) text) _ refl p.first;
      put = λ v s before r after p. first_given (put_tests s (length before)) _ refl p.reports.first;
    }
