-- The tests of `keep` stand in the order of their numbers, by computation; what it gives is the first that fails.
use mathlib.Core.Path.{refl}
use Rattle.frame.proofs.Numbers.{first_given}
use Rattle.library.specs.Store.{keep_tests}
use Rattle.library.specs.NumberLaws.{InOrder, KeepGivesFirst}

pub numbers_in_order : InOrder
numbers_in_order n body s = refl

pub keep_gives_first : KeepGivesFirst
keep_gives_first s n body r s' k = first_given (keep_tests n body s) r (numbers_in_order n body s) k.gives
