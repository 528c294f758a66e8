-- `library::record::record_at` meets its contract. Its tests are those of the rule, on the bytes from its place on; behind the last of them the record is whole.
use Rattle.std.proofs.Common.{◌≡◌, sym, arith, drop}
use Rattle.std.proofs.lemmas.Grind.{common_steps}
use Rattle.library.proofs.Walks.{ends_long, reads}
use Rattle.library.proofs.record.record_at.Goals as goal

pub returns-then-behind-length : goal.returns-then-behind-length
returns-then-behind-length c =
    let from : c.in_ok-get.field-0.now ≡ drop c.args.at c.args.store.now = grind (arith, common_steps) in
    ends_long c.args.store.now c.args.at (rw (sym from) (omega (arith, c.in_ok-get.ensures.lookup, c.word-length.ensures.value)))

pub returns : goal.returns
returns c =
    let from : c.in_ok-get.field-0.now ≡ drop c.args.at c.args.store.now = grind (arith, common_steps) in
    let told = c.word-length in
    reads c.args.store.now c.args.at c.in_ok-get.field-0.now told.result from told.ensures.value (omega arith) (omega arith) (omega arith)
