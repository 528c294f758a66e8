-- `samples::bench::all_strips` meets its contract: what is left is never longer than the buffer.
use Rattle.std.proofs.Common.{◌≤◌, length}
use Rattle.samples.proofs.bench.all_strips.Given as goal

abbrev pub invariant-loop-jet : goal.invariant-loop-jet
invariant-loop-jet l = length l.rest ≤ length l.strips
