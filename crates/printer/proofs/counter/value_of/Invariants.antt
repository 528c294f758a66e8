-- `printer::counter::value_of` meets its contract. The loop keeps that the digits come to what those read so far and those left come
-- to, that those left are digits, and that i digits come to less than 10 ^ i.
use Prim.Native.Nat.{◌^◌, ◌<◌}
use mathlib.Core.Bool.{true}
use mathlib.Core.Path.{◌≡◌}
use lib.ListN.{drop}
use Rattle.printer.specs.Number.{all_digits, value, value_from}
use Rattle.printer.proofs.counter.value_of.Given as goal

abbrev pub invariant-loop-b : goal.invariant-loop-b
invariant-loop-b l =
    (l.n < 10 ^ l.b-index) × (all_digits (drop l.b-index l.s) ≡ true) × (value l.s ≡ value_from l.n (drop l.b-index l.s))
