-- `printer::single::take_held` meets its contract: the byte stands behind those that were held, and these are handled as the first receiver does.
use Prim.Native.Nat.{◌+◌}
use mathlib.Core.Path.{refl}
use native.Mathlib.Omega.{arith}
use lib.ListN.{set, take}
use Rattle.printer.specs.State.{printer_of}
use Rattle.printer.proofs.Bytewise.{handled_loud, takes_held}
use Rattle.printer.proofs.single.take_held.Goals as goal

pub held_behind-requires-clause-taken : goal.held_behind-requires-clause-taken
held_behind-requires-clause-taken c =
    let a = c.args in
    rw c.handle-answered.ensures.meets.gives (handled_loud (printer_of a.state.now) a.store.now (take (a.n + 1) (set a.buffer.now a.n a.byte)))

pub returns : goal.returns
returns c =
    let a = c.args in
    let full = c.requires.1 in
    let room = c.requires.2 in
    takes_held a.state.now a.store.now a.buffer.now a.answer.now a.strips.now a.n a.byte (omega (arith, full, room))
    c.handle-answered.ensures c.counted.ensures c.held_behind.ensures refl
