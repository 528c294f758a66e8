-- `printer::request::ask_message` meets its contract: its test is the rule's, and a message of 512 bytes at most leaves room for the
-- parameters before it where the frame has them.
use Prim.Native.Nat.{ℕ, ◌≤◌}
use mathlib.Core.List.{List, ◌++◌}
use mathlib.Core.Path.{◌≡◌, sym, ◌∙◌, ap, ap₂}
use native.Mathlib.Omega.{arith}
use lib.ListN.{length, length-append, length-take, length-drop}
use Rattle.frame.specs.Build.{frame}
use Rattle.printer.specs.Counter.{counter_of}
use Rattle.printer.specs.Jet.{message, parameters, jet_size, jet_of}
use Rattle.printer.proofs.Orders.{end, holds, framed, told_frame}
use Rattle.printer.proofs.request.ask_message.Goals as goal

parameters_long : (b : List ℕ) → length b ≡ jet_size → length (parameters (jet_of b)) ≡ 37
unfolding jet_of counter_of
parameters_long b full = simp (length-append, length-take, length-drop) (omega arith)

message_short : (b : List ℕ) → (jet_of b).length ≤ 512 → length (message (jet_of b)) ≤ 512
message_short b h = simp length-take (omega arith)

pub returns : goal.returns
returns c =
    let q = c.parameters.ensures in
    let text = c.message-text.ensures in
    let long = ap length q ∙ parameters_long _ c.args.jet.sized in
    told_frame 0x43 (c.parameters.result.now ++ c.message-text.result.now)
    (holds (rw (sym c.if-not-has_message.ensures) (sym c.if-not-has_parameters.ensures)) end)
    (ap₂ (λ (x y : List ℕ). frame 0x43 (x ++ y)) (sym q) (sym text))
    (framed 0x43 40 c.parameters.result.now c.message-text.result.now c.args.out.now
    (omega (arith, long)) (omega (arith, long, rw (← text) at (message_short _ c.requires.0))) c.requires.1
    c.lay.ensures c.lay-2.ensures (omega (arith, long)) c.wrap.ensures)
