-- `serving::hold::serve_held` meets its contract: there is no room, or the byte stands behind those that were held and these are not whole yet, or
-- the box is called on them.
use mathlib.Core.Path.{◌≡◌, sym, ◌∙◌}
use borrow.Author.Rules.{rules}
use Rattle.frame.specs.declared.receive.Received.TheVariants.{Partial}
use Rattle.serving.proofs.Laws.{no_room, roomy_partial, roomy_whole}
use Rattle.serving.proofs.hold.serve_held.Goals as goal

pub returns-then-buffer-n : goal.returns-then-buffer-n
returns-then-buffer-n c =
    let a = c.args in
    no_room a.state.now a.store.now a.buffer.now a.answer.now a.strips.now a.n a.byte c.if-buffer-n.true c.uncalled.ensures

pub returns-then-eq : goal.returns-then-eq
returns-then-eq c =
    let a = c.args in
    let e : c.receive.result ≡ Partial = search rules in
    roomy_partial a.state.now a.store.now a.buffer.now a.answer.now a.strips.now a.n a.byte c.if-buffer-n.false
    (sym c.receive.ensures.answer ∙ e) c.uncalled-then-eq.ensures c.behind.ensures

pub returns : goal.returns
returns c =
    let a = c.args in
    let f : c.receive.result ≡ Partial → ⊥ = λ e. search rules in
    roomy_whole a.state.now a.store.now a.buffer.now a.answer.now a.strips.now a.n a.byte c.if-buffer-n.false
    (λ e. f (c.receive.ensures.answer ∙ e)) c.behind-2.ensures c.receive-2.ensures
