-- `printer::messages::select_message` meets its contract: 8 where the jet is not on the printer, 17 where no body is found, and else the jet's part is that of a jet which holds the message.
use Prim.Native.Nat.{ℕ, ◌+◌, ◌-◌}
use mathlib.Core.List.{List}
use mathlib.Core.Path.{refl, sym, ◌∙◌, ap}
use native.Mathlib.Omega.{arith}
use borrow.Author.Rules.{rules}
use borrow.Rule.Slice.PartMut.{mid_of}
use lib.ListN.{take}
use lib.Seq.{length-take-le}
use Rattle.frame.proofs.Ground.{lent_tail}
use Rattle.printer.specs.Jet.{Jet, jet_size, jet_of, jet_bytes}
use Rattle.printer.specs.Order.{jet_number}
use Rattle.printer.specs.Change.{with_both}
use Rattle.printer.specs.Messages.{select_message, selected_body, selected_jet, selected_number}
use Rattle.printer.proofs.Valid.{valid_size, content_short}
use Rattle.printer.proofs.Orders.{here, past, end, holds, refused, obeyed}
use Rattle.printer.proofs.Part.{Stands, on_there, part_inside, part_size, part_written, stands}
use Rattle.printer.proofs.Bodies.{none_there, some_good, some_there}
use Rattle.printer.proofs.messages.select_message.Goals as goal

pub returns-in_err-at : goal.returns-in_err-at
unfolding select_message
returns-in_err-at c = search rules

pub returns-then-is_empty : goal.returns-then-is_empty
unfolding select_message
returns-then-is_empty c =
    refused refl (past (on_there c.place_in.ensures c.ok_or.ensures.value c.in_ok-at.was)
    (here (none_there c.args.store.now (selected_number c.args.d.now) c.requires.1 c.body-found.ensures c.if-is_empty.ensures)))

pub slice_bounds-put_both-end : goal.slice_bounds-put_both-end
slice_bounds-put_both-end c = part_inside (stands c.place_in.ensures c.ok_or.ensures.value c.in_ok-at.was (valid_size _ c.requires.0) (search rules))

pub slice_bounds-put_both-end-2 : goal.slice_bounds-put_both-end-2
slice_bounds-put_both-end-2 c =
    let g = some_good c.args.store.now (selected_number c.args.d.now) c.requires.1 c.body-found.ensures c.if-is_empty.ensures in sym (length-take-le 37 c.body-found.result.now (omega (arith, g.long)))

pub slice_bounds-put_both-count-2 : goal.slice_bounds-put_both-count-2
slice_bounds-put_both-count-2 c = omega (arith, (some_good c.args.store.now (selected_number c.args.d.now) c.requires.1 c.body-found.ensures c.if-is_empty.ensures).long)

pub slice_bounds-put_both-start-2 : goal.slice_bounds-put_both-start-2
slice_bounds-put_both-start-2 c = omega (arith, (some_good c.args.store.now (selected_number c.args.d.now) c.requires.1 c.body-found.ensures c.if-is_empty.ensures).long)

pub put_both-requires : goal.put_both-requires
put_both-requires c =
    let g = some_good c.args.store.now (selected_number c.args.d.now) c.requires.1 c.body-found.ensures c.if-is_empty.ensures in
    (part_size (stands c.place_in.ensures c.ok_or.ensures.value c.in_ok-at.was (valid_size _ c.requires.0) (search rules)), g.size, g.parameters, rw (lent_tail 37 c.body-found.result.now) (content_short _ g.content))

pub returns : goal.returns
unfolding select_message
returns c =
    let at = c.in_ok-at.at in
    let j : Stands c.args.state.now (jet_number c.args.d.now) at =
    stands c.place_in.ensures c.ok_or.ensures.value c.in_ok-at.was (valid_size _ c.requires.0) (search rules) in
    let body = c.body-found.result.now in
    let part = jet_of (mid_of at (at + jet_size - at) c.args.state.now) in
    let there = some_there c.args.store.now (selected_number c.args.d.now) c.requires.1 c.body-found.ensures c.if-is_empty.ensures in
    obeyed refl (holds (on_there c.place_in.ensures c.ok_or.ensures.value c.in_ok-at.was) (holds there end))
    (part_written j (λ (x : Jet). selected_jet x (selected_body c.args.store.now c.args.d.now))
    (c.put_both.ensures
    ∙ ap (λ (l : List ℕ). jet_bytes (with_both part (take 37 body) l)) (lent_tail 37 body)
    ∙ ap (λ (l : List ℕ). jet_bytes (selected_jet part l)) c.body-found.ensures))
