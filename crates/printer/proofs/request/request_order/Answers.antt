-- `printer::request::request_order` meets its contract: 8 where the jet is not on the printer, and else what is told of the jet's part.
use Rattle.printer.specs.Order.{jet_number}
use Rattle.printer.proofs.Valid.{valid_size}
use Rattle.printer.proofs.Orders.{told_behind}
use Rattle.printer.proofs.Part.{Stands, on_there, part_inside, part_jet, part_short, stands}
use Rattle.printer.proofs.request.request_order.Goals as goal

pub slice_bounds-jet-end : goal.slice_bounds-jet-end
slice_bounds-jet-end c = part_inside (stands c.place_in.ensures c.ok_or.ensures.value c.in_ok-at.was (valid_size _ c.requires.0) c.type_inv.state)

pub ask_message-requires : goal.ask_message-requires
ask_message-requires c =
    let j = stands c.place_in.ensures c.ok_or.ensures.value c.in_ok-at.was (valid_size _ c.requires.0) c.type_inv.state in (part_short j c.requires.0, c.requires.2)

pub returns-in-Counter : goal.returns-in-Counter
returns-in-Counter c =
    let j : Stands c.args.state.now (jet_number c.args.d.now) c.in_ok-at.at = stands c.place_in.ensures c.ok_or.ensures.value c.in_ok-at.was (valid_size _ c.requires.0) c.type_inv.state in
    rw c.in-Counter.is (told_behind (on_there c.place_in.ensures c.ok_or.ensures.value c.in_ok-at.was) (rw (part_jet j) at c.ask_counter.ensures))

pub returns-in-Message : goal.returns-in-Message
returns-in-Message c =
    let j : Stands c.args.state.now (jet_number c.args.d.now) c.in_ok-at.at = stands c.place_in.ensures c.ok_or.ensures.value c.in_ok-at.was (valid_size _ c.requires.0) c.type_inv.state in
    rw c.in-Message.is (told_behind (on_there c.place_in.ensures c.ok_or.ensures.value c.in_ok-at.was) (rw (part_jet j) at c.ask_message.ensures))
