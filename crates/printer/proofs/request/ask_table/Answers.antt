-- `printer::request::ask_table` meets its contract: the four digits of the state's date change, and the codes that the rule computes behind them.
use mathlib.Core.List.{◌++◌}
use mathlib.Core.Path.{◌≡◌, sym, ◌∙◌, ap}
use native.Mathlib.Omega.{arith}
use borrow.Author.Rules.{rules}
use lib.ListN.{length}
use Rattle.frame.specs.Build.{frame}
use Rattle.calendar.specs.Clock.{codes_text}
use Rattle.calendar.specs.DateChange.{change_text}
use Rattle.printer.proofs.Orders.{end, framed, told_frame}
use Rattle.printer.proofs.request.ask_table.Goals as goal

pub returns : goal.returns
unfolding codes_text
returns c =
    let digits = c.change_text-digits.result in
    let text = c.change_text-digits.ensures ∙ ap change_text c.date_change.ensures in
    let four : length digits ≡ 4 = search rules in
    told_frame 0x52 (digits ++ codes_text) end (ap (λ l. frame 0x52 (l ++ codes_text)) (sym text))
    (framed 0x52 7 digits codes_text c.args.out.now (omega (arith, four)) (omega (arith, four)) c.requires
    c.lay.ensures c.lay-2.ensures (omega (arith, four)) c.wrap.ensures)
