-- `thebox::line::Line::feed` meets its contract: the loop keeps that the box is behind the bytes before its place.
use mathlib.Core.Path.{◌≡◌}
use Rattle.thebox.proofs.Laws.{behind}
use Rattle.thebox.proofs.line.Line.feed.Given as goal

abbrev pub invariant-loop-byte : goal.invariant-loop-byte
invariant-loop-byte l = l.self ≡ behind l.initial.self l.s l.byte-index
