-- All samples of document 01 that are marked P hold of the rules, by computation.
use mathlib.Core.List.{map}
use mathlib.Core.Path.{◌≡◌, refl}
use Rattle.frame.specs.Wire.{size_of}
use Rattle.frame.specs.Receive.{received, updated, judged, framed}
use Rattle.frame.specs.Build.{frame}
use Rattle.content.specs.Byte.{is_character, is_expansion, is_count, kind_of, code_of}
use Rattle.content.specs.Machine.{with_line, with_field}
use Rattle.content.specs.Content.{verdict, is_content, tested, wrong_place}
use Rattle.content.specs.Position.{mark_of}
use Rattle.calendar.specs.Clock.{is_leap, days_in, is_date, is_real}
use Rattle.calendar.specs.DateChange.{is_time}
use Rattle.printer.specs.Counter.{good_settings, valid_counter, counter_of, counter_bytes}
use Rattle.printer.specs.Jet.{has_jet, valid_message, valid_jet, jet_of, jet_bytes}
use Rattle.printer.specs.State.{empty_jet, valid, printer_of, bytes_of, valid_state}
use Rattle.printer.specs.Change.{set_message, edit_message}
use Rattle.library.specs.Record.{begins, records, rest}
use Rattle.library.specs.Store.{is_store}
use Rattle.printer.specs.Messages.{valid_store}
use Rattle.printer.specs.Receive.{printer_order, order, obeyed, outcome}
use Rattle.printer.specs.Samples.{samples, come_out}

pub samples_hold : map come_out samples ≡ samples
unfolding size_of received updated judged framed frame is_character is_expansion is_count kind_of code_of with_line with_field verdict is_content tested wrong_place mark_of is_leap days_in is_date is_real good_settings valid_counter counter_of counter_bytes has_jet valid_message valid_jet jet_of jet_bytes empty_jet valid printer_of bytes_of valid_state is_time set_message edit_message begins records rest is_store valid_store printer_order order obeyed outcome
samples_hold = refl
