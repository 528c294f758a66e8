-- No second outcome meets a contract of `calendar`: both are what the rule says.
use mathlib.Core.Path.{sym, ◌∙◌}
use Rattle.calendar.specs.Unique.{DateOfUnique, MomentUnique, ClockIsRealUnique, ClockTickUnique, EntriesUnique, ClockTextUnique, TimeOfDayUnique, IsTimeUnique, ChangeTextUnique, PrintedUnique}

pub date_of_unique : DateOfUnique
date_of_unique day month year r r' p q = p ∙ sym q

pub moment_unique : MomentUnique
moment_unique second minute hour d r r' p q = p ∙ sym q

pub clock_is_real_unique : ClockIsRealUnique
clock_is_real_unique c r r' p q = p ∙ sym q

pub clock_tick_unique : ClockTickUnique
clock_tick_unique c r r' p q = p ∙ sym q

pub entries_unique : EntriesUnique
entries_unique c r r' p q = p ∙ sym q

pub clock_text_unique : ClockTextUnique
clock_text_unique c r r' p q = p ∙ sym q

pub time_of_day_unique : TimeOfDayUnique
time_of_day_unique hour minute r r' p q = p ∙ sym q

pub is_time_unique : IsTimeUnique
is_time_unique t r r' p q = p ∙ sym q

pub change_text_unique : ChangeTextUnique
change_text_unique t r r' p q = p ∙ sym q

pub printed_unique : PrintedUnique
printed_unique t c r r' p q = p ∙ sym q
