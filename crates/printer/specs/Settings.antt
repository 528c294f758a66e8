-- What is read of the settings of a counter: four numbers, where they are good.
use Rattle.std.specs.Prelude.{List, ℕ, ◌≡◌, Option, IfSome, is_some}
use Rattle.printer.specs.Counter.{final, good_settings, initial, lot, step}
use Rattle.printer.specs.declared.counter.Settings.{Settings}

-- 01, Parameters, counter, clock: "initial (9 digits), final (9 digits), step (2 digits), lot (3)".
pub record Says (q : List ℕ) (s : Settings) : Type 0 where
  pub initial : s.initial ≡ initial q
  pub last : s.last ≡ final q
  pub step : s.step ≡ step q
  pub lot : s.lot ≡ lot q

-- Of settings that are not good nothing is read.
pub record Reads (q : List ℕ) (r : Option Settings) : Type 0 where
  pub good : is_some r ≡ good_settings q
  pub said : IfSome r (Says q)
