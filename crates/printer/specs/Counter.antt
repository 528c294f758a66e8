-- A counter: its 26 bytes of settings, its value and its batch, and how it counts.
use Rattle.std.specs.Prelude.{ℕ, ◌+◌, Bool, true, List, ◌∷◌, ◌++◌, eqb, leb, ltb, get_or, take, drop}
use Rattle.frame.specs.Ground.{pick, unless, both, within}
use Rattle.printer.specs.Number.{value, all_digits, digits, number_of, in_bytes}

-- 01, Parameters, counter, clock: "control (1), initial (9 digits), final (9 digits), step (2 digits), lot (3), postdate (2, kept, no
-- effect)".
abbrev pub control : List ℕ → ℕ
control q = get_or q 0 0

abbrev pub all_digits_in : List ℕ → Bool
all_digits_in q = all_digits (take 20 (drop 1 q))

abbrev pub initial : List ℕ → ℕ
initial q = value (take 9 (drop 1 q))

abbrev pub final : List ℕ → ℕ
final q = value (take 9 (drop 10 q))

abbrev pub step : List ℕ → ℕ
step q = value (take 2 (drop 19 q))

abbrev pub lot : List ℕ → ℕ
lot q = number_of (take 3 (drop 21 q))

-- 01, Parameters, counter, clock: "They are good if control is 89h (document 002's example), the digits are 30h to 39h, initial is at
-- most final, step is at least 1 and lot at least 1."
unfoldable pub good_settings : List ℕ → Bool
good_settings q =
    both (eqb (control q) 0x89)
    (both (all_digits_in q)
    (both (leb (initial q) (final q))
    (both (leb 1 (step q))
    (leb 1 (lot q)))))

-- 01, Parameters, counter, clock: "Each print adds 1 to every jet's batch, counter shown or not. When the batch reaches lot it becomes
-- 0 and the counter grows by step; above final it becomes initial".
unfoldable pub next_batch : List ℕ → ℕ → ℕ
next_batch q batch = pick (ltb (batch + 1) (lot q)) (batch + 1) 0

unfoldable pub grown : List ℕ → ℕ → ℕ
grown q value = pick (leb (value + step q) (final q)) (value + step q) (initial q)

unfoldable pub next_value : List ℕ → ℕ → ℕ → ℕ
next_value q value batch = pick (ltb (batch + 1) (lot q)) value (grown q value)

-- A counter as a state holds it; it counts where it is set, which 1 says and 0 denies.
pub record Counter : Type 0 where
  pub settings : List ℕ
  pub set : ℕ
  pub value : ℕ
  pub batch : ℕ

abbrev pub is_set : Counter → Bool
is_set c = eqb c.set 1

-- 01, Parameters, counter, clock: "Accepting them sets the counter to initial and the batch to 0."
abbrev pub set_to : List ℕ → Counter
set_to q = record { settings = q; set = 1; value = initial q; batch = 0 }

abbrev pub moved : Counter → Counter
moved c =
    record {
      settings = c.settings;
      set = c.set;
      value = next_value c.settings c.value c.batch;
      batch = next_batch c.settings c.batch;
    }

unfoldable pub counted : Counter → Counter
counted c = pick (is_set c) (moved c) c

-- 01, Numbers: in a valid state "parameters are good where present, and the counter lies from initial to final with batch below lot".
unfoldable pub valid_counter : Counter → Bool
valid_counter c =
    both (leb c.set 1)
    (unless (is_set c) true
    (both (good_settings c.settings)
    (both (within (initial c.settings) (final c.settings) c.value)
    (ltb c.batch (lot c.settings)))))

-- The 34 bytes of a counter: settings (26), whether it is set (1), value (4), batch (3); and where each of them begins.
abbrev pub settings_size : ℕ
settings_size = 26

abbrev pub value_size : ℕ
value_size = 4

abbrev pub batch_size : ℕ
batch_size = 3

abbrev pub value_place : ℕ
value_place = settings_size + 1

abbrev pub batch_place : ℕ
batch_place = value_place + value_size

abbrev pub counter_size : ℕ
counter_size = batch_place + batch_size

unfoldable pub counter_of : List ℕ → Counter
counter_of b =
    record {
      settings = take settings_size b;
      set = get_or b settings_size 0;
      value = number_of (take value_size (drop value_place b));
      batch = number_of (take batch_size (drop batch_place b));
    }

unfoldable pub counter_bytes : Counter → List ℕ
counter_bytes c = c.settings ++ (c.set ∷ (in_bytes value_size c.value ++ in_bytes batch_size c.batch))

-- 01, On the wire: 39h answers "9 digits, 3 batch bytes".
abbrev pub counter_text : Counter → List ℕ
counter_text c = digits c.value ++ in_bytes batch_size c.batch
