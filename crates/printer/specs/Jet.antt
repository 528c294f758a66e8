-- The jets: which a printer has, how a head leads to its jets, and what a jet holds.
use Rattle.std.specs.Prelude.{ℕ, ◌+◌, ◌*◌, ◌-◌, Bool, true, false, not, List, ◌++◌, eqb, leb, ltb, length, take, drop}
use Rattle.frame.specs.Ground.{pick, unless, both, within, over}
use Rattle.content.specs.Content.{longest_message, is_content}
use Rattle.printer.specs.Number.{number_of, in_bytes}
use Rattle.printer.specs.Counter.{Counter, good_settings, is_set, set_to, counted, valid_counter, counter_size, counter_of, counter_bytes}

-- 01, On the wire: "type 1 (1.1) has jet 1; type 2 (1.2) jets 1, 2; type 3 (2.1) jets 1 and 3; type 4 (2.2) jets 1 to 4." A printer's
-- type is its model here.
unfoldable pub has_jet : ℕ → ℕ → Bool
has_jet model n =
    pick (eqb model 1) (eqb n 1)
    (pick (eqb model 2) (within 1 2 n)
    (pick (eqb model 3) (pick (eqb n 1) true (eqb n 3))
    (pick (eqb model 4) (within 1 4 n) false)))

-- 01, On the wire: "Head 1 owns jets 1 and 2, head 2 owns jets 3 and 4." The k-th jet of a head, from 0.
abbrev pub head_jet : ℕ → ℕ → ℕ
head_jet head k = 2 * (head - 1) + 1 + k

-- How many of the parameter bytes are general.
abbrev pub general_size : ℕ
general_size = 11

-- A jet's message is the first `length` bytes of its content. Its parameters are 11 general bytes, "kept as they come", and the
-- settings of its counter.
pub record Jet : Type 0 where
  pub length : ℕ
  pub content : List ℕ
  pub general : List ℕ
  pub counter : Counter

-- A jet has a message where its length is not 0, since no content is empty.
abbrev pub has_message : Jet → Bool
has_message j = ltb 0 j.length

abbrev pub message : Jet → List ℕ
message j = take j.length j.content

abbrev pub has_parameters : Jet → Bool
has_parameters j = is_set j.counter

-- 01, Parameters, counter, clock: "The 37 bytes are 11 general bytes, kept as they come, then control [..] postdate".
abbrev pub parameters : Jet → List ℕ
parameters j = j.general ++ j.counter.settings

unfoldable pub good_parameters : List ℕ → Bool
good_parameters q = good_settings (drop general_size q)

-- 01, Numbers: in a valid state "contents and parameters are good where present".
unfoldable pub valid_message : Jet → Bool
valid_message j = unless (has_message j) true (both (leb j.length longest_message) (is_content (message j)))

-- 01, Numbers: "jets it lacks are empty".
unfoldable pub valid_jet : Bool → Jet → Bool
valid_jet present j =
    pick present (both (valid_message j) (valid_counter j.counter)) (both (not (has_message j)) (eqb j.counter.set 0))

-- 01, What an accepted frame does: "0Ah, 0Bh, 0Ch replace what they name on that jet." The bytes behind a message count for nothing.
abbrev pub with_message : Jet → List ℕ → Jet
with_message j c =
    record { length = length c; content = over c j.content; general = j.general; counter = j.counter }

abbrev pub with_parameters : Jet → List ℕ → Jet
with_parameters j q =
    record { length = j.length; content = j.content; general = take general_size q; counter = set_to (drop general_size q) }

abbrev pub counted_jet : Jet → Jet
counted_jet j =
    record { length = j.length; content = j.content; general = j.general; counter = counted j.counter }

-- The 559 bytes of a jet: length (2), content (512), general (11), counter (34); and where each of them begins.
abbrev pub length_size : ℕ
length_size = 2

abbrev pub general_place : ℕ
general_place = length_size + longest_message

abbrev pub counter_place : ℕ
counter_place = general_place + general_size

abbrev pub jet_size : ℕ
jet_size = counter_place + counter_size

unfoldable pub jet_of : List ℕ → Jet
jet_of b =
    record {
      length = number_of (take length_size b);
      content = take longest_message (drop length_size b);
      general = take general_size (drop general_place b);
      counter = counter_of (take counter_size (drop counter_place b));
    }

unfoldable pub jet_bytes : Jet → List ℕ
jet_bytes j = in_bytes length_size j.length ++ (j.content ++ (j.general ++ counter_bytes j.counter))
