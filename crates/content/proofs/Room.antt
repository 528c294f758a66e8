-- Three times as much room as there are bytes is enough for the strip of any bytes: what is not whole yet shows nothing, and has that room
-- to its credit.
use Prim.Native.Nat.{ℕ, ◌+◌, ◌*◌, ◌≤◌}
use mathlib.Core.Bool.{Bool, true, false}
use mathlib.Core.List.{List, [], ◌∷◌}
use mathlib.Core.Path.{◌≡◌}
use Rattle.std.specs.Prelude.{None, Option, Some}
use native.Mathlib.Omega.{arith}
use lib.Dec.{eqb, ltb}
use lib.ListN.{length, length-append}
use Rattle.frame.specs.Ground.{pick}
use Rattle.content.specs.Byte.{kind_of, code_of, is_character, is_count, is_expansion}
use Rattle.content.specs.Machine.{Inside, Font, TabulationCount, TabulationEnd, CounterNumber, CounterEnd, Mode, Reading, Done, Bad, start, step, with_line, with_field, in_block, in_code}
use Rattle.content.specs.Strip.{character_of, printed, shown_by, shown_code, shown_in_block, strip, strip_from, where_good}
use Rattle.content.specs.declared.byte.Code.{Code}
use Rattle.content.specs.declared.byte.Kind.{Kind}
use Rattle.content.specs.declared.byte.Kind.TheVariants as kind
use Rattle.content.specs.declared.item.Place.TheVariants.{Content, Line, Block, Field, Date}
use Rattle.content.specs.declared.item.Seen.{Seen}
use Rattle.content.specs.declared.strip.Values.{Values}
use Rattle.frame.proofs.Ground.{pick_case}

abbrev credit : Mode → ℕ
credit (Reading (Inside place) seen) = 0
credit (Reading (Font e) seen) = 3
credit (Reading TabulationCount seen) = 3
credit (Reading (TabulationEnd n) seen) = 6
credit (Reading CounterNumber seen) = 3
credit (Reading CounterEnd seen) = 6
credit Done = 0
credit Bad = 0

-- What a byte shows and the credit behind it are at most c.
abbrev Paid : ℕ → Mode → List ℕ → Type 0
Paid c m x = length (where_good m x) + credit m ≤ c

paid : (c : ℕ) (m : Mode) (x : List ℕ) → length x + credit m ≤ c → Paid c m x
paid c (Reading spot seen) x h = h
paid c Done x h = h
paid c Bad x h = omega arith

paid_if : (t : Bool) (c : ℕ) (m : Mode) (x : List ℕ) → length x + credit m ≤ c → Paid c (pick t m Bad) x
paid_if true c m x h = paid c m x h
paid_if false c m x h = omega arith

one_printed : (b : ℕ) → length (printed b) ≤ 1
unfolding printed
one_printed b = pick_case (λ (x : List ℕ). length x ≤ 1) (eqb b 0x00) _ _ (λ e. omega arith) (λ e. omega arith)

module _ (v : Values) (nine : length v.digits ≡ 9) where
  line_paid : (seen : Seen) (b : ℕ) → Paid 3 (with_line seen) (b ∷ [])
  unfolding with_line
  line_paid seen b = paid_if (ltb seen.lines 4) 3 _ (b ∷ []) (omega arith)

  field_paid : (seen : Seen) → Paid 3 (with_field seen) []
  unfolding with_field
  field_paid seen = paid_if (ltb seen.fields 10) 3 _ [] (omega arith)

  block_paid : (k : Kind) (seen : Seen) (b : ℕ) → Paid 3 (in_block k b seen) (shown_in_block k b)
  block_paid kind.Line seen b = line_paid seen b
  block_paid kind.End seen b = omega arith
  block_paid kind.Field seen b = field_paid seen
  block_paid kind.Date seen b = omega arith
  block_paid kind.Counter seen b = omega arith
  block_paid kind.Tabulation seen b = omega arith
  block_paid kind.Expansion seen b = omega arith
  block_paid kind.Character seen b = omega arith
  block_paid kind.Other seen b = omega arith

  code_paid : (k : Option Code) (seen : Seen) → Paid 3 (in_code k seen) (shown_code v k)
  code_paid (Some c) seen = omega (arith, one_printed (character_of v c))
  code_paid None seen = omega arith

  pays : (m : Mode) (b : ℕ) → Paid (3 + credit m) (step m b) (shown_by v m b)
  pays (Reading (Inside Content) seen) b = go (eqb b 0x0A)
    where
      go : (t : Bool) → Paid 3 (pick t (with_line seen) Bad) (b ∷ [])
      go true = line_paid seen b
      go false = omega arith
  pays (Reading (Inside Line) seen) b = paid_if (is_expansion b) 3 _ [] (omega arith)
  pays (Reading (Inside Block) seen) b = block_paid (kind_of b) seen b
  pays (Reading (Inside Field) seen) b = go (eqb b 0x12)
    where
      go : (t : Bool) → Paid 3 (pick t (Reading (Inside Block) seen) (pick (is_character b) (Reading (Inside Field) seen) Bad)) (pick t [] (b ∷ []))
      go true = omega arith
      go false = paid_if (is_character b) 3 _ (b ∷ []) (omega arith)
  pays (Reading (Inside Date) seen) b = go (eqb b 0x1B)
    where
      go : (t : Bool) → Paid 3 (pick t (Reading (Inside Block) seen) (in_code (code_of b) seen)) (pick t [] (shown_code v (code_of b)))
      go true = omega arith
      go false = code_paid (code_of b) seen
  pays (Reading (Font e) seen) b = paid_if (is_count b) 6 _ (e ∷ b ∷ []) (omega arith)
  pays (Reading TabulationCount seen) b = paid_if (is_count b) 6 _ [] (omega arith)
  pays (Reading (TabulationEnd n) seen) b = paid_if (eqb b 0x1E) 9 _ (0x1E ∷ n ∷ b ∷ []) (omega arith)
  pays (Reading CounterNumber seen) b = paid_if (eqb b 0x01) 6 _ [] (omega arith)
  pays (Reading CounterEnd seen) b = paid_if (eqb b 0x1C) 9 _ v.digits (omega (arith, nine))
  pays Done b = omega arith
  pays Bad b = omega arith

  strip_fits_from : (m : Mode) (s : List ℕ) → length (strip_from v m s) ≤ 3 * length s + credit m
  strip_fits_from m [] = omega arith
  strip_fits_from m (b ∷ s) =
      omega (arith, length-append (where_good (step m b) (shown_by v m b)) (strip_from v (step m b) s), pays m b, strip_fits_from (step m b) s)

  pub strip_fits : (s : List ℕ) → length (strip v s) ≤ 3 * length s
  unfolding strip
  strip_fits s = omega (arith, strip_fits_from start s)
