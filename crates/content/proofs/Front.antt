-- The bytes in a row that hold a test lie within the bytes, and all bytes are characters where so many stand in front.
use Prim.Native.Nat.{ℕ, suc, ◌+◌, ◌≤◌, ◌<◌}
use mathlib.Core.Bool.{Bool, true, false}
use mathlib.Core.List.{List, [], ◌∷◌}
use mathlib.Core.Path.{◌≡◌, refl}
use native.Mathlib.Omega.{arith}
use lib.ListN.{length, drop, length-drop}
use Rattle.std.proofs.lemmas.List.Sums.{prefix_len-le-length}
use Rattle.std.specs.List.{prefix_len}
use Rattle.std.specs.Prelude.{cond}
use Rattle.frame.specs.Ground.{both}
use Rattle.content.specs.Byte.{all_characters, is_character, is_code, code_of}
use Rattle.content.specs.Item.{characters_end, codes_end}

row_inside : (holds : ℕ → Bool) (s : List ℕ) (at : ℕ) → at ≤ length s → at + prefix_len holds (drop at s) ≤ length s
row_inside holds s at h = omega (arith, h, length-drop at s, prefix_len-le-length holds (drop at s))

pub characters_inside : (s : List ℕ) (at : ℕ) → at ≤ length s → characters_end s at ≤ length s
unfolding characters_end
characters_inside s at h = row_inside is_character s at h

pub codes_inside : (s : List ℕ) (at : ℕ) → at ≤ length s → codes_end s at ≤ length s
unfolding codes_end
codes_inside s at h = row_inside (λ b. is_code (code_of b)) s at h

pub all_in_front : (s : List ℕ) → length s ≤ prefix_len is_character s → all_characters s ≡ true
all_in_front [] h = refl
all_in_front (b ∷ s) h = go (is_character b) h (all_in_front s)
  where
    go : (t : Bool) → suc (length s) ≤ cond t (1 + prefix_len is_character s) 0 → (length s ≤ prefix_len is_character s → all_characters s ≡ true) → both t (all_characters s) ≡ true
    go true h again = again (omega arith)
    go false h again = absurd (omega arith)

pub some_other : (s : List ℕ) → prefix_len is_character s < length s → all_characters s ≡ false
some_other [] h = absurd (omega arith)
some_other (b ∷ s) h = go (is_character b) h (some_other s)
  where
    go : (t : Bool) → cond t (1 + prefix_len is_character s) 0 < suc (length s) → (prefix_len is_character s < length s → all_characters s ≡ false) → both t (all_characters s) ≡ false
    go true h again = again (omega arith)
    go false h again = refl
