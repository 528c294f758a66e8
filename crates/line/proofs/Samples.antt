-- The console's lines of documents 01 and 02, and places of one digit to five, computed over the rule.
use Prim.Native.Nat.{ℕ}
use mathlib.Core.List.{List, [], ◌∷◌, map}
use mathlib.Core.Path.{◌≡◌, refl}
use Rattle.frame.specs.Ground.{plain, placed}
use Rattle.frame.specs.declared.given.Given.{Given}
use Rattle.line.specs.Line.{decimal, decimal_in, hex_digit, line}

-- What is given, an answer, and the line that must come out.
pub record Sample : Type 0 where
  pub given : Given
  pub answer : List ℕ
  pub text : List ℕ

pub sample : Given → List ℕ → List ℕ → Sample
sample given answer text = record { given = given; answer = answer; text = text }

-- "0 06", "11 15", "1 " and "255 A90F".
pub samples : List Sample
samples =
    sample (plain 0) (0x06 ∷ []) (0x30 ∷ 0x20 ∷ 0x30 ∷ 0x36 ∷ 0x0A ∷ [])
    ∷ sample (plain 11) (0x15 ∷ []) (0x31 ∷ 0x31 ∷ 0x20 ∷ 0x31 ∷ 0x35 ∷ 0x0A ∷ [])
    ∷ sample (plain 1) [] (0x31 ∷ 0x20 ∷ 0x0A ∷ [])
    ∷ sample (plain 255) (0xA9 ∷ 0x0F ∷ []) (0x32 ∷ 0x35 ∷ 0x35 ∷ 0x20 ∷ 0x41 ∷ 0x39 ∷ 0x30 ∷ 0x46 ∷ 0x0A ∷ [])
    ∷ []

-- "10:3 15", "13:0 15", "10:512 15", "13:1023 15" and "12:65535 15".
pub samples_placed : List Sample
samples_placed =
    sample (placed 10 3) (0x15 ∷ []) (0x31 ∷ 0x30 ∷ 0x3A ∷ 0x33 ∷ 0x20 ∷ 0x31 ∷ 0x35 ∷ 0x0A ∷ [])
    ∷ sample (placed 13 0) (0x15 ∷ []) (0x31 ∷ 0x33 ∷ 0x3A ∷ 0x30 ∷ 0x20 ∷ 0x31 ∷ 0x35 ∷ 0x0A ∷ [])
    ∷ sample (placed 10 512) (0x15 ∷ []) (0x31 ∷ 0x30 ∷ 0x3A ∷ 0x35 ∷ 0x31 ∷ 0x32 ∷ 0x20 ∷ 0x31 ∷ 0x35 ∷ 0x0A ∷ [])
    ∷ sample (placed 13 1023) (0x15 ∷ []) (0x31 ∷ 0x33 ∷ 0x3A ∷ 0x31 ∷ 0x30 ∷ 0x32 ∷ 0x33 ∷ 0x20 ∷ 0x31 ∷ 0x35 ∷ 0x0A ∷ [])
    ∷ sample (placed 12 65535) (0x15 ∷ []) (0x31 ∷ 0x32 ∷ 0x3A ∷ 0x36 ∷ 0x35 ∷ 0x35 ∷ 0x33 ∷ 0x35 ∷ 0x20 ∷ 0x31 ∷ 0x35 ∷ 0x0A ∷ [])
    ∷ []

abbrev Hold : List Sample → Type 0
Hold all = map (λ (s : Sample). line s.given s.answer) all ≡ map (λ (s : Sample). s.text) all

pub all_hold : Hold samples
unfolding decimal decimal_in hex_digit sample samples
all_hold = refl

pub placed_hold : Hold samples_placed
unfolding decimal decimal_in hex_digit sample samples_placed
placed_hold = refl
