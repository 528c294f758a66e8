-- The moderator's case: a name of any characters and the date item behind it lead back into the block, and show the name and the date's
-- text.
use Prim.Native.Nat.{ℕ}
use mathlib.Core.Bool.{true}
use mathlib.Core.List.{List, [], ◌∷◌, ◌++◌, append_assoc}
use mathlib.Core.Path.{◌≡◌, refl}
use lib.ListN.{length, replicate}
use Rattle.content.specs.Byte.{is_character, all_characters}
use Rattle.content.specs.Grammar.{characters, date, all_codes, date_text}
use Rattle.content.specs.Marks.{between}
use Rattle.content.specs.Tree.{nothing}
use Rattle.content.specs.declared.item.Seen.{Seen}
use Rattle.content.specs.declared.position.Mark.TheVariants.{Character, Structure}
use Rattle.content.specs.declared.strip.Values.{Values}
use Rattle.frame.proofs.Ground.{both_true}
use Rattle.content.proofs.Pieces.{Piece, in_block, behind, piece_then, character_piece, date_piece}

abbrev pub named : List ℕ → List ℕ → List ℕ
named name codes = name ++ (0x1B ∷ codes ++ (0x1B ∷ []))

pub name_piece :
    (v : Values) (seen : Seen) (name codes : List ℕ) → all_characters name ≡ true → all_codes codes ≡ true →
    Piece v (in_block seen) (named name codes) (in_block seen)
    nothing (behind [] (characters name ++ (date codes ∷ [])) [] []) (name ++ date_text v codes)
    (replicate (length name) Character ++ between Structure codes) []
name_piece v seen [] codes p q = date_piece v [] [] [] seen codes q
name_piece v seen (c ∷ name) codes p q =
    let h = both_true (is_character c) (all_characters name) p in
    piece_then (character_piece v _ [] [] seen c h.0) (name_piece v seen name codes h.1 q) refl refl

pub regrouped : (name codes rest : List ℕ) → name ++ (0x1B ∷ codes ++ (0x1B ∷ rest)) ≡ named name codes ++ rest
regrouped name codes rest = simp append_assoc
