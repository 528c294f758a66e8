-- Document 01's samples of contents, and bad neighbours of each, computed over the rules; then each number of an edit, an update and a
-- strip.
use Prim.Native.Nat.{ℕ, zero, suc}
use mathlib.Core.List.{List, [], ◌∷◌, ◌++◌, map}
use mathlib.Core.Path.{◌≡◌, refl}
use lib.ListN.{drop, replicate}
use Rattle.frame.specs.Ground.{placed, plain}
use Rattle.frame.specs.declared.given.Given.{Given}
use Rattle.content.specs.Byte.{is_character, is_expansion, is_count, kind_of, code_of}
use Rattle.content.specs.Machine.{start, with_line, with_field}
use Rattle.content.specs.Content.{verdict, is_content, tested, wrong_place}
use Rattle.content.specs.Position.{mark_of, marks}
use Rattle.content.specs.Edit as edits
use Rattle.content.specs.Update as updates
use Rattle.frame.specs.Build as build
use Rattle.content.specs.Strip as strips
use Rattle.content.specs.declared.position.Mark.TheVariants.{Structure, Character, FieldCharacter}
use Rattle.content.specs.declared.strip.Values.{Values}

pub record Sample : Type 0 where
  pub bytes : List ℕ
  pub given : Given

sample : List ℕ → Given → Sample
sample s g = record { bytes = s; given = g }

-- A line with a block of expansion 1 and font 1 before the rest.
line : List ℕ → List ℕ
line rest = 0x0A ∷ 0x01 ∷ 0x01 ∷ rest

-- So many empty fields.
fields : ℕ → List ℕ
fields zero = []
fields (suc n) = 0x12 ∷ 0x12 ∷ fields n

frame_a : List ℕ
frame_a =
    0x0A ∷ 0x02 ∷ 0x38 ∷ 0x49 ∷ 0x4D ∷ 0x41 ∷ 0x4A ∷ 0x45 ∷ 0x20 ∷ 0x01 ∷ 0x54 ∷ 0x46 ∷ 0x52 ∷ 0x41 ∷ 0x4E ∷ 0x43 ∷ 0x45 ∷ 0x0D ∷ []

samples : List Sample
samples =
    sample frame_a (plain 0)
    ∷ sample (0x0A ∷ 0x01 ∷ 0x01 ∷ 0x0D ∷ []) (plain 0)
    ∷ sample (0x0A ∷ 0x0D ∷ []) (placed 10 1)
    ∷ sample (0x0D ∷ []) (placed 10 0)
    ∷ sample [] (placed 10 0)
    ∷ sample (line (0x1E ∷ 0x0D ∷ 0x1E ∷ 0x0D ∷ [])) (plain 0)
    ∷ sample (line (0x1E ∷ 0x00 ∷ 0x1E ∷ 0x0D ∷ [])) (placed 10 4)
    ∷ sample (line (0x1E ∷ 0xFF ∷ 0x1E ∷ 0x0D ∷ [])) (plain 0)
    ∷ sample (0x0A ∷ 0x00 ∷ 0x01 ∷ 0x0D ∷ []) (placed 10 1)
    ∷ sample (0x0A ∷ 0x0A ∷ 0x01 ∷ 0x0D ∷ []) (placed 10 1)
    ∷ sample (0x0A ∷ 0x09 ∷ 0x0A ∷ 0x0D ∷ []) (plain 0)
    ∷ sample (0x0A ∷ 0x01 ∷ 0x00 ∷ 0x0D ∷ []) (placed 10 2)
    ∷ sample (line (line (line (line (0x0D ∷ []))))) (plain 0)
    ∷ sample (line (line (line (line (line (0x0D ∷ [])))))) (placed 10 12)
    ∷ sample (line (0x0D ∷ 0x0D ∷ [])) (placed 10 4)
    ∷ sample (line []) (placed 10 3)
    ∷ sample (line (0x1C ∷ 0x01 ∷ 0x1C ∷ 0x0D ∷ [])) (plain 0)
    ∷ sample (line (0x1C ∷ 0x02 ∷ 0x1C ∷ 0x0D ∷ [])) (placed 10 4)
    ∷ sample (line (0x12 ∷ 0x41 ∷ 0x12 ∷ 0x0D ∷ [])) (plain 0)
    ∷ sample (line (0x12 ∷ 0x0D ∷ 0x12 ∷ 0x0D ∷ [])) (placed 10 4)
    ∷ sample (line (0x1B ∷ 0x55 ∷ 0x70 ∷ 0x1B ∷ 0x0D ∷ [])) (plain 0)
    ∷ sample (line (0x1B ∷ 0x5E ∷ 0x1B ∷ 0x0D ∷ [])) (placed 10 4)
    ∷ sample (line (0x7F ∷ 0x0D ∷ [])) (placed 10 3)
    ∷ sample (line (fields 10 ++ (0x0D ∷ []))) (plain 0)
    ∷ sample (line (fields 11 ++ (0x0D ∷ []))) (placed 10 23)
    ∷ sample (line (replicate 508 0x41 ++ (0x0D ∷ []))) (plain 0)
    ∷ sample (line (replicate 509 0x41 ++ (0x0D ∷ []))) (placed 10 512)
    ∷ sample (line (replicate 509 0x41)) (placed 10 512)
    ∷ sample (0x0D ∷ replicate 511 0x41) (placed 10 0)
    ∷ sample (0x0D ∷ replicate 512 0x41) (placed 10 512)
    ∷ sample (0x0A ∷ []) (placed 10 1)
    ∷ sample (line (0x1E ∷ 0x03 ∷ 0x1C ∷ [])) (placed 10 5)
    ∷ sample (line (0x1E ∷ 0x03 ∷ [])) (placed 10 5)
    ∷ []

-- What the rules make of a sample's bytes.
judged : Sample → Sample
judged s = sample s.bytes (tested s.bytes)

samples_hold : map judged samples ≡ samples
unfolding judged samples sample line fields frame_a tested is_content wrong_place verdict with_line with_field kind_of code_of is_character is_expansion is_count
samples_hold = refl

-- ---- Character positions, edits, updates and strips of one content: a letter, a field with a letter, a counter, and a date item with a
-- colon.
mixed : List ℕ
mixed =
    0x0A ∷ 0x02 ∷ 0x54 ∷ 0x41 ∷ 0x12 ∷ 0x42 ∷ 0x43 ∷ 0x12 ∷ 0x1C ∷ 0x01 ∷ 0x1C ∷ 0x1B ∷ 0x70 ∷ 0x1B ∷ 0x0D ∷ []

-- The font 54h and the code 70h look like letters and are none; 41h is a letter, 42h and 43h are letters of the field.
mixed_marks : marks start mixed
    ≡ Structure
    ∷ Structure
    ∷ Structure
    ∷ Character
    ∷ Structure
    ∷ FieldCharacter
    ∷ FieldCharacter
    ∷ Structure
    ∷ Structure
    ∷ Structure
    ∷ Structure
    ∷ Structure
    ∷ Structure
    ∷ Structure
    ∷ Structure
    ∷ []
unfolding mixed mark_of kind_of code_of is_character is_expansion is_count with_line with_field
mixed_marks = refl

-- An edit at an address: what it gives, and the bytes after it.
edit_at : ℕ → List ℕ → Given × List ℕ
edit_at address symbols =
    let r = edits.edited mixed address symbols in
    (build.given_by r, edits.bytes_after r mixed address symbols)

-- Numbers 0, 12 and 13; all addresses are looked at before all symbols, and a refusal leaves every byte. 12 has the first address that is
-- none, also behind the last byte and far behind it, 13 the index among the symbols.
edits_hold :
    edit_at 3 (0x5A ∷ [])
    ∷ edit_at 6 (0x5A ∷ [])
    ∷ edit_at 2 (0x5A ∷ [])
    ∷ edit_at 3 (0x5A ∷ 0x5A ∷ [])
    ∷ edit_at 5 (0x5A ∷ 0x5A ∷ 0x5A ∷ 0x5A ∷ [])
    ∷ edit_at 15 (0x5A ∷ [])
    ∷ edit_at 65535 (0x5A ∷ 0x5A ∷ [])
    ∷ edit_at 3 (0x0D ∷ [])
    ∷ edit_at 5 (0x5A ∷ 0x0D ∷ [])
    ∷ edit_at 4 (0x0D ∷ [])
    ∷ edit_at 65535 []
    ∷ []
    ≡ (plain 0, 0x0A ∷ 0x02 ∷ 0x54 ∷ 0x5A ∷ drop 4 mixed)
    ∷ (plain 0, 0x0A ∷ 0x02 ∷ 0x54 ∷ 0x41 ∷ 0x12 ∷ 0x42 ∷ 0x5A ∷ drop 7 mixed)
    ∷ (placed 12 2, mixed)
    ∷ (placed 12 4, mixed)
    ∷ (placed 12 7, mixed)
    ∷ (placed 12 15, mixed)
    ∷ (placed 12 65535, mixed)
    ∷ (placed 13 0, mixed)
    ∷ (placed 13 1, mixed)
    ∷ (placed 12 4, mixed)
    ∷ (plain 0, mixed)
    ∷ []
unfolding edit_at mixed edits.edited mark_of kind_of code_of is_character is_expansion is_count with_line with_field
edits_hold = refl

-- An update with a text: what it gives, and the bytes after it.
update_with : List ℕ → Given × List ℕ
update_with text =
    let r = updates.updated mixed text in
    (build.given_by r, updates.bytes_after r mixed text)

-- Numbers 0, 18 and 13: two positions take two characters, and no other number of bytes, characters or not; a refusal leaves every byte.
updates_hold :
    map update_with
    ((0x58 ∷ 0x59 ∷ []) ∷ (0x2C ∷ 0x20 ∷ []) ∷ [] ∷ (0x58 ∷ []) ∷ (0x58 ∷ 0x59 ∷ 0x5A ∷ []) ∷ (0x58 ∷ 0x59 ∷ 0x0D ∷ []) ∷ (0x0D ∷ []) ∷ (0x58 ∷ 0x0D ∷ []) ∷ [])
    ≡ (plain 0, 0x0A ∷ 0x02 ∷ 0x54 ∷ 0x41 ∷ 0x12 ∷ 0x58 ∷ 0x59 ∷ drop 7 mixed)
    ∷ (plain 0, 0x0A ∷ 0x02 ∷ 0x54 ∷ 0x41 ∷ 0x12 ∷ 0x2C ∷ 0x20 ∷ drop 7 mixed)
    ∷ (plain 18, mixed)
    ∷ (plain 18, mixed)
    ∷ (plain 18, mixed)
    ∷ (plain 18, mixed)
    ∷ (plain 18, mixed)
    ∷ (placed 13 1, mixed)
    ∷ []
unfolding update_with mixed updates.updated mark_of kind_of code_of is_character is_expansion is_count with_line with_field
updates_hold = refl

-- A counter at 123456789.
moment : Values
moment =
    record {
      digits = 0x31 ∷ 0x32 ∷ 0x33 ∷ 0x34 ∷ 0x35 ∷ 0x36 ∷ 0x37 ∷ 0x38 ∷ 0x39 ∷ [];
      entries = replicate 24 0x00;
    }

-- A strip into so much room: what it gives, its length and its bytes.
strip_into : ℕ → List ℕ → Given × ℕ × List ℕ
strip_into room s =
    let r = strips.stripped (strips.strip_tests moment s room) moment s in
    (build.given_by r, build.length_given r, strips.strip_bytes r moment s)

-- Numbers 0, 10 and 2, and 10 before 2: a byte less than the strip of 17 is too short.
strips_hold :
    strip_into 17 mixed ∷ strip_into 16 mixed ∷ strip_into 17 (0x0D ∷ []) ∷ strip_into 0 (0x0D ∷ []) ∷ []
    ≡ (
      plain 0,
      17,
      0x0A ∷ 0x02 ∷ 0x54 ∷ 0x41 ∷ 0x42 ∷ 0x43 ∷ 0x31 ∷ 0x32 ∷ 0x33 ∷ 0x34 ∷ 0x35 ∷ 0x36 ∷ 0x37 ∷ 0x38 ∷ 0x39 ∷ 0x3A ∷ 0x0D ∷ [],
    )
    ∷ (plain 2, 0, [])
    ∷ (placed 10 0, 0, [])
    ∷ (placed 10 0, 0, [])
    ∷ []
unfolding strip_into moment mixed strips.stripped strips.strip strips.printed is_content wrong_place verdict mark_of kind_of code_of is_character is_expansion is_count with_line with_field
strips_hold = refl
