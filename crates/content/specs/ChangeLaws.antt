-- What is true of changes: edits and updates put characters at character positions, and leave everything else as it was.
use Rattle.std.specs.Prelude.{ℕ, ◌+◌, ◌≤◌, ◌<◌, true, false, List, [], ◌∷◌, ◌↔◌, ◌≡◌, length, get_or}
use Rattle.frame.specs.Ground.{all}
use Rattle.content.specs.Byte.{is_character, all_characters}
use Rattle.content.specs.Machine.{Mode, start, step}
use Rattle.content.specs.Content.{good, verdict, is_content}
use Rattle.content.specs.Position.{at_fields, marks, mark_of, is_position, is_field_position, field_positions}
use Rattle.content.specs.Edit as edit
use Rattle.content.specs.Edit.{done, edit_tests, edited, replaced}
use Rattle.content.specs.Update as update
use Rattle.content.specs.Update.{laid, update_tests, updated}
use Rattle.content.specs.Marks.{tree_letters, tree_marks}
use Rattle.content.specs.Grammar.{outline}
use Rattle.content.specs.Tree.{tree_of}
use Rattle.content.specs.declared.position.Mark.TheVariants.{Structure}

-- What a refusal leaves: every byte. The first write stands behind the last test.
abbrev pub RefusedEditLeaves : Type 0
RefusedEditLeaves =
    (s : List ℕ) (address : ℕ) (symbols : List ℕ) →
    all (edit_tests s address symbols) ≡ false →
    edit.bytes_after (edited s address symbols) s address symbols ≡ s

abbrev pub RefusedUpdateLeaves : Type 0
RefusedUpdateLeaves =
    (s text : List ℕ) → all (update_tests (field_positions s) text) ≡ false →
    update.bytes_after (updated s text) s text ≡ s

-- Two lists of bytes that differ only where the first has character positions, and there the second has characters.
pub data Changed : Mode → List ℕ → List ℕ → Type 0 where
  none : {m : Mode} → Changed m [] []
  kept : {m : Mode} {b : ℕ} {s t : List ℕ} → Changed (step m b) s t → Changed m (b ∷ s) (b ∷ t)
  changed : {m : Mode} {b c : ℕ} {s t : List ℕ} → is_position (mark_of m b) ≡ true → is_character c ≡ true → Changed (step m b) s t → Changed m (b ∷ s) (c ∷ t)

-- What such a change leaves as it was.
pub record Kept (s t : List ℕ) : Type 0 where
  pub length_kept : length t ≡ length s
  pub verdict_kept : verdict t ≡ verdict s
  pub marks_kept : marks start t ≡ marks start s
  pub field_positions_kept : field_positions t ≡ field_positions s
  pub outline_kept : outline (tree_of t) ≡ outline (tree_of s)

abbrev pub ChangeKeeps : Type 0
ChangeKeeps = (s t : List ℕ) → Changed start s t → Kept s t

-- An accepted edit is such a change.
abbrev pub EditChanges : Type 0
EditChanges =
    (s : List ℕ) (address : ℕ) (symbols : List ℕ) →
    edited s address symbols ≡ done →
    Changed start s (replaced s address symbols)

abbrev pub EditKeepsLength : Type 0
EditKeepsLength =
    (s : List ℕ) (address : ℕ) (symbols : List ℕ) →
    edited s address symbols ≡ done →
    length (replaced s address symbols) ≡ length s

-- So a content stays a content.
abbrev pub EditStaysContent : Type 0
EditStaysContent =
    (s : List ℕ) (address : ℕ) (symbols : List ℕ) →
    is_content s ≡ true →
    edited s address symbols ≡ done →
    (is_content (replaced s address symbols) ≡ true) × Kept s (replaced s address symbols)

-- 01, What an accepted frame does: "42h replaces bytes from the address on": each symbol lands where it is addressed to.
abbrev pub EditLands : Type 0
EditLands =
    (s : List ℕ) (address : ℕ) (symbols : List ℕ) (k : ℕ) →
    edited s address symbols ≡ done →
    k < length symbols →
    get_or (replaced s address symbols) (address + k) 0 ≡ get_or symbols k 0

-- Each of them lands on a character of the tree, be it an item or inside a field.
abbrev pub EditAddresses : Type 0
EditAddresses =
    (s : List ℕ) (address : ℕ) (symbols : List ℕ) (k : ℕ) →
    verdict s ≡ good →
    edited s address symbols ≡ done →
    k < length symbols →
    is_position (get_or (tree_marks (tree_of s)) (address + k) Structure) ≡ true

-- The bytes before and behind those stay.
abbrev pub EditElsewhere : Type 0
EditElsewhere =
    (s : List ℕ) (address : ℕ) (symbols : List ℕ) (i : ℕ) →
    edited s address symbols ≡ done →
    (i < address → get_or (replaced s address symbols) i 0 ≡ get_or s i 0)
    × (address + length symbols ≤ i → get_or (replaced s address symbols) i 0 ≡ get_or s i 0)

-- An update is such a change too.
abbrev pub UpdateChanges : Type 0
UpdateChanges = (s text : List ℕ) → all_characters text ≡ true → Changed start s (laid text start s)

-- Its length stays whatever the text is.
abbrev pub UpdateKeepsLength : Type 0
UpdateKeepsLength = (s text : List ℕ) → length (laid text start s) ≡ length s

abbrev pub UpdateStaysContent : Type 0
UpdateStaysContent =
    (s text : List ℕ) →
    is_content s ≡ true →
    all_characters text ≡ true →
    (is_content (laid text start s) ≡ true) × Kept s (laid text start s)

-- 02, Wish 3: "An update's characters must be exactly as many as the field positions": in the words of the grammar, as many as the
-- characters of the tree's fields.
abbrev pub UpdateTaken : Type 0
UpdateTaken =
    (s text : List ℕ) →
    verdict s ≡ good →
    (updated s text ≡ done) ↔ ((length text ≡ length (tree_letters (tree_of s))) × (all_characters text ≡ true))

-- 01, What an accepted frame does: "An update lays its characters over the character positions of external fields [..], fields in
-- order": each position gets its own, and none is lost.
abbrev pub UpdateLands : Type 0
UpdateLands = (s text : List ℕ) → updated s text ≡ done → at_fields start (laid text start s) ≡ text

-- The same in the words of the grammar: the characters of the tree's fields, in order, become the text.
abbrev pub UpdateLetters : Type 0
UpdateLetters =
    (s text : List ℕ) → verdict s ≡ good → updated s text ≡ done → tree_letters (tree_of (laid text start s)) ≡ text

-- Every other byte stays.
abbrev pub UpdateElsewhere : Type 0
UpdateElsewhere =
    (s text : List ℕ) (i : ℕ) →
    is_field_position (get_or (marks start s) i Structure) ≡ false →
    get_or (laid text start s) i 0 ≡ get_or s i 0

-- Which positions these are, a tree says.
abbrev pub MarksOfContent : Type 0
MarksOfContent = (s : List ℕ) → verdict s ≡ good → marks start s ≡ tree_marks (tree_of s)

abbrev pub PositionsOfContent : Type 0
PositionsOfContent = (s : List ℕ) → verdict s ≡ good → field_positions s ≡ length (tree_letters (tree_of s))
