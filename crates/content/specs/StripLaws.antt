-- What is true of strips: each is the writing of its content's tree with the items replaced, and a content but for the 512.
use Rattle.std.specs.Prelude.{ℕ, ◌+◌, ◌*◌, ◌≤◌, Bool, true, List, [], ◌∷◌, ◌++◌, ◌≡◌, eqb, length}
use Rattle.frame.specs.Ground.{pick, both}
use Rattle.content.specs.Byte.{all_characters, is_character}
use Rattle.content.specs.Content.{good, verdict, read}
use Rattle.content.specs.Machine.{Inside, Reading}
use Rattle.content.specs.Strip.{strip, strip_from}
use Rattle.content.specs.Grammar.{encode, resolved, shape, all_codes, date_text}
use Rattle.content.specs.Tree.{tree_of}
use Rattle.content.specs.declared.item.Place.TheVariants.{Block}
use Rattle.content.specs.declared.item.Seen.{Seen}
use Rattle.content.specs.declared.strip.Values.{Values}

-- What items stand for is printable: the counter's nine digits, and entries of characters and 00h.
abbrev pub printable : List ℕ → Bool
printable [] = true
printable (b ∷ s) = both (pick (eqb b 0x00) true (is_character b)) (printable s)

pub record Printable (v : Values) : Type 0 where
  pub digits : all_characters v.digits ≡ true
  pub nine : length v.digits ≡ 9
  pub entries : printable v.entries ≡ true

-- 01, What an accepted frame does: "A strip is the content with each counter replaced by its 9 digits [..], each field by its
-- characters, each date item by its text": the writing of the tree with each item replaced by what it stands for.
abbrev pub StripResolves : Type 0
StripResolves = (v : Values) (s : List ℕ) → verdict s ≡ good → strip v s ≡ encode (resolved v (tree_of s))

-- Every strip runs to its end mark.
abbrev pub StripEnds : Type 0
StripEnds =
    (v : Values) (s : List ℕ) → verdict s ≡ good → (p : List ℕ) × (strip v s ≡ p ++ (0x0D ∷ []))

-- 01, What an accepted frame does: "A strip is itself a content but for the 512".
abbrev pub StripIsContent : Type 0
StripIsContent = (v : Values) (s : List ℕ) → Printable v → verdict s ≡ good → verdict (strip v s) ≡ good

-- The tree of a strip is the content's with each item replaced.
abbrev pub StripTree : Type 0
StripTree =
    (v : Values) (s : List ℕ) → Printable v → verdict s ≡ good → tree_of (strip v s) ≡ resolved v (tree_of s)

-- So it has the same lines, blocks, expansions and fonts.
abbrev pub StripSameShape : Type 0
StripSameShape =
    (v : Values) (s : List ℕ) → Printable v → verdict s ≡ good → shape (tree_of (strip v s)) ≡ shape (tree_of s)

-- 01, What an accepted frame does: "and its own strip is itself", whatever counter and moment it is made with.
abbrev pub StripOfStrip : Type 0
StripOfStrip =
    (v w : Values) (s : List ℕ) → Printable v → verdict s ≡ good → strip w (strip v s) ≡ strip v s

-- A strip is at most three times as long as its content.
abbrev pub StripLength : Type 0
StripLength = (v : Values) (s : List ℕ) → Printable v → verdict s ≡ good → length (strip v s) ≤ 3 * length s

-- The moderator's case: a name of any characters in a block, and the date item behind it still stands and prints.
abbrev pub NameStays : Type 0
NameStays =
    (v : Values) (seen : Seen) (name codes behind : List ℕ) →
    all_characters name ≡ true →
    all_codes codes ≡ true →
    strip_from v (Reading (Inside Block) seen) (name ++ (0x1B ∷ codes ++ (0x1B ∷ behind)))
    ≡ name ++ (date_text v codes ++ strip_from v (Reading (Inside Block) seen) behind)

-- The same case for the verdict: the bytes behind the date item are read as if they stood there alone, that far on.
abbrev pub NameReads : Type 0
NameReads =
    (seen : Seen) (i : ℕ) (name codes behind : List ℕ) →
    all_characters name ≡ true →
    all_codes codes ≡ true →
    read i (Reading (Inside Block) seen) (name ++ (0x1B ∷ codes ++ (0x1B ∷ behind)))
    ≡ read (i + (length name + length codes + 2)) (Reading (Inside Block) seen) behind
