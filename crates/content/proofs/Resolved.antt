-- A tree with each item replaced by what it stands for: it stays good, is its own replacement, and grows to three times its writing at
-- most.
use Prim.Native.Nat.{ℕ, zero, suc, ◌*◌, ◌≤◌}
use mathlib.Core.Bool.{Bool, true, false}
use mathlib.Core.List.{List, [], ◌∷◌, ◌++◌, append_assoc, map, map-map}
use mathlib.Core.Path.{◌≡◌, refl, ap}
use Rattle.std.specs.Prelude.{None, Option, Some}
use native.Mathlib.Omega.{arith}
use lib.Dec.{eqb}
use lib.ListN.{length, get_or, length-append, length-map}
use Rattle.frame.specs.Ground.{pick, both}
use Rattle.content.specs.Byte.{is_character, is_expansion, is_count, all_characters, code_of}
use Rattle.content.specs.Strip.{character_of, printed}
use Rattle.content.specs.Grammar.{Item, Block, Line, Tree, character, tabulation, counter, field, date, item_bytes, items_bytes, blocks_bytes, lines_bytes, encode, good_item, good_items, good_block, good_blocks, good_line, good_lines, items_fields, blocks_fields, lines_fields, good_tree, characters, code_text, date_text, stands_for, resolved_items, resolved_block, resolved, block_shape, shape}
use Rattle.content.specs.StripLaws.{Printable, printable}
use Rattle.content.specs.declared.byte.Code.{Code}
use Rattle.content.specs.declared.byte.Code.TheVariants.{Entry, Colon, Slash, Dot, Space}
use Rattle.content.specs.declared.byte.Code.{Code}
use Rattle.content.specs.declared.strip.Values.{Values}
use Rattle.frame.proofs.Ground.{both_true, pick_case, true_both}
use Rattle.content.proofs.Good.{good_tree_tells, tree_is_good}

pub characters_bytes : (cs : List ℕ) → items_bytes (characters cs) ≡ cs
characters_bytes [] = refl
characters_bytes (c ∷ cs) = ap (◌∷◌ c) (characters_bytes cs)

pub items_bytes_append : (is js : List Item) → items_bytes (is ++ js) ≡ items_bytes is ++ items_bytes js
items_bytes_append [] js = refl
items_bytes_append (i ∷ is) js = rw (items_bytes_append is js, append_assoc)

all_characters_append : (cs ds : List ℕ) → all_characters cs ≡ true → all_characters ds ≡ true → all_characters (cs ++ ds) ≡ true
all_characters_append [] ds p q = q
all_characters_append (c ∷ cs) ds p q =
    let h = both_true (is_character c) (all_characters cs) p in
    true_both (is_character c) (all_characters (cs ++ ds)) h.0 (all_characters_append cs ds h.1 q)

good_items_append : (is js : List Item) → good_items is ≡ true → good_items js ≡ true → good_items (is ++ js) ≡ true
good_items_append [] js p q = q
good_items_append (i ∷ is) js p q =
    let h = both_true (good_item i) (good_items is) p in
    true_both (good_item i) (good_items (is ++ js)) h.0 (good_items_append is js h.1 q)

good_characters : (cs : List ℕ) → all_characters cs ≡ true → good_items (characters cs) ≡ true
good_characters [] e = refl
good_characters (c ∷ cs) e =
    let h = both_true (is_character c) (all_characters cs) e in
    true_both (is_character c) (good_items (characters cs)) h.0 (good_characters cs h.1)

-- A byte that prints nothing or a character.
abbrev prints : ℕ → Bool
prints b = pick (eqb b 0x00) true (is_character b)

prints_at : (s : List ℕ) (k : ℕ) → printable s ≡ true → prints (get_or s k 0) ≡ true
prints_at [] k e = refl
prints_at (b ∷ s) zero e = (both_true (prints b) (printable s) e).0
prints_at (b ∷ s) (suc k) e = prints_at s k (both_true (prints b) (printable s) e).1

module _ (v : Values) (p : Printable v) where
  code_prints : (c : Code) → prints (character_of v c) ≡ true
  unfolding is_character
  code_prints (Entry k) = prints_at v.entries k p.entries
  code_prints Colon = refl
  code_prints Slash = refl
  code_prints Dot = refl
  code_prints Space = refl

  code_text_characters : (c : Option Code) → all_characters (code_text v c) ≡ true
  unfolding printed
  code_text_characters (Some c) = go (eqb (character_of v c) 0x00) (code_prints c)
    where
      go : (x : Bool) → pick x true (is_character (character_of v c)) ≡ true → all_characters (pick x [] (character_of v c ∷ [])) ≡ true
      go true e = refl
      go false e = rw e
  code_text_characters None = refl

  date_text_characters : (cs : List ℕ) → all_characters (date_text v cs) ≡ true
  date_text_characters [] = refl
  date_text_characters (c ∷ cs) =
      all_characters_append (code_text v (code_of c)) (date_text v cs) (code_text_characters (code_of c)) (date_text_characters cs)

  stands_for_good : (i : Item) → good_item i ≡ true → good_items (stands_for v i) ≡ true
  stands_for_good (character c) e = true_both (is_character c) true e refl
  stands_for_good (tabulation n) e = true_both (is_count n) true e refl
  stands_for_good (counter n) e = good_characters v.digits p.digits
  stands_for_good (field cs) e = good_characters cs e
  stands_for_good (date cs) e = good_characters (date_text v cs) (date_text_characters cs)

  resolved_items_good : (is : List Item) → good_items is ≡ true → good_items (resolved_items v is) ≡ true
  resolved_items_good [] e = refl
  resolved_items_good (i ∷ is) e =
      let h = both_true (good_item i) (good_items is) e in
      good_items_append (stands_for v i) (resolved_items v is) (stands_for_good i h.0) (resolved_items_good is h.1)

  resolved_block_good : (b : Block) → good_block b ≡ true → good_block (resolved_block v b) ≡ true
  resolved_block_good b e =
      let g = both_true (is_expansion b.expansion) (both (is_count b.font) (good_items b.items)) e in
      let k = both_true (is_count b.font) (good_items b.items) g.1 in
      rw (g.0, k.0) (resolved_items_good b.items k.1)

  resolved_blocks_good : (bs : List Block) → good_blocks bs ≡ true → good_blocks (map (resolved_block v) bs) ≡ true
  resolved_blocks_good [] e = refl
  resolved_blocks_good (b ∷ bs) e =
      let h = both_true (good_block b) (good_blocks bs) e in
      rw (resolved_block_good b h.0) (resolved_blocks_good bs h.1)

  resolved_line_good : (x : Line) → good_line x ≡ true → good_line (map (resolved_block v) x) ≡ true
  resolved_line_good [] e = e
  resolved_line_good (b ∷ bs) e = resolved_blocks_good (b ∷ bs) e

  resolved_lines_good : (t : Tree) → good_lines t ≡ true → good_lines (resolved v t) ≡ true
  resolved_lines_good [] e = refl
  resolved_lines_good (x ∷ t) e =
      let h = both_true (good_line x) (good_lines t) e in
      rw (resolved_line_good x h.0) (resolved_lines_good t h.1)

-- What is left are characters and tabulations.
data Plain : List Item → Type 0 where
  none : Plain []
  one_character : {c : ℕ} {is : List Item} → Plain is → Plain (character c ∷ is)
  one_tabulation : {n : ℕ} {is : List Item} → Plain is → Plain (tabulation n ∷ is)

plain_append : {is js : List Item} → Plain is → Plain js → Plain (is ++ js)
plain_append none q = q
plain_append (one_character p) q = one_character (plain_append p q)
plain_append (one_tabulation p) q = one_tabulation (plain_append p q)

characters_plain : (cs : List ℕ) → Plain (characters cs)
characters_plain [] = none
characters_plain (c ∷ cs) = one_character (characters_plain cs)

-- So no fields are left, and what is left stands for itself.
plain_fields : {is : List Item} → Plain is → items_fields is ≡ 0
plain_fields none = refl
plain_fields (one_character p) = omega (arith, plain_fields p)
plain_fields (one_tabulation p) = omega (arith, plain_fields p)

plain_resolved : (w : Values) {is : List Item} → Plain is → resolved_items w is ≡ is
plain_resolved w none = refl
plain_resolved w (one_character {c = c} p) = ap (◌∷◌ (character c)) (plain_resolved w p)
plain_resolved w (one_tabulation {n = n} p) = ap (◌∷◌ (tabulation n)) (plain_resolved w p)

module _ (v : Values) where
  stands_for_plain : (i : Item) → Plain (stands_for v i)
  stands_for_plain (character c) = one_character none
  stands_for_plain (tabulation n) = one_tabulation none
  stands_for_plain (counter n) = characters_plain v.digits
  stands_for_plain (field cs) = characters_plain cs
  stands_for_plain (date cs) = characters_plain (date_text v cs)

  resolved_items_plain : (is : List Item) → Plain (resolved_items v is)
  resolved_items_plain [] = none
  resolved_items_plain (i ∷ is) = plain_append (stands_for_plain i) (resolved_items_plain is)

  resolved_blocks_fields : (bs : List Block) → blocks_fields (map (resolved_block v) bs) ≡ 0
  resolved_blocks_fields [] = refl
  resolved_blocks_fields (b ∷ bs) = omega (arith, plain_fields (resolved_items_plain b.items), resolved_blocks_fields bs)

  resolved_fields : (t : Tree) → lines_fields (resolved v t) ≡ 0
  resolved_fields [] = refl
  resolved_fields (x ∷ t) = omega (arith, resolved_blocks_fields x, resolved_fields t)

  pub resolved_good : (t : Tree) → Printable v → good_tree t ≡ true → good_tree (resolved v t) ≡ true
  resolved_good t p e =
      let g = good_tree_tells t e in
      let n = length-map t (map (resolved_block v)) in
      tree_is_good (resolved v t)
      (record {
        some_lines = omega arith;
        few_lines = omega arith;
        lines = resolved_lines_good v p t g.lines;
        few_fields = omega (arith, resolved_fields t);
      })

  blocks_resolved_twice : (w : Values) (bs : List Block) → map (resolved_block w) (map (resolved_block v) bs) ≡ map (resolved_block v) bs
  blocks_resolved_twice w [] = refl
  blocks_resolved_twice w (b ∷ bs) = rw (plain_resolved w (resolved_items_plain b.items), blocks_resolved_twice w bs)

  pub resolved_twice : (w : Values) (t : Tree) → resolved w (resolved v t) ≡ resolved v t
  resolved_twice w [] = refl
  resolved_twice w (x ∷ t) = rw (blocks_resolved_twice w x, resolved_twice w t)

  -- Only items are replaced.
  blocks_shape : (bs : List Block) → map block_shape (map (resolved_block v) bs) ≡ map block_shape bs
  blocks_shape bs = map-map block_shape (resolved_block v) bs

  pub resolved_shape : (t : Tree) → shape (resolved v t) ≡ shape t
  resolved_shape [] = refl
  resolved_shape (x ∷ t) = rw (blocks_shape x, resolved_shape t)

-- Each item grows to three times its bytes at most.
module _ (v : Values) where
  code_text_length : (c : Option Code) → length (code_text v c) ≤ 1
  unfolding printed
  code_text_length (Some c) =
      pick_case (λ (t : List ℕ). length t ≤ 1) (eqb (character_of v c) 0x00) _ _ (λ e. omega arith) (λ e. omega arith)
  code_text_length None = omega arith

  date_text_length : (cs : List ℕ) → length (date_text v cs) ≤ length cs
  date_text_length [] = omega arith
  date_text_length (c ∷ cs) =
      omega (arith, length-append (code_text v (code_of c)) (date_text v cs), code_text_length (code_of c), date_text_length cs)

  module _ (p : Printable v) where
    stands_for_length : (i : Item) → length (items_bytes (stands_for v i)) ≤ 3 * length (item_bytes i)
    stands_for_length (character c) = omega arith
    stands_for_length (tabulation n) = omega arith
    stands_for_length (counter n) = rw (characters_bytes v.digits) (omega (arith, p.nine))
    stands_for_length (field cs) = rw (characters_bytes cs) (omega (arith, length-append cs (0x12 ∷ [])))
    stands_for_length (date cs) =
        rw (characters_bytes (date_text v cs)) (omega (arith, date_text_length cs, length-append cs (0x1B ∷ [])))

    resolved_items_length : (is : List Item) → length (items_bytes (resolved_items v is)) ≤ 3 * length (items_bytes is)
    resolved_items_length [] = omega arith
    resolved_items_length (i ∷ is) =
        rw (items_bytes_append (stands_for v i) (resolved_items v is))
        (rw (length-append (items_bytes (stands_for v i)), length-append (item_bytes i))
        (omega (arith, stands_for_length i, resolved_items_length is)))

    resolved_blocks_length : (bs : List Block) → length (blocks_bytes (map (resolved_block v) bs)) ≤ 3 * length (blocks_bytes bs)
    resolved_blocks_length [] = omega arith
    resolved_blocks_length (b ∷ bs) =
        rw (length-append (items_bytes (resolved_items v b.items)), length-append (items_bytes b.items))
        (omega (arith, resolved_items_length b.items, resolved_blocks_length bs))

    resolved_lines_length : (t : Tree) → length (lines_bytes (resolved v t)) ≤ 3 * length (lines_bytes t)
    resolved_lines_length [] = omega arith
    resolved_lines_length (x ∷ t) =
        rw (length-append (blocks_bytes (map (resolved_block v) x)), length-append (blocks_bytes x))
        (omega (arith, resolved_blocks_length x, resolved_lines_length t))

    pub resolved_length : (t : Tree) → length (encode (resolved v t)) ≤ 3 * length (encode t)
    resolved_length t =
        rw (length-append (lines_bytes (resolved v t)), length-append (lines_bytes t)) (omega (arith, resolved_lines_length t))
