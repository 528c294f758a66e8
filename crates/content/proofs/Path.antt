-- The bytes from one place to another: where they lead the machine, and what they are to edits and updates. From each such path follow
-- the verdict, the marks and the strip of what is left behind it.
use Prim.Native.Nat.{ℕ, zero, suc, ◌+◌, ◌-◌, ◌≤◌, ◌<◌}
use mathlib.Core.Bool.{Bool, true, false}
use mathlib.Core.List.{List, [], ◌∷◌, ◌++◌, append_assoc}
use mathlib.Core.Path.{◌≡◌, refl, sym, ◌∙◌, ap}
use Rattle.std.specs.Prelude.{Err}
use native.Mathlib.Omega.{arith}
use borrow.Author.Tests.{ltb-true, ltb-false}
use lib.Dec.{ltb}
use lib.ListN.{length, get_or, take, drop, replicate, length-append, length-drop, drop_of_length-le}
use lib.Seq.{take-append_seam}
use Rattle.frame.specs.Ground.{pick}
use Rattle.frame.proofs.Ground.{drop_next, stands}
use Rattle.content.specs.Byte.{is_character, is_expansion, is_count, kind_of, code_of}
use Rattle.content.specs.Content.{read, onward}
use Rattle.content.specs.Machine.{Spot, Inside, Font, TabulationCount, TabulationEnd, CounterNumber, CounterEnd, Mode, Reading, Done, Bad, step, stepped}
use Rattle.content.specs.Position.{mark_of, mark_in, marks}
use Rattle.content.specs.Strip.{strip_from, shown_by, where_good}
use Rattle.content.specs.declared.item.Place.TheVariants.{Content, Line, Block, Field, Date}
use Rattle.content.specs.declared.item.Seen.{Seen}
use Rattle.content.specs.declared.position.Mark.{Mark}
use Rattle.content.specs.declared.position.Mark.TheVariants.{Structure}
use Rattle.content.specs.declared.strip.Values.{Values}
use Rattle.content.proofs.Bytes.{kind_of_character, character_is_no_mark}
use Rattle.content.proofs.Run.{run, read_past, run_append, marks_append, strip_append}

pub record Path (s : List ℕ) (at : ℕ) (m : Mode) (n : ℕ) (m' : Mode) (k : Mark) : Type 0 where
  pub bytes : List ℕ
  pub split : drop at s ≡ bytes ++ drop n s
  pub size : at + length bytes ≡ n
  pub inside : n ≤ length s
  pub leads : run m bytes ≡ m'
  pub marked : marks m bytes ≡ replicate (length bytes) k

-- ---- No byte, one byte, and one path behind another.
abbrev pub no_bytes : (s : List ℕ) (at : ℕ) (m : Mode) (k : Mark) → at ≤ length s → Path s at m at m k
no_bytes s at m k h = record { bytes = []; split = refl; size = omega arith; inside = h; leads = refl; marked = refl }

abbrev pub one_byte : (s : List ℕ) (at n : ℕ) (m m' : Mode) (k : Mark) → n ≡ at + 1 → at < length s → step m (get_or s at 0) ≡ m' → mark_of m (get_or s at 0) ≡ k → Path s at m n m' k
one_byte s at n m m' k e h f g =
    record {
      bytes = get_or s at 0 ∷ [];
      split = rw e (drop_next s at h);
      size = omega arith;
      inside = omega arith;
      leads = f;
      marked = ap (λ (x : Mark). x ∷ []) g;
    }

pub replicate_append : (n m : ℕ) (k : Mark) → replicate n k ++ replicate m k ≡ replicate (n + m) k
replicate_append zero m k = let e : 0 + m ≡ m = omega arith in rw e
replicate_append (suc n) m k = let e : suc n + m ≡ suc (n + m) = omega arith in rw e (ap (λ (l : List Mark). k ∷ l) (replicate_append n m k))

abbrev pub path_then : {s : List ℕ} {at n o : ℕ} {m m' m'' : Mode} {k : Mark} → Path s at m n m' k → Path s n m' o m'' k → Path s at m o m'' k
path_then {s} {at} {n} {o} {m} {m'} {m''} {k} p q =
    let long : length (p.bytes ++ q.bytes) ≡ length p.bytes + length q.bytes = length-append p.bytes q.bytes in
    record {
      bytes = p.bytes ++ q.bytes;
      split = p.split ∙ ap (λ (l : List ℕ). p.bytes ++ l) q.split ∙ sym (append_assoc p.bytes q.bytes (drop o s));
      size = omega (arith, p.size, q.size, long);
      inside = q.inside;
      leads = run_append m p.bytes q.bytes ∙ ap (λ (x : Mode). run x q.bytes) p.leads ∙ q.leads;
      marked =
          marks_append m p.bytes q.bytes
          ∙ ap (λ (x : Mode). marks m p.bytes ++ marks x q.bytes) p.leads
          ∙ rw (p.marked, q.marked, long) (replicate_append (length p.bytes) (length q.bytes) k);
    }

-- ---- What is left behind a path.
module _ {s : List ℕ} {at n : ℕ} {m m' : Mode} {k : Mark} (p : Path s at m n m' k) where
  pub path_part : take (n - at) (drop at s) ≡ p.bytes
  path_part =
      let e : n - at ≡ length p.bytes = omega (arith, p.size) in
      rw (e, p.split) (take-append_seam p.bytes (drop n s))

  pub path_read : (m' ≡ Bad → ⊥) → read at m (drop at s) ≡ read n m' (drop n s)
  path_read good =
      ap (read at m) p.split
      ∙ read_past at m p.bytes (drop n s) (λ e. good (sym p.leads ∙ e))
      ∙ ap (λ (x : Mode). read (at + length p.bytes) x (drop n s)) p.leads
      ∙ ap (λ (i : ℕ). read i m' (drop n s)) p.size

  pub path_marks : marks m (drop at s) ≡ replicate (n - at) k ++ marks m' (drop n s)
  path_marks =
      let e : n - at ≡ length p.bytes = omega (arith, p.size) in
      ap (marks m) p.split
      ∙ marks_append m p.bytes (drop n s)
      ∙ ap (λ (x : Mode). marks m p.bytes ++ marks x (drop n s)) p.leads
      ∙ rw (p.marked, e)

  pub path_strip : (v : Values) → strip_from v m (drop at s) ≡ strip_from v m p.bytes ++ strip_from v m' (drop n s)
  path_strip v =
      ap (strip_from v m) p.split
      ∙ strip_append v m p.bytes (drop n s)
      ∙ ap (λ (x : Mode). strip_from v m p.bytes ++ strip_from v x (drop n s)) p.leads

-- ---- A byte that can't stand there, or none where one must. The byte 0 stands nowhere, so it is as if one stood behind the end.
zero_stands_nowhere : (spot : Spot) (seen : Seen) → stepped spot 0 seen ≡ Bad
unfolding kind_of code_of is_expansion is_character is_count
zero_stands_nowhere (Inside Content) seen = refl
zero_stands_nowhere (Inside Line) seen = refl
zero_stands_nowhere (Inside Block) seen = refl
zero_stands_nowhere (Inside Field) seen = refl
zero_stands_nowhere (Inside Date) seen = refl
zero_stands_nowhere (Font e) seen = refl
zero_stands_nowhere TabulationCount seen = refl
zero_stands_nowhere (TabulationEnd n) seen = refl
zero_stands_nowhere CounterNumber seen = refl
zero_stands_nowhere CounterEnd seen = refl

pub good_stands : (s : List ℕ) (i : ℕ) (spot : Spot) (seen : Seen) {m : Mode} → stepped spot (get_or s i 0) seen ≡ m → (m ≡ Bad → ⊥) → i < length s
good_stands s i spot seen e good = stands s i (λ z. good (sym e ∙ ap (λ (b : ℕ). stepped spot b seen) z ∙ zero_stands_nowhere spot seen))

pub reading_is_good : (spot : Spot) (seen : Seen) → Reading spot seen ≡ Bad → ⊥
reading_is_good spot seen e = let z : ◌≡◌ {A = ℕ} 0 1 = cc in omega arith

-- No byte is a position where it can't stand.
pub structure_in : (m : Mode) (b : ℕ) → mark_in m ≡ Structure → mark_of m b ≡ Structure
unfolding mark_of
structure_in m b e = rw e (go (is_character b))
  where
    go : (t : Bool) → pick t Structure Structure ≡ Structure
    go true = refl
    go false = refl

pub no_character : (m : Mode) (b : ℕ) → is_character b ≡ false → mark_of m b ≡ Structure
unfolding mark_of
no_character m b e = rw e

pub a_character : (m : Mode) (b : ℕ) → is_character b ≡ true → mark_of m b ≡ mark_in m
unfolding mark_of
a_character m b e = rw e

stuck_in : (m : Mode) (b : ℕ) → (is_character b ≡ true → step m b ≡ Bad → ⊥) → step m b ≡ Bad → mark_of m b ≡ Structure
stuck_in m b n e = go (is_character b) refl
  where
    go : (t : Bool) → is_character b ≡ t → mark_of m b ≡ Structure
    go true c = absurd (n c e)
    go false c = no_character m b c

stuck_mark : (spot : Spot) (seen : Seen) (b : ℕ) → stepped spot b seen ≡ Bad → mark_of (Reading spot seen) b ≡ Structure
stuck_mark (Inside Content) seen b e = structure_in _ b refl
stuck_mark (Inside Line) seen b e = structure_in _ b refl
stuck_mark (Inside Block) seen b e = stuck_in _ b (λ c f. reading_is_good (Inside Block) seen (rw (kind_of_character b c) at f)) e
stuck_mark (Inside Field) seen b e = stuck_in _ b (λ c f. reading_is_good (Inside Field) seen (rw (character_is_no_mark b 0x12 c (omega arith), c) at f)) e
stuck_mark (Inside Date) seen b e = structure_in _ b refl
stuck_mark (Font x) seen b e = structure_in _ b refl
stuck_mark TabulationCount seen b e = structure_in _ b refl
stuck_mark (TabulationEnd n) seen b e = structure_in _ b refl
stuck_mark CounterNumber seen b e = structure_in _ b refl
stuck_mark CounterEnd seen b e = structure_in _ b refl

bad_marks : (s : List ℕ) → marks Bad s ≡ replicate (length s) Structure
bad_marks [] = refl
bad_marks (b ∷ s) = rw (structure_in Bad b refl, bad_marks s)

pub done_marks : (s : List ℕ) → marks Done s ≡ replicate (length s) Structure
done_marks [] = refl
done_marks (b ∷ s) = rw (structure_in Done b refl, bad_marks s)

bad_strip : (v : Values) (s : List ℕ) → strip_from v Bad s ≡ []
bad_strip v [] = refl
bad_strip v (b ∷ s) = bad_strip v s

pub done_strip : (v : Values) (s : List ℕ) → strip_from v Done s ≡ []
done_strip v [] = refl
done_strip v (b ∷ s) = bad_strip v s

module _ (s : List ℕ) (i : ℕ) (spot : Spot) (seen : Seen) (e : stepped spot (get_or s i 0) seen ≡ Bad) where
  pub stuck_read : read i (Reading spot seen) (drop i s) ≡ Err i
  stuck_read = go (ltb i (length s)) refl
    where
      go : (t : Bool) → ltb i (length s) ≡ t → read i (Reading spot seen) (drop i s) ≡ Err i
      go true h =
          ap (read i (Reading spot seen)) (drop_next s i (ltb-true i (length s) h))
          ∙ ap (λ (m : Mode). onward i m (read (i + 1) m (drop (i + 1) s))) e
      go false h = ap (read i (Reading spot seen)) (drop_of_length-le s {i = i} (ltb-false i (length s) h))

  pub stuck_marks : marks (Reading spot seen) (drop i s) ≡ replicate (length s - i) Structure
  stuck_marks = go (ltb i (length s)) refl
    where
      go : (t : Bool) → ltb i (length s) ≡ t → marks (Reading spot seen) (drop i s) ≡ replicate (length s - i) Structure
      go true h =
          let g = ltb-true i (length s) h in
          let l : length s - i ≡ suc (length (drop (i + 1) s)) = simp length-drop (omega arith) in
          ap (marks (Reading spot seen)) (drop_next s i g)
          ∙ rw (e, stuck_mark spot seen (get_or s i 0) e, l, bad_marks (drop (i + 1) s))
      go false h =
          let l : length s - i ≡ 0 = omega (arith, ltb-false i (length s) h) in
          rw (l, drop_of_length-le s {i = i} (ltb-false i (length s) h))

  pub stuck_strip : (v : Values) → strip_from v (Reading spot seen) (drop i s) ≡ []
  stuck_strip v = go (ltb i (length s)) refl
    where
      go : (t : Bool) → ltb i (length s) ≡ t → strip_from v (Reading spot seen) (drop i s) ≡ []
      go true h =
          ap (strip_from v (Reading spot seen)) (drop_next s i (ltb-true i (length s) h))
          ∙ ap (λ (m : Mode). where_good m (shown_by v (Reading spot seen) (get_or s i 0)) ++ strip_from v m (drop (i + 1) s)) e
          ∙ bad_strip v (drop (i + 1) s)
      go false h = ap (strip_from v (Reading spot seen)) (drop_of_length-le s {i = i} (ltb-false i (length s) h))
