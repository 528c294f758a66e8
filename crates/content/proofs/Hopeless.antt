-- The reader says `Err i` exactly where the grammar does: `Bad` is led out of by no bytes, and from every other mode behind a byte a few
-- bytes lead to the end.
use Prim.Native.Nat.{ℕ, zero, suc, ◌+◌, ◌≤◌, ◌<◌}
use mathlib.Core.Bool.{Bool, true, false}
use mathlib.Core.List.{List, [], ◌∷◌, ◌++◌}
use mathlib.Core.Logic.{◌⊎◌, inl, inr}
use mathlib.Core.Path.{◌≡◌, refl, sym, ◌∙◌, ap, subst}
use native.Mathlib.Numerals.{add-one}
use Rattle.std.specs.Prelude.{Err, None, Option, Some}
use native.Mathlib.Omega.{arith}
use borrow.Author.Tests.{ltb-true, ltb-false}
use lib.Dec.{eqb, ltb}
use lib.ListN.{length, get_or, take, drop, take-append-drop, drop_of_length-le}
use lib.Seq.{take-length, take-suc, length-take-le}
use Rattle.frame.specs.Ground.{pick}
use Rattle.frame.proofs.Ground.{pick_case, drop_next}
use Rattle.content.specs.Byte.{is_character, is_expansion, is_count, kind_of, code_of}
use Rattle.content.specs.Content.{good, verdict, read, ended, onward}
use Rattle.content.specs.Grammar.{encode}
use Rattle.content.specs.Hopeless.{Begins, Hopeless, FirstHopeless, StopsEarly, GoesWrong, UnfitThere}
use Rattle.content.specs.Machine.{Inside, Font, TabulationCount, TabulationEnd, CounterNumber, CounterEnd, Mode, Reading, Done, Bad, start, step, with_line, with_field, in_block, in_code, most_lines, most_fields}
use Rattle.content.specs.Tree.{tree_of}
use Rattle.content.specs.declared.byte.Code.{Code}
use Rattle.content.specs.declared.byte.Kind.{Kind}
use Rattle.content.specs.declared.byte.Kind.TheVariants as kind
use Rattle.content.specs.declared.item.Place.TheVariants.{Content, Line, Block, Field, Date}
use Rattle.content.specs.declared.item.Seen.{Seen}
use Rattle.content.proofs.Laws.{correct, complete}
use Rattle.content.proofs.Path.{reading_is_good}
use Rattle.content.proofs.Run.{run, run_append, run_verdict, verdict_runs, read_past, bad_is_not_done}

-- ---- Where a byte leads to, some bytes lead on to the end, unless it led to `Bad`.
abbrev Closes : Mode → Type 0
Closes m = (m ≡ Bad) ⊎ ((p : List ℕ) × (run m p ≡ Done))

if_passed : (t : Bool) {m : Mode} → Closes m → Closes (pick t m Bad)
if_passed t {m} c = pick_case Closes t m Bad (λ _. c) (λ _. inl refl)

block_closes : (seen : Seen) → Closes (Reading (Inside Block) seen)
unfolding kind_of
block_closes seen = inr (0x0D ∷ [], refl)

field_closes : (seen : Seen) → Closes (Reading (Inside Field) seen)
unfolding kind_of
field_closes seen = inr (0x12 ∷ 0x0D ∷ [], refl)

date_closes : (seen : Seen) → Closes (Reading (Inside Date) seen)
unfolding kind_of
date_closes seen = inr (0x1B ∷ 0x0D ∷ [], refl)

font_closes : (e : ℕ) (seen : Seen) → Closes (Reading (Font e) seen)
unfolding kind_of is_count
font_closes e seen = inr (0x01 ∷ 0x0D ∷ [], refl)

line_closes : (seen : Seen) → Closes (with_line seen)
unfolding kind_of is_count is_expansion with_line
line_closes seen = if_passed (ltb seen.lines most_lines) (inr (0x01 ∷ 0x01 ∷ 0x0D ∷ [], refl))

in_block_closes : (k : Kind) (b : ℕ) (seen : Seen) → Closes (in_block k b seen)
unfolding kind_of is_count with_field
in_block_closes kind.Line b seen = line_closes seen
in_block_closes kind.End b seen = inr ([], refl)
in_block_closes kind.Field b seen = if_passed (ltb seen.fields most_fields) (field_closes _)
in_block_closes kind.Date b seen = date_closes seen
in_block_closes kind.Counter b seen = inr (0x01 ∷ 0x1C ∷ 0x0D ∷ [], refl)
in_block_closes kind.Tabulation b seen = inr (0x01 ∷ 0x1E ∷ 0x0D ∷ [], refl)
in_block_closes kind.Expansion b seen = font_closes b seen
in_block_closes kind.Character b seen = block_closes seen
in_block_closes kind.Other b seen = inl refl

in_code_closes : (c : Option Code) (seen : Seen) → Closes (in_code c seen)
in_code_closes (Some c) seen = date_closes seen
in_code_closes None seen = inl refl

step_closes : (m : Mode) (b : ℕ) → Closes (step m b)
unfolding kind_of
step_closes (Reading (Inside Content) seen) b = if_passed (eqb b 0x0A) (line_closes seen)
step_closes (Reading (Inside Line) seen) b = if_passed (is_expansion b) (font_closes b seen)
step_closes (Reading (Inside Block) seen) b = in_block_closes (kind_of b) b seen
step_closes (Reading (Inside Field) seen) b = pick_case Closes (eqb b 0x12) _ _ (λ _. block_closes seen) (λ _. if_passed (is_character b) (field_closes seen))
step_closes (Reading (Inside Date) seen) b = pick_case Closes (eqb b 0x1B) _ _ (λ _. block_closes seen) (λ _. in_code_closes (code_of b) seen)
step_closes (Reading (Font e) seen) b = if_passed (is_count b) (block_closes seen)
step_closes (Reading TabulationCount seen) b = if_passed (is_count b) (inr (0x1E ∷ 0x0D ∷ [], refl))
step_closes (Reading (TabulationEnd n) seen) b = if_passed (eqb b 0x1E) (block_closes seen)
step_closes (Reading CounterNumber seen) b = if_passed (eqb b 0x01) (inr (0x1C ∷ 0x0D ∷ [], refl))
step_closes (Reading CounterEnd seen) b = if_passed (eqb b 0x1C) (block_closes seen)
step_closes Done b = inl refl
step_closes Bad b = inl refl

-- ---- So a beginning leads to `Bad`, and is hopeless, or a good content can begin with it.
abbrev Decided : List ℕ → Type 0
Decided p = (run start p ≡ Bad) ⊎ Begins p

-- A good content can begin with the first byte, with the first two, and so on up to the first n.
abbrev BeginsUpTo : List ℕ → ℕ → Type 0
BeginsUpTo s n = (j : ℕ) → j < n → Begins (take (j + 1) s)

run_closes : (m : Mode) (b : ℕ) (s : List ℕ) → Closes (run (step m b) s)
run_closes m b [] = step_closes m b
run_closes m b (c ∷ s) = run_closes (step m b) c s

bad_is_hopeless : (p : List ℕ) → run start p ≡ Bad → Hopeless p
bad_is_hopeless p e b =
    bad_is_not_done b.behind
    (ap (λ (m : Mode). run m b.behind) (sym e)
    ∙ sym (run_append start p b.behind)
    ∙ ap (run start) (sym b.written)
    ∙ verdict_runs (encode b.tree) (complete b.tree b.good))

done_begins : (p q : List ℕ) → run (run start p) q ≡ Done → Begins p
done_begins p q e =
    let c = correct (p ++ q) (run_verdict (p ++ q) (run_append start p q ∙ e)) in
    record { tree = tree_of (p ++ q); behind = q; good = c.0; written = c.1 }

decided : (s : List ℕ) (j : ℕ) → j < length s → Decided (take (j + 1) s)
decided [] j l = absurd (omega arith)
decided (b ∷ s) j l = rw (add-one j) (go (run_closes start b (take j s)))
  where
    go : Closes (run start (b ∷ take j s)) → Decided (b ∷ take j s)
    go (inl e) = inl e
    go (inr c) = inr (done_begins (b ∷ take j s) c.0 c.1)

not_bad : (s : List ℕ) (i : ℕ) → BeginsUpTo s i → run start (take i s) ≡ Bad → ⊥
not_bad s zero h e = reading_is_good _ _ e
not_bad s (suc j) h e = bad_is_hopeless (take (suc j) s) e (rw (add-one j) at (h j (omega arith)))

-- ---- The reader stops at such a place.
reads_up_to : (s : List ℕ) (i : ℕ) → i ≤ length s → BeginsUpTo s i → verdict s ≡ read i (run start (take i s)) (drop i s)
unfolding verdict
reads_up_to s i l h =
    ap (read 0 start) (sym (take-append-drop i s))
    ∙ read_past 0 start (take i s) (drop i s) (not_bad s i h)
    ∙ ap (λ (k : ℕ). read k (run start (take i s)) (drop i s)) (omega (arith, length-take-le i s l))

run_next : (s : List ℕ) (i : ℕ) → i < length s → run start (take (i + 1) s) ≡ step (run start (take i s)) (get_or s i 0)
run_next s i l = rw (add-one i, take-suc s i 0 l) (run_append start (take i s) (get_or s i 0 ∷ []))

hopeless_read : (s : List ℕ) (i : ℕ) → FirstHopeless s i → verdict s ≡ Err i
hopeless_read s i f = go (decided s i f.inside)
  where
    go : Decided (take (i + 1) s) → verdict s ≡ Err i
    go (inl e) =
        reads_up_to s i (omega (arith, f.inside)) f.least
        ∙ ap (read i (run start (take i s))) (drop_next s i f.inside)
        ∙ ap (λ (m : Mode). onward i m (read (i + 1) m (drop (i + 1) s))) (sym (run_next s i f.inside) ∙ e)
    go (inr b) = absurd (f.hopeless b)

ended_early : (i : ℕ) (m : Mode) → (m ≡ Done → ⊥) → ended i m ≡ Err i
ended_early i (Reading spot seen) h = refl
ended_early i Done h = absurd (h refl)
ended_early i Bad h = refl

early_read : (s : List ℕ) (i : ℕ) → StopsEarly s i → verdict s ≡ Err i
early_read s i f =
    rw f.count
    (reads_up_to s (length s) (omega arith) f.none
    ∙ rw (take-length s, drop_of_length-le s {i = length s} (omega arith))
    (ended_early (length s) (run start s) (λ e. let c = correct s (run_verdict s e) in f.not_whole (tree_of s) c.0 c.1)))

wrong_read : (s : List ℕ) (i : ℕ) → GoesWrong s i → verdict s ≡ Err i
wrong_read s i (inl f) = hopeless_read s i f
wrong_read s i (inr f) = early_read s i f

-- ---- And there is such a place, unless the bytes are good.
abbrev Searched : List ℕ → ℕ → Type 0
Searched s n = ((i : ℕ) × FirstHopeless s i) ⊎ BeginsUpTo s n

one_further : (s : List ℕ) (n : ℕ) → BeginsUpTo s n → Begins (take (n + 1) s) → BeginsUpTo s (suc n)
one_further s n h b j l = go (ltb j n) refl
  where
    go : (t : Bool) → ltb j n ≡ t → Begins (take (j + 1) s)
    go true e = h j (ltb-true j n e)
    go false e = let q : j ≡ n = omega (arith, ltb-false j n e) in rw q b

searched : (s : List ℕ) (n : ℕ) → n ≤ length s → Searched s n
searched s zero l = inr (λ j h. absurd (omega arith))
searched s (suc n) l = go (searched s n (omega arith)) (decided s n l)
  where
    go : Searched s n → Decided (take (n + 1) s) → Searched s (suc n)
    go (inl f) c = inl f
    go (inr h) (inl e) = inl (n, record { inside = l; hopeless = bad_is_hopeless _ e; least = h })
    go (inr h) (inr b) = inr (one_further s n h b)

goes_wrong : (s : List ℕ) → (verdict s ≡ good → ⊥) → (i : ℕ) × GoesWrong s i
goes_wrong s n = go (searched s (length s) (omega arith))
  where
    go : Searched s (length s) → (i : ℕ) × GoesWrong s i
    go (inl f) = (f.0, inl f.1)
    go (inr h) = (length s, inr (record { count = refl; not_whole = λ t g e. n (ap verdict (sym e) ∙ complete t g); none = h }))

pub unfit_there : UnfitThere
unfit_there s i = (go, wrong_read s i)
  where
    go : verdict s ≡ Err i → GoesWrong s i
    go e =
        let w = goes_wrong s (λ g. let z : ◌≡◌ {A = ℕ} 0 1 = cc in omega arith) in
        let r = wrong_read s w.0 w.1 in
        subst (GoesWrong s) (cc) w.1
