-- The bytes of a jet: what is read from them, and what they become when a message, parameters or a count are written.
use Prim.Native.Nat.{ℕ, suc, ◌+◌, ◌-◌, ◌≤◌}
use mathlib.Core.Bool.{Bool, true, false}
use mathlib.Core.List.{List, [], ◌∷◌, ◌++◌, append_assoc}
use mathlib.Core.Path.{◌≡◌, refl, sym, ◌∙◌, ap}
use native.Mathlib.Omega.{arith}
use Rattle.std.proofs.Common.{Result, Err}
use borrow.Rule.Slice.PartMut.{mid_of, put_mid, put_same}
use lib.ListN.{length, get_or, take, drop, length-append, length-take, length-drop, take-append-drop}
use lib.Seq.{length-take-le, drop-drop, take-add, take_at, take_all, take-take, drop-append-le, get_or-take, get_or-drop}
use Rattle.frame.specs.Ground.{Test, all, checked, given, over, pick}
use Rattle.frame.specs.Given.{given_in, numbered}
use Rattle.frame.specs.declared.given.Refusal.{Refusal}
use Rattle.frame.specs.Wire.{word}
use Rattle.frame.proofs.Ground.{checked_all, checked_refuses, length_over, over_over, lent_tail, tail_back}
use Rattle.content.specs.Machine.{Mode, start, step}
use Rattle.content.specs.Position.{mark_of, is_field_position, field_positions_from, field_positions}
use Rattle.content.specs.Edit as edit
use Rattle.content.specs.Edit.{Edits, edit_tests, edited, replaced}
use Rattle.content.specs.Update.{laid}
use Rattle.printer.specs.Number.{number_of, in_bytes}
use Rattle.printer.specs.Counter.{Counter, set_to, counted, counter_size, counter_of, counter_bytes}
use Rattle.printer.specs.Jet.{message, parameters, general_place, counter_place, jet_size, jet_of, jet_bytes, with_message, with_parameters, counted_jet}
use Rattle.printer.specs.Change.{BecomesJet, edited_jet, updated_jet, with_both}
use Rattle.printer.proofs.Numbers.{Bytes, bytes_take, bytes_drop, bytes_back}
use Rattle.printer.proofs.Counters.{counter_back}
use Rattle.printer.proofs.Orders.{given_numbered}

-- ---- A number of two bytes.
pub two_read : (b : List ℕ) → 2 ≤ length b → number_of (take 2 b) ≡ word (get_or b 0 0) (get_or b 1 0)
two_read [] h = absurd (omega arith)
two_read (x ∷ []) h = absurd (omega arith)
two_read (x ∷ y ∷ b) h = omega arith

-- ---- Lists.
behind : (n : ℕ) → 2 + n - 2 ≡ n
behind n = omega arith

-- Bytes laid over the front of a list go as far as they do over the whole.
over_front : (s xs : List ℕ) (n : ℕ) → length s ≤ n → n ≤ length xs → over s (take n xs) ++ drop n xs ≡ over s xs
over_front s xs n h g =
    append_assoc s (drop (length s) (take n xs)) (drop n xs)
    ∙ ap (λ (l : List ℕ). s ++ l)
    (sym (drop-append-le (length s) (take n xs) (drop n xs) (simp length-take (omega arith))) ∙ ap (drop (length s)) (take-append-drop n xs))

-- ---- The bytes of a jet, part by part.
module _ (b : List ℕ) (full : length b ≡ jet_size) (f : Bytes b) where
  counter_kept : counter_bytes (counter_of (take counter_size (drop counter_place b))) ≡ drop counter_place b
  counter_kept =
      counter_back (take counter_size (drop counter_place b)) (simp (length-take, length-drop) (omega arith)) (bytes_take counter_size (drop counter_place b) (bytes_drop counter_place b f))
      ∙ take_all counter_size (drop counter_place b) (simp length-drop (omega arith))

  tail_kept : take 11 (drop general_place b) ++ counter_bytes (counter_of (take counter_size (drop counter_place b))) ≡ drop general_place b
  tail_kept = ap (λ (l : List ℕ). take 11 (drop general_place b) ++ l) (counter_kept ∙ sym (drop-drop 11 general_place b)) ∙ take-append-drop 11 (drop general_place b)

  length_kept : in_bytes 2 (number_of (take 2 b)) ≡ take 2 b
  length_kept = bytes_back 2 (take 2 b) (length-take-le 2 b (omega arith)) (bytes_take 2 b f)

  head_kept : (r : List ℕ) → in_bytes 2 (number_of (take 2 b)) ++ (take 512 (drop 2 b) ++ r) ≡ take general_place b ++ r
  head_kept r =
      ap (λ (l : List ℕ). l ++ (take 512 (drop 2 b) ++ r)) length_kept
      ∙ sym (append_assoc (take 2 b) (take 512 (drop 2 b)) r)
      ∙ ap (λ (l : List ℕ). l ++ r) (sym (take-add 2 512 b))

  -- Reading and writing undo each other.
  pub jet_back : jet_bytes (jet_of b) ≡ b
  unfolding jet_of jet_bytes
  jet_back = head_kept _ ∙ ap (λ (l : List ℕ). take general_place b ++ l) tail_kept ∙ take-append-drop general_place b

  -- Another message: two bytes, then the message over the content.
  pub message_bytes : (s : List ℕ) → length s ≤ 512 → jet_bytes (with_message (jet_of b) s) ≡ over (in_bytes 2 (length s) ++ s) b
  unfolding jet_of jet_bytes
  message_bytes s h =
      ap (λ (l : List ℕ). in_bytes 2 (length s) ++ l)
      (ap (λ (l : List ℕ). over s (take 512 (drop 2 b)) ++ l) (tail_kept ∙ sym (drop-drop 512 2 b))
      ∙ over_front s (drop 2 b) 512 h (simp length-drop (omega arith)))
      ∙ over_over (in_bytes 2 (length s)) s b

  -- A message of the same length: nothing but the message changes.
  pub message_put : (s : List ℕ) → length s ≡ (jet_of b).length → (jet_of b).length ≤ 512 → jet_bytes (with_message (jet_of b) s) ≡ put_mid 2 (jet_of b).length b s
  unfolding jet_of
  message_put s e h =
      message_bytes s (omega arith)
      ∙ sym (over_over (in_bytes 2 (length s)) s b)
      ∙ ap (λ (n : ℕ). in_bytes 2 n ++ (s ++ drop n (drop 2 b))) e
      ∙ ap (λ (l : List ℕ). l ++ (s ++ drop (number_of (take 2 b)) (drop 2 b))) length_kept

  -- Other parameters: all behind the content.
  pub parameters_bytes : (q : List ℕ) → jet_bytes (with_parameters (jet_of b) q) ≡ take general_place b ++ (take 11 q ++ counter_bytes (set_to (drop 11 q)))
  unfolding jet_of jet_bytes
  parameters_bytes q = head_kept _

  -- Another counter: the last 34 bytes.
  pub counter_put : (c : Counter)
      → jet_bytes (record { length = (jet_of b).length; content = (jet_of b).content; general = (jet_of b).general; counter = c }) ≡ take counter_place b ++ counter_bytes c
  unfolding jet_of jet_bytes
  counter_put c =
      head_kept _
      ∙ sym (append_assoc (take general_place b) (take 11 (drop general_place b)) (counter_bytes c))
      ∙ ap (λ (l : List ℕ). l ++ counter_bytes c) (sym (take-add general_place 11 b))

-- ---- What a function of a jet reads from its bytes.
pub message_lent : (b : List ℕ) {n : ℕ} → n ≡ (jet_of b).length → (jet_of b).length ≤ 512 → mid_of 2 (2 + n - 2) b ≡ message (jet_of b)
unfolding jet_of
message_lent b {n} e h =
    ap (λ (k : ℕ). mid_of 2 k b) (behind n ∙ e) ∙ sym (take-take (number_of (take 2 b)) 512 (drop 2 b) h)

pub parameters_lent : (b : List ℕ) → mid_of general_place 37 b ≡ parameters (jet_of b)
unfolding jet_of counter_of
parameters_lent b =
    take-add 11 26 (drop general_place b)
    ∙ ap (λ (l : List ℕ). take 11 (drop general_place b) ++ l) (ap (take 26) (drop-drop 11 general_place b) ∙ sym (take-take 26 34 (drop counter_place b) (omega arith)))

pub set_lent : (b : List ℕ) → get_or b 551 0 ≡ (jet_of b).counter.set
unfolding jet_of counter_of
set_lent b = sym (get_or-take 34 (drop counter_place b) 26 0 (omega arith) ∙ get_or-drop counter_place b 26 0)

-- A message has at most 512 bytes, and no more field positions than bytes.
positions_most : (m : Mode) (s : List ℕ) → field_positions_from m s ≤ length s
positions_most m [] = omega arith
positions_most m (b ∷ s) = go (is_field_position (mark_of m b)) (positions_most (step m b) s)
  where
    go : (t : Bool) → field_positions_from (step m b) s ≤ length s → pick t 1 0 + field_positions_from (step m b) s ≤ suc (length s)
    go true h = omega arith
    go false h = omega arith

pub positions_short : (b : List ℕ) → field_positions (message (jet_of b)) ≤ 512
unfolding jet_of
positions_short b =
    let s = message (jet_of b) in
    let short : length s ≤ 512 = simp length-take (omega arith) in
    omega (arith, positions_most start s)

-- ---- What a function of a jet leaves in its bytes.
-- A part that reaches the end comes back.
end_back : (a k : ℕ) (xs ys : List ℕ) → length xs ≡ a + k → put_mid a k xs ys ≡ take a xs ++ ys
end_back a k xs ys e =
    let n : k ≡ length xs - a = omega arith in
    ap (λ (i : ℕ). put_mid a i xs ys) n ∙ tail_back a xs ys

module _ (b : List ℕ) (full : length b ≡ jet_size) (f : Bytes b) where
  -- A message of the length that the jet has, in the message's place.
  pub message_left : (last : List ℕ) {n : ℕ} → n ≡ (jet_of b).length → (jet_of b).length ≤ 512 → length last ≡ length (mid_of 2 (2 + n - 2) b)
      → put_mid 2 (2 + n - 2) b last ≡ jet_bytes (with_message (jet_of b) last)
  message_left last {n} e h kept =
      let k : length last ≡ n = kept ∙ ap (λ (i : ℕ). length (mid_of 2 i b)) (behind n) ∙ length-take-le n (drop 2 b) (simp length-drop (omega arith)) in
      ap (λ (i : ℕ). put_mid 2 i b last) (behind n ∙ e) ∙ sym (message_put b full f last (k ∙ e) h)

  -- A field update.
  pub updated_left : (text : List ℕ) {last : List ℕ} {n : ℕ} → n ≡ (jet_of b).length → (jet_of b).length ≤ 512 → length last ≡ length (mid_of 2 (2 + n - 2) b)
      → last ≡ laid text start (mid_of 2 (2 + n - 2) b) → put_mid 2 (2 + n - 2) b last ≡ jet_bytes (updated_jet (jet_of b) text)
  updated_left text {last} e h kept p =
      message_left last e h kept ∙ ap (λ (l : List ℕ). jet_bytes (with_message (jet_of b) l)) (p ∙ ap (laid text start) (message_lent b e h))

  -- An edit changes the message where all its tests hold, and nothing where it is refused.
  abbrev tests : ℕ → List ℕ → List Test
  tests address symbols = edit_tests (message (jet_of b)) address symbols

  module _ {n address : ℕ} {symbols last : List ℕ} (r : Result Unit Refusal) (e : n ≡ (jet_of b).length) (h : (jet_of b).length ≤ 512)
      (kept : length last ≡ length (mid_of 2 (2 + n - 2) b)) (p : Edits (mid_of 2 (2 + n - 2) b) address symbols (numbered r) last) where
    answers : numbered r ≡ checked (tests address symbols) Err edit.done
    unfolding edited
    answers = p.answer ∙ ap (λ (l : List ℕ). edited l address symbols) (message_lent b e h)

    leaves : (t : Bool) → all (tests address symbols) ≡ t → put_mid 2 (2 + n - 2) b last ≡ pick t (jet_bytes (edited_jet (jet_of b) address symbols)) b
    leaves true t =
        let done = answers ∙ checked_all (tests address symbols) Err edit.done t in
        let new : last ≡ replaced (message (jet_of b)) address symbols = p.bytes ∙ rw (done, message_lent b e h) in
        message_left last e h kept ∙ ap (λ (l : List ℕ). jet_bytes (with_message (jet_of b) l)) new
    leaves false t =
        let refused = answers ∙ (checked_refuses (tests address symbols) t).gives Err edit.done in
        let same : last ≡ mid_of 2 (2 + n - 2) b = p.bytes ∙ rw refused in
        ap (put_mid 2 (2 + n - 2) b) same ∙ put_same 2 (2 + n - 2) b

    pub edited_left : BecomesJet (tests address symbols) (edited_jet (jet_of b) address symbols) b (given_in r) (put_mid 2 (2 + n - 2) b last)
    edited_left =
        record {
          gives = given_numbered r ∙ p.first ∙ ap (λ (l : List ℕ). given (edit_tests l address symbols)) (message_lent b e h);
          jet = leaves (all (tests address symbols)) refl;
        }

  -- Another message, of any length.
  pub laid_left : {s front last : List ℕ} → length s ≤ 512 → front ≡ in_bytes 2 (length s) → last ≡ s
      → put_mid 2 (2 + length s - 2) (put_mid 0 2 b front) last ≡ jet_bytes (with_message (jet_of b) s)
  laid_left {s} h e g =
      rw (e, g)
      (ap (λ (n : ℕ). in_bytes 2 (length s) ++ (s ++ drop n (drop 2 b))) (behind (length s))
      ∙ over_over (in_bytes 2 (length s)) s b
      ∙ sym (message_bytes b full f s h))

  -- Other parameters.
  pub parameters_left : (q : List ℕ) {general last : List ℕ} → length q ≡ 37 → general ≡ take 11 q
      → last ≡ counter_bytes (set_to (mid_of 11 (length q - 11) q)) → put_mid counter_place 34 (put_mid general_place 11 b general) last ≡ jet_bytes (with_parameters (jet_of b) q)
  parameters_left q {general} {last} e g t =
      let eleven : length (take 11 q) ≡ 11 = length-take-le 11 q (omega arith) in
      let before : length (take general_place b) ≡ general_place = length-take-le general_place b (omega arith) in
      let front : length (take general_place b ++ take 11 q) ≡ counter_place = simp length-append (omega arith) in
      ap (λ (l : List ℕ). put_mid counter_place 34 (put_mid general_place 11 b l) last) g
      ∙ ap (λ (l : List ℕ). put_mid counter_place 34 l last) (sym (append_assoc (take general_place b) (take 11 q) (drop 11 (drop general_place b))))
      ∙ end_back counter_place 34 ((take general_place b ++ take 11 q) ++ drop 11 (drop general_place b)) last (simp (length-append, length-drop) (omega arith))
      ∙ ap (λ (l : List ℕ). l ++ last) (take_at (take general_place b ++ take 11 q) (drop 11 (drop general_place b)) counter_place front)
      ∙ append_assoc (take general_place b) (take 11 q) last
      ∙ ap (λ (l : List ℕ). take general_place b ++ (take 11 q ++ l)) (t ∙ ap (λ (l : List ℕ). counter_bytes (set_to l)) (lent_tail 11 q))
      ∙ sym (parameters_bytes b full f q)

  -- Both.
  pub both_left : (s q : List ℕ) {between last : List ℕ} → length s ≤ 512 → between ≡ jet_bytes (with_message (jet_of b) s) → length between ≡ jet_size → Bytes between
      → last ≡ jet_bytes (with_parameters (jet_of between) q) → last ≡ jet_bytes (with_both (jet_of b) q s)
  unfolding jet_of jet_bytes
  both_left s q {between} h e n g p =
      let content = over s (take 512 (drop 2 b)) in
      let whole : length content ≡ 512 = length_over s (take 512 (drop 2 b)) (simp (length-take, length-drop) (omega arith)) ∙ length-take-le 512 (drop 2 b) (simp length-drop (omega arith)) in
      p
      ∙ parameters_bytes between n g q
      ∙ ap (λ (l : List ℕ). take general_place l ++ (take 11 q ++ counter_bytes (set_to (drop 11 q)))) e
      ∙ ap (λ (l : List ℕ). (in_bytes 2 (length s) ++ l) ++ (take 11 q ++ counter_bytes (set_to (drop 11 q)))) (take_at content _ 512 whole)
      ∙ append_assoc (in_bytes 2 (length s)) content _

  -- A count.
  pub counted_left : {last : List ℕ} → last ≡ counter_bytes (counted (counter_of (mid_of counter_place 34 b))) → put_mid counter_place 34 b last ≡ jet_bytes (counted_jet (jet_of b))
  unfolding jet_of
  counted_left {last} p =
      end_back counter_place 34 b last full ∙ ap (λ (l : List ℕ). take counter_place b ++ l) p ∙ sym (counter_put b full f (counted (counter_of (mid_of counter_place 34 b))))
