-- `frame::build::wrap` meets its contract. The head laid over the buffer's front, the data that stands behind it and the check byte stored behind that are the frame laid over the front; a refusal comes before the first store.
use Prim.Native.Nat.{ℕ, ◌+◌, ◌/◌, ◌%◌, ◌≤◌}
use mathlib.Core.List.{List, [], ◌∷◌, ◌++◌}
use mathlib.Core.Path.{◌≡◌, refl, sym, ◌∙◌, ap, ap₂}
use native.Mathlib.Omega.{arith}
use borrow.Author.Tests.{leb-true}
use lib.Dec.{leb}
use lib.ListN.{length, set, take, drop}
use lib.Seq.{take_at}
use Rattle.std.proofs.Common.{Ok, Err, rules}
use Rattle.frame.specs.Ground.{Test, over}
use Rattle.frame.specs.Wire.{check, head_size, around, longest_data}
use Rattle.frame.specs.Build.{Built, answered, answer_tests, bytes_of, frame, head, body, Wraps}
use Rattle.frame.proofs.Ground.{both_true, over_next, over_kept}
use Rattle.frame.proofs.Told.{reported, answered_fits, data_held}
use Rattle.frame.proofs.build.wrap.Goals as goal

abbrev held : ℕ → List ℕ → List ℕ
held n before = take n (drop 3 before)

-- The rule's answer, and the bytes that it tells of.
wraps : (identifier n : ℕ) (before : List ℕ) (r : Built) (after : List ℕ) → r ≡ answered (length before) n → after ≡ over (bytes_of r identifier (held n before)) before
    → Wraps before identifier n r after
unfolding answered
wraps identifier n before r after e q =
    let tests : List Test = answer_tests (length before) n in
    record {
      answer = e;
      reports = reported tests n identifier (held n before) r e (λ a. data_held n before (leb-true (n + around) (length before) (both_true (leb (n + around) (length before)) _ a).0));
      buffer = q;
    }

module _ (identifier n : ℕ) (before headed : List ℕ) (h : n ≤ longest_data) (g : n + around ≤ length before)
    (q : headed ≡ identifier ∷ n / 256 % 256 ∷ n % 256 ∷ []) where
  bodied : headed ++ drop 3 before ≡ over (body identifier (held n before)) before
  bodied =
      ap (λ (l : List ℕ). l ++ drop 3 before) q
      ∙ ap (λ (k : ℕ). over (identifier ∷ k ∷ n % 256 ∷ []) before) (small n h)
      ∙ sym (over_kept (head identifier n) before n (omega arith))
      ∙ ap (λ (k : ℕ). over (head identifier k ++ held n before) before) (sym (data_held n before g))
    where
      small : (n : ℕ) → n ≤ longest_data → n / 256 % 256 ≡ n / 256
      small n h = omega arith

  written : (c k : ℕ) → k ≡ n + around → c ≡ check (take (n + head_size) (headed ++ drop 3 before)) → Wraps before identifier n (Ok k) (set (headed ++ drop 3 before) (n + head_size) c)
  unfolding frame
  written c k u e =
      let d : List ℕ = held n before in
      let l : length (body identifier d) ≡ n + head_size = omega (arith, data_held n before g) in
      let q : c ≡ check (body identifier d) =
      e ∙ ap (λ (l : List ℕ). check (take (n + head_size) l)) bodied ∙ ap check (take_at (body identifier d) (drop (length (body identifier d)) before) (n + head_size) l) in
      wraps identifier n before (Ok k) (set (headed ++ drop 3 before) (n + head_size) c)
      (ap (λ (j : ℕ). Ok j) u ∙ sym (answered_fits (length before) n g h))
      (ap₂ (λ (l : List ℕ) (j : ℕ). set l (n + head_size) j) bodied q
      ∙ over_next (body identifier d) before (n + head_size) (check (body identifier d)) l (omega arith))

pub returns-in_err-length : goal.returns-in_err-length
returns-in_err-length c =
    let a = c.args in
    let e : c.from_residual.result ≡ Err c.in_err-length.field-0.0 = search rules in
    rw e (wraps a.identifier a.n a.out.now _ a.out.now c.in_err-length.ensures.answer refl)

pub returns : goal.returns
returns c =
    let a = c.args in
    let f = c.in_ok-length.ensures.fits in
    let b : c.copy_from_slice.new.self ≡ a.identifier ∷ a.n / 256 % 256 ∷ a.n % 256 ∷ [] =
    rw c.to_be_bytes.ensures at c.copy_from_slice.ensures.after in
    written a.identifier a.n a.out.now c.copy_from_slice.new.self (omega (arith, f)) (omega (arith, f)) b c.check-c.result c.in_ok-length.length (omega (arith, f)) c.check-c.ensures
