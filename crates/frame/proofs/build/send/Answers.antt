-- `frame::build::send` meets its contract. Its tests are the rule's in its order; behind them `lay` leaves the data from place 3 on, so that the frame that `wrap` makes of it is the rule's.
use Prim.Native.Nat.{ℕ, ◌+◌, ◌-◌, ◌≤◌}
use mathlib.Core.Bool.{Bool, true}
use mathlib.Core.List.{List, ◌++◌, append_assoc}
use mathlib.Core.Path.{◌≡◌, refl, sym, ◌∙◌, ap, ap₂}
use native.Mathlib.Omega.{arith}
use borrow.Rule.Slice.PartMut.{mid_of, put_mid}
use lib.ListN.{length, take, drop, length-append, take-append-drop}
use lib.Seq.{length-take-le, take-append_seam, drop_at}
use Rattle.std.proofs.Common.{Err, rules}
use Rattle.frame.specs.Ground.{over}
use Rattle.frame.specs.Wire.{head_size, around, longest_data}
use Rattle.frame.specs.Build.{Built, answered, bytes_of, answer_tests, frame, send_tests, Lays, Wraps, Sends}
use Rattle.frame.specs.declared.given.Given.{Given}
use Rattle.frame.proofs.Ground.{length_over, over_under, laid_behind}
use Rattle.frame.proofs.Told.{frame_length, answered_fits, refused_first}
use Rattle.frame.proofs.build.send.Goals as goal

-- The buffer when what was lent behind its first three bytes is back.
abbrev back : List ℕ → List ℕ → List ℕ
back xs last = put_mid 3 (length xs - 3) xs last

module _ (identifier : ℕ) (before d last : List ℕ) (laid : Bool) (h : length d ≤ longest_data) (g : length d + around ≤ length before)
    (p : Lays (mid_of 3 (length before - 3) before) d laid last) where
  three : length (take 3 before) ≡ 3
  three = length-take-le 3 before (omega arith)

  behind : back before last ≡ over (take 3 before ++ d) before
  behind =
      laid_behind 3 (take 3 before) d before last laid before three (omega arith)
      (sym (ap (λ (k : ℕ). take 3 before ++ drop k before) three ∙ take-append-drop 3 before)) p

  longer : length (take 3 before ++ d) ≡ length d + head_size
  longer = length-append (take 3 before) d ∙ ap (λ (k : ℕ). k + length d) three ∙ omega arith

  same_room : length (back before last) ≡ length before
  same_room = ap length behind ∙ length_over (take 3 before ++ d) before (omega (arith, longer))

  same_data : take (length d) (drop 3 (back before last)) ≡ d
  same_data =
      let rest : List ℕ = drop (length (take 3 before ++ d)) before in
      ap (λ (l : List ℕ). take (length d) (drop 3 l)) (behind ∙ append_assoc (take 3 before) d rest)
      ∙ ap (take (length d)) (drop_at (take 3 before) (d ++ rest) 3 three)
      ∙ take-append_seam d rest

  same_rest : over (frame identifier d) (back before last) ≡ over (frame identifier d) before
  same_rest = ap (over (frame identifier d)) behind ∙ over_under (frame identifier d) (take 3 before ++ d) before (omega (arith, longer, frame_length identifier d))

  written : (known : Bool) (r : Built) (after : List ℕ) → known ≡ true → Wraps (back before last) identifier (length d) r after → Sends before identifier d known r after
  unfolding answered
  written known r after t w =
      let fits = answered_fits (length before) (length d) g h in
      let e : r ≡ answered (length before) (length d) = w.answer ∙ ap (λ (k : ℕ). answered k (length d)) same_room in
      record {
        answer = rw t e;
        buffer =
            w.buffer
            ∙ ap₂ (λ (x : Built) (l : List ℕ). over (bytes_of x identifier l) (back before last)) (e ∙ fits) same_data
            ∙ same_rest
            ∙ ap (λ (x : Built). over (bytes_of x identifier d) before) (sym (e ∙ fits));
      }

-- What an answer's tests refuse is refused before the identifier is asked.
refused : (before : List ℕ) (identifier : ℕ) (d : List ℕ) (known : Bool) (g : Given) → Err g ≡ answered (length before) (length d) → Sends before identifier d known (Err g) before
unfolding answered
refused before identifier d known g e =
    let n = length d in
    let asked_last = drop 2 (send_tests (length before) known n) in
    record { answer = refused_first (answer_tests (length before) n) asked_last n g e; buffer = refl }

pub returns-in_err-frame_length : goal.returns-in_err-frame_length
returns-in_err-frame_length c =
    let a = c.args in
    let e : c.from_residual.result ≡ Err c.in_err-frame_length.field-0.0 = search rules in
    rw e (refused a.out.now a.identifier a.bytes.now a.known _ c.in_err-frame_length.ensures.answer)

pub returns : goal.returns
returns c =
    let a = c.args in
    let f = c.in_ok-frame_length.ensures.fits in
    written a.identifier a.out.now a.bytes.now c.lay.new.out c.lay.result (omega (arith, f)) (omega (arith, f)) c.lay.ensures
    a.known _ c.wrap.new.out c.if-not-known.false c.wrap.ensures
