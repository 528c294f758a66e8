-- What the builder's tests say of its answer: its number and the length given back; a frame that fits is written, and an answer that one is says that every test holds.
use Prim.Native.Nat.{ℕ, ◌+◌, ◌≤◌}
use mathlib.Core.Bool.{Bool, true, false}
use mathlib.Core.List.{List, [], ◌∷◌, ◌++◌}
use mathlib.Core.Path.{◌≡◌, refl, sym, ◌∙◌, ap, subst}
use native.Mathlib.Omega.{arith}
use borrow.Author.Tests.{le-leb}
use lib.ListN.{length, take, drop, length-append, length-drop}
use lib.Seq.{length-take-le}
use Rattle.frame.specs.Ground.{Test, all, over, unless}
use Rattle.frame.specs.declared.given.Given.{Given}
use Rattle.frame.specs.Wire.{check, head_size, around, listed, longest_data, size_of}
use Rattle.frame.specs.Build.{Built, frame, body, decided, answered, answer_tests, build_tests, built, bytes_of, length_given, given_by, send_tests, Answers, Builds, Reports, Sends, Wraps}
use Rattle.std.proofs.Common.{Ok, Err, Option, Some, None, is_some}
use Rattle.frame.specs.declared.wire.Size.{Size}
use Rattle.frame.proofs.Ground.{checked_all, checked_refuses, checked_case, checked_map}

pub frame_length : (identifier : ℕ) (d : List ℕ) → length (frame identifier d) ≡ length d + around
unfolding frame
frame_length identifier d = omega (arith, length-append d (check (body identifier d) ∷ []))

pub reported : (tests : List Test) (n identifier : ℕ) (d : List ℕ) (r : Built) → r ≡ decided tests n → (all tests ≡ true → length d ≡ n) → Reports tests (bytes_of r identifier d) r
reported tests n identifier d r e h =
    record {
      first = ap given_by e ∙ checked_map given_by tests Err (Ok (n + around));
      size =
          subst (λ (x : Built). length_given x ≡ length (bytes_of x identifier d)) (sym e)
          (checked_case (λ (x : Built). length_given x ≡ length (bytes_of x identifier d)) tests Err (Ok (n + around))
          (λ t f. refl)
          (λ a. sym (frame_length identifier d ∙ ap (λ (k : ℕ). k + around) (h a))));
    }

pub answered_fits : (room n : ℕ) → n + around ≤ room → n ≤ longest_data → answered room n ≡ Ok (n + around)
unfolding answered
answered_fits room n g h = rw (le-leb (n + around) room g, le-leb n longest_data h)

-- The data that stands in a buffer behind the head's place.
pub data_held : (n : ℕ) (before : List ℕ) → n + around ≤ length before → length (take n (drop head_size before)) ≡ n
data_held n before g = length-take-le n (drop head_size before) (simp length-drop (omega arith))

-- What `wrap` does where the data fits.
pub wrap_fits : {before : List ℕ} {identifier n : ℕ} {r : Built} {after : List ℕ} → Wraps before identifier n r after → n + around ≤ length before → n ≤ longest_data
    → (r ≡ Ok (n + around)) × (after ≡ over (frame identifier (take n (drop head_size before))) before)
wrap_fits {before} {identifier} {n} w g h =
    let e = w.answer ∙ answered_fits (length before) n g h in
    (e, w.buffer ∙ ap (λ (x : Built). over (bytes_of x identifier (take n (drop head_size before))) before) e)

pub accepted : (tests : List Test) (n m : ℕ) → ◌≡◌ {A = Built} (Ok n) (decided tests m) → (all tests ≡ true) × (n ≡ m + around)
accepted tests n m e = go (all tests) refl
  where
    same : (k : ℕ) → ◌≡◌ {A = Built} (Ok n) (Ok k) → n ≡ k
    same k q = cc

    never : (g : Given) → ◌≡◌ {A = Built} (Ok n) (Err g) → ⊥
    never g q = cc

    go : (b : Bool) → all tests ≡ b → (b ≡ true) × (n ≡ m + around)
    go true q = (refl, same (m + around) (e ∙ checked_all tests Err (Ok (m + around)) q))
    go false q =
        let r = checked_refuses tests q in
        absurd (never r.failed.otherwise (e ∙ r.gives Err (Ok (m + around))))

-- What some tests refuse is refused whatever tests stand behind them.
pub refused_first : (ts us : List Test) (n : ℕ) (g : Given) → ◌≡◌ {A = Built} (Err g) (decided ts n) → ◌≡◌ {A = Built} (Err g) (decided (ts ++ us) n)
refused_first [] us n g e = cc
refused_first (t ∷ ts) us n g e = go t.holds (refused_first ts us n g) e
  where
    go : (b : Bool) → (◌≡◌ {A = Built} (Err g) (decided ts n) → ◌≡◌ {A = Built} (Err g) (decided (ts ++ us) n))
        → ◌≡◌ {A = Built} (Err g) (unless b (Err t.otherwise) (decided ts n)) → ◌≡◌ {A = Built} (Err g) (unless b (Err t.otherwise) (decided (ts ++ us) n))
    go true again e = again e
    go false again e = e

-- What `send` does of an identifier that is known is an answer, and of one that is known where it stands in the table, a frame that is built.
pub answers : (before : List ℕ) (identifier : ℕ) (d : List ℕ) (r : Built) (after : List ℕ) → Sends before identifier d true r after → Answers before identifier d r after
unfolding answered
answers before identifier d r after s =
    record {
      answer = s.answer;
      reports = reported (answer_tests (length before) (length d)) (length d) identifier d r s.answer (λ a. refl);
      buffer = s.buffer;
    }

pub builds : (before : List ℕ) (identifier : ℕ) (d : List ℕ) (known : Bool) (r : Built) (after : List ℕ) → known ≡ is_some (size_of identifier)
    → Sends before identifier d known r after → Builds before identifier d r after
unfolding built
builds before identifier d known r after k s =
    let e : r ≡ built (length before) identifier (length d) =
    s.answer ∙ ap (λ (b : Bool). decided (send_tests (length before) b (length d)) (length d)) (k ∙ listed_some (size_of identifier)) in
    record { answer = e; reports = reported (build_tests (length before) identifier (length d)) (length d) identifier d r e (λ a. refl); buffer = s.buffer }
  where
    listed_some : (size : Option Size) → is_some size ≡ listed size
    listed_some (Some k) = refl
    listed_some None = refl
