-- What the rule of the receiver tells of an update and of a frame: it is whole, and a frame's data is as long as the table says.
use Prim.Native.Nat.{ℕ, ◌+◌, ◌≤◌}
use mathlib.Core.Bool.{Bool, true, false}
use mathlib.Core.List.{List}
use mathlib.Core.Path.{◌≡◌, refl, subst}
use native.Mathlib.Omega.{arith}
use borrow.Author.Tests.{ltb-true}
use lib.Dec.{eqb, ltb}
use lib.ListN.{length, get_or, take}
use Rattle.frame.specs.Ground.{unless}
use Rattle.frame.specs.Given.{given_of}
use Rattle.frame.specs.Wire.{enquiry, update_opens, update_closes, check, size_of, listed, fits, longest_update, update_marks, head_size, around, longest_data}
use Rattle.frame.specs.Receive.{received, updated, framed, judged, run, text_space, data_length}
use Rattle.frame.specs.declared.receive.Received.{Received}
use Rattle.frame.specs.declared.given.Refusal.TheVariants.{WrongLength}
use Rattle.frame.specs.declared.receive.Received.TheVariants.{Partial, Refused, Misfit, Enquiry, Update, Frame}
use Rattle.frame.proofs.Ground.{pick_case, unless_case, text_length}
use Rattle.frame.proofs.Laws.{frame_whole}

-- What each case tells; a refusal's number is never one of the silent 1 to 3, nor 0.
abbrev pub Sound : List ℕ → Received → Type 0
Sound s Partial = Unit {0}
Sound s (Refused why c) = 4 ≤ (given_of why).number
Sound s (Misfit why i n c) = 4 ≤ (given_of why).number
Sound s Enquiry = Unit {0}
Sound s (Update n c) = n + update_marks ≤ length s
Sound s (Frame i n c) = fits (size_of i) n ≡ true

sound_updated : (s : List ℕ) (n : ℕ) → Sound s (updated s n)
unfolding updated
sound_updated s n =
    pick_case (Sound s) (ltb n (length (text_space s))) _ _
    (λ e. omega (arith, text_length s, ltb-true n (length (text_space s)) e))
    (λ e. pick_case (Sound s) (ltb (length s) (longest_update + update_marks)) _ _ (λ h. tt) (λ h. omega arith))

sound_judged : (s : List ℕ) (i n : ℕ) → Sound s (judged i n)
unfolding judged
sound_judged s i n = unless_case (Sound s) (listed (size_of i)) _ _ (omega arith) (go (fits (size_of i) n) refl)
  where
    go : (t : Bool) → fits (size_of i) n ≡ t → Sound s (unless t (Misfit WrongLength i n (n + around)) (Frame i n (n + around)))
    go true e = e
    go false e = omega arith

sound_framed : (s : List ℕ) (n : ℕ) → Sound s (framed s n)
unfolding framed
sound_framed s n =
    pick_case (Sound s) (ltb (length s) 3) _ _ (λ e. tt) (λ e.
    pick_case (Sound s) (ltb longest_data n) _ _ (λ h. omega arith) (λ h.
    pick_case (Sound s) (ltb (length s) (n + around)) _ _ (λ g. tt) (λ g.
    unless_case (Sound s) (eqb (check (take (n + head_size) s)) (get_or s (n + head_size) 0)) _ _ (omega arith) (sound_judged s (get_or s 0 0) n))))

pub sound : (s : List ℕ) → Sound s (received s)
unfolding received
sound s =
    pick_case (Sound s) (eqb (length s) 0) _ _ (λ e. tt) (λ e.
    pick_case (Sound s) (eqb (get_or s 0 0) enquiry) _ _ (λ h. tt) (λ h.
    pick_case (Sound s) (eqb (get_or s 0 0) update_opens) _ _
    (λ g. sound_updated s (run update_closes (text_space s)))
    (λ g. sound_framed s (data_length s))))

pub update_inside : (s : List ℕ) {n c : ℕ} → received s ≡ Update n c → n + update_marks ≤ length s
update_inside s e = subst (Sound s) e (sound s)

pub frame_fits : (s : List ℕ) {i n c : ℕ} → received s ≡ Frame i n c → fits (size_of i) n ≡ true
frame_fits s e = subst (Sound s) e (sound s)

pub frame_inside : (s : List ℕ) {i n c : ℕ} → received s ≡ Frame i n c → n + around ≤ length s
frame_inside s {i = i} {n = n} {c = c} e = let w = frame_whole s i n c e in rw w.0 at w.1.inside
