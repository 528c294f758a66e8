-- Why a burst gives the same byte by byte: each byte comes to what it comes to by the receiver for single bytes, and of that it is proved.
use Prim.Native.Nat.{ℕ}
use mathlib.Core.Bool.{Bool, true, false}
use mathlib.Core.List.{List, [], ◌∷◌}
use mathlib.Core.Path.{◌≡◌, refl, ◌∙◌, ap}
use native.Mathlib.Omega.{arith}
use lib.Dec.{eqb}
use Rattle.frame.specs.Ground.{pick}
use Rattle.frame.specs.Holding.{holding_behind}
use Rattle.printer.specs.Order.{store_after}
use Rattle.printer.specs.Receive.{Outcome, kept}
use Rattle.printer.specs.Bursts.{Run, Stand, behind, byte_in, byte_run, quiet, reply, said, saying}
use Rattle.printer.proofs.Bursts.{Sound, behind_sound, burst_as_whole, quiet_sound}
use Rattle.serving.specs.HoldLaws.{AsSingle}
use Rattle.serving.proofs.HoldLaws.{served_as_single}
use Rattle.thebox.specs.Line.{given_at, onward}
use Rattle.thebox.specs.BurstLaws.{SameAsFirst, line_run}
use Rattle.thebox.proofs.Laws.{same_stand}

-- One byte.
byte_same : {model : ℕ} (w : Stand) (b : ℕ) → Sound model w → AsSingle w.state (byte_in w b)
byte_same w b g = served_as_single w.state (byte_in w b) g.state.sound g.store g.holding (omega arith) (omega arith)

onward_same : {model : ℕ} (w : Stand) (b : ℕ) → Sound model w → onward w b ≡ behind w b
onward_same w b g =
    let e = byte_same w b g in
    same_stand (ap (λ (o : Outcome). kept o w.state) e.outcome) (ap (λ (o : Outcome). store_after o.store w.store) e.outcome) (ap (λ (o : Outcome). holding_behind w.holding o.number) e.outcome) e.buffer

abbrev with_byte : Outcome → Run → Run
with_byte o x = pick (eqb o.number 3) x (saying (reply o) x)

one_byte : (w : Stand) (b : ℕ) (s : List ℕ) → line_run w (b ∷ s) ≡ with_byte (given_at w b) (line_run (onward w b) s)
one_byte w b s = go (eqb (given_at w b).number 3)
  where
    x : Run
    x = line_run (onward w b) s

    go : (t : Bool)
        → ◌≡◌ {A = Run} (record { replies = pick t x.replies (reply (given_at w b) ∷ x.replies); state = x.state; store = x.store })
        (pick t x (saying (reply (given_at w b)) x))
    go true = refl
    go false = refl

-- By induction over the burst.
same_run : {model : ℕ} (s : List ℕ) (w : Stand) → Sound model w → line_run w s ≡ byte_run w s
same_run [] w g = refl
same_run (b ∷ s) w g =
    one_byte w b s
    ∙ ap (λ (o : Outcome). with_byte o (line_run (onward w b) s)) (byte_same w b g).outcome
    ∙ ap (with_byte (said w b)) (ap (λ (x : Stand). line_run x s) (onward_same w b g) ∙ same_run s (behind w b) (behind_sound w b g))

pub same_as_first : SameAsFirst
same_as_first m store holding buffer burst calls v f w full long =
    same_run burst (quiet m store holding buffer) (quiet_sound m store holding buffer v f w full)
    ∙ burst_as_whole m store holding buffer burst calls v f w full long
