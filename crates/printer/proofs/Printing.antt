-- Demand 3, the print frame: it is received whole whatever stands behind it, and then being ready alone decides; the strips are those of
-- the law of strips.
use Prim.Native.Nat.{ℕ}
use mathlib.Core.Bool.{true}
use mathlib.Core.List.{List, []}
use mathlib.Core.Path.{◌≡◌, refl, ◌∙◌, ap}
use native.Mathlib.Omega.{arith}
use Rattle.frame.specs.Ground.{pick}
use Rattle.frame.specs.Wire.{size_of}
use Rattle.frame.specs.Build.{frame}
use Rattle.frame.specs.Receive.{received}
use Rattle.frame.specs.declared.receive.Received.TheVariants.{Frame}
use Rattle.frame.proofs.Ground.{unless_tells}
use Rattle.frame.proofs.Laws.{read_back}
use Rattle.calendar.specs.DateChange.{printed}
use Rattle.calendar.proofs.DateChangeLaws.{printed_stands}
use Rattle.printer.specs.State.{valid_state, printer_of}
use Rattle.printer.specs.Print.{print, ready, strips}
use Rattle.printer.specs.Messages.{valid_store}
use Rattle.printer.specs.Receive.{Outcome, outcome, handled, obeyed, printer_order, order}
use Rattle.printer.specs.Demands.{full, print_frame, PrintRefusedExactly, StripsPrinted}
use Rattle.printer.proofs.Valid.{valid_printer, valid_clock, valid_time, four_jets}
use Rattle.printer.proofs.PrintLaws.{strip_meaning}
use Rattle.printer.proofs.Accepting.{valid_handled}

print_received : (rest : List ℕ) → received (print_frame rest) ≡ Frame 0x94 0 4
unfolding frame size_of
print_received rest = (read_back 0x94 [] rest refl (omega arith)).answer

print_obeyed : (m store rest : List ℕ) → valid_state m ≡ true → valid_store store ≡ true → outcome m (full store (print_frame rest)) ≡ obeyed (printer_of m) (print (printer_of m)) 4
unfolding order printer_order
print_obeyed m store rest v w = valid_handled m store (print_frame rest) v w ∙ ap (handled (printer_of m) store (print_frame rest)) (print_received rest)

pub print_refused_exactly : PrintRefusedExactly
unfolding obeyed print
print_refused_exactly m store rest v w =
    rw (print_obeyed m store rest v w)
    (unless_tells (λ (o : Outcome). o.number ≡ pick (ready (printer_of m)) 0 11) (ready (printer_of m)) _ _ (λ e. rw e) (λ e. rw e))

ready_strips : (m store rest : List ℕ) → valid_state m ≡ true → valid_store store ≡ true → ready (printer_of m) ≡ true → (outcome m (full store (print_frame rest))).strips ≡ strips (printer_of m)
unfolding obeyed print
ready_strips m store rest v w f = rw (print_obeyed m store rest v w, f)

pub strips_printed : StripsPrinted
strips_printed m store rest jet v w f h =
    let p = printer_of m in
    let s = strip_meaning p jet (four_jets m) (valid_printer m v) f h in
    rw (ready_strips m store rest v w f)
    (record {
      ends = s.ends;
      same_shape = s.same_shape;
      moment = printed p.date_change p.clock;
      stands = printed_stands p.date_change p.clock (valid_time p (valid_printer m v)) (valid_clock p (valid_printer m v));
      items = s.replaced;
    })
