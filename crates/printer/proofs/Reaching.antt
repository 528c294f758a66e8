-- Why every state that is reached is valid, and what each jet then holds: a fresh printer is valid and holds nothing, and every call leads on
-- from such a state to such a state. What is held is what is printed.
use Prim.Native.Nat.{ℕ, ◌-◌, ◌≤◌}
use mathlib.Core.Bool.{Bool, true, false}
use mathlib.Core.List.{List, [], ◌∷◌, map, map-map}
use mathlib.Core.Path.{◌≡◌, refl, sym, subst, ap, ◌∙◌}
use lib.ListN.{length}
use Rattle.frame.specs.declared.given.Given.{Given}
use Rattle.frame.proofs.Ground.{checked_all}
use Rattle.content.specs.Content.{is_content}
use Rattle.content.specs.Grammar.{Tree, Line, block_outline, block_shape, outline, shape}
use Rattle.content.specs.Tree.{tree_of}
use Rattle.printer.specs.Jet.{has_jet, has_message, message}
use Rattle.printer.specs.State.{Printer, empty_jet, jet_at, valid, valid_state, printer_of, bytes_of, fresh_printer}
use Rattle.printer.specs.Call.{first_printer, fresh, fresh_tests}
use Rattle.printer.specs.Demands.{Call, after, after_all, fresh_state, is_fresh, Brought, brought, newer, last_whole, jet_after, Printed, MessagesHeld, NothingHeld, ReachedValid, PrintedAsAccepted}
use Rattle.calendar.specs.declared.clock.Clock.{Clock}
use Rattle.printer.proofs.Valid.{valid_printer, valid_at, jet_content, on_row, four_jets}
use Rattle.printer.proofs.Rows.{replicate_at}
use Rattle.printer.proofs.StateLaws.{fresh_valid}
use Rattle.printer.proofs.PrintLaws.{none_empty, ready_at}
use Rattle.printer.proofs.Written.{written}
use Rattle.printer.proofs.Rooms.{Rooms, fresh_rooms}
use Rattle.printer.proofs.Leading.{Leads, one_call, leads_valid, leads_model, leads_four, leads_rooms}
use Rattle.printer.proofs.Following.{Follows, none, content_some, held_none, last_none, leads_follow, outline_same, follows_held}
use Rattle.printer.proofs.Printing.{print_refused_exactly, strips_printed}

-- ---- Every state is valid.
-- What is true of every state that is reached from a fresh printer of a type.
pub record Reached (model : ℕ) (m : List ℕ) : Type 0 where
  pub sound : valid_state m ≡ true
  pub rooms : Rooms (printer_of m)
  pub same_model : (printer_of m).model ≡ model

written_reached : {model : ℕ} (q : Printer) → valid q ≡ true → length q.jets ≡ 4 → Rooms q → q.model ≡ model → Reached model (bytes_of q)
written_reached q v four r e =
    let w = written q v four r in
    record { sound = w.sound; rooms = w.rooms; same_model = w.model ∙ e }

leads_reached : {model jet : ℕ} {m : List ℕ} {q : Printer} {b : Brought} → Reached model m → Leads jet (printer_of m) q b → Reached model (bytes_of q)
leads_reached {m = m} {q = q} r l =
    let v = valid_printer m r.sound in
    let four = four_jets m in
    written_reached q (leads_valid v four l) (leads_four four l) (leads_rooms v r.rooms l) (leads_model four l ∙ r.same_model)

pub call_reached : {model : ℕ} {m : List ℕ} → Reached model m → (c : Call) → Reached model (after m c)
call_reached {model = model} {m = m} r c = one_call 1 m (λ (l : List ℕ) (b : Brought). Reached model l) r (λ q b l. leads_reached r l) c

all_reached : {model : ℕ} (m : List ℕ) (calls : List Call) → Reached model m → Reached model (after_all m calls)
all_reached m [] r = r
all_reached m (c ∷ calls) r = all_reached (after m c) calls (call_reached r c)

-- A fresh printer that is not refused is empty and of the type asked for.
fresh_given : (model : ℕ) (clock : Clock) → is_fresh model clock ≡ true → fresh model clock ≡ fresh_printer model clock
fresh_given model clock e = checked_all (fresh_tests model clock) (λ (r : Given). first_printer) (fresh_printer model clock) e

fresh_sound : (model : ℕ) (clock : Clock) → is_fresh model clock ≡ true → valid (fresh_printer model clock) ≡ true
fresh_sound model clock e = subst (λ (p : Printer). valid p ≡ true) (fresh_given model clock e) (fresh_valid model clock)

fresh_reached : (model : ℕ) (clock : Clock) → is_fresh model clock ≡ true → Reached model (fresh_state model clock)
fresh_reached model clock e =
    subst (λ (p : Printer). Reached model (bytes_of p)) (sym (fresh_given model clock e))
    (written_reached (fresh_printer model clock) (fresh_sound model clock e) refl (fresh_rooms model clock) refl)

pub reached_valid : ReachedValid
reached_valid model clock calls e = (all_reached (fresh_state model clock) calls (fresh_reached model clock e)).sound

-- ---- What each jet holds.
-- The message of a jet, beside the last whole one.
record Holds (model jet : ℕ) (m last : List ℕ) : Type 0 where
  reached : Reached model m
  follows : Follows (message (jet_at (printer_of m) jet)) last

leads_hold : {model jet : ℕ} {m last : List ℕ} {q : Printer} {b : Brought} → 1 ≤ jet → Holds model jet m last → Leads jet (printer_of m) q b
    → Holds model jet (bytes_of q) (newer b last)
leads_hold {jet = jet} {m = m} {last = last} {q = q} {b = b} k x l =
    let v = valid_printer m x.reached.sound in
    let four = four_jets m in
    let w = written q (leads_valid v four l) (leads_four four l) (leads_rooms v x.reached.rooms l) in
    record {
      reached = leads_reached x.reached l;
      follows = subst (λ (s : List ℕ). Follows s (newer b last)) (sym (w.messages jet)) (leads_follow (printer_of m) four jet k last x.follows q b l);
    }

all_hold : {model : ℕ} (jet : ℕ) (m : List ℕ) (calls : List Call) (last : List ℕ) → 1 ≤ jet
    → Holds model jet m last → Holds model jet (after_all m calls) (last_whole jet m calls last)
all_hold jet m [] last k x = x
all_hold {model} jet m (c ∷ calls) last k x =
    all_hold jet (after m c) calls (newer (brought jet m c) last) k
    (one_call jet m (λ (l : List ℕ) (b : Brought). Holds model jet l (newer b last)) x (λ q b l. leads_hold k x l) c)

-- A fresh printer has no message.
empty_message : message empty_jet ≡ []
unfolding empty_jet
empty_message = refl

fresh_holds : (model : ℕ) (clock : Clock) (calls : List Call) (jet : ℕ) → is_fresh model clock ≡ true → has_jet model jet ≡ true
    → Holds model jet (after_all (fresh_state model clock) calls) (last_whole jet (fresh_state model clock) calls [])
fresh_holds model clock calls jet e h =
    let p = fresh_printer model clock in
    let w = written p (fresh_sound model clock e) refl (fresh_rooms model clock) in
    let q : message (jet_at (printer_of (bytes_of p)) jet) ≡ [] = w.messages jet ∙ ap message (replicate_at 4 (jet - 1) empty_jet) ∙ empty_message in
    all_hold jet (fresh_state model clock) calls [] (on_row model jet h).0
    (record {
      reached = fresh_reached model clock e;
      follows =
          subst (λ (x : Printer). Follows (message (jet_at (printer_of (bytes_of x)) jet)) []) (sym (fresh_given model clock e))
          (subst (λ (s : List ℕ). Follows s []) (sym q) none);
    })

-- The message of a jet that is reached is a content.
held_content : {model : ℕ} {m : List ℕ} (jet : ℕ) → Reached model m → has_jet model jet ≡ true → has_message (jet_at (printer_of m) jet) ≡ true
    → is_content (message (jet_at (printer_of m) jet)) ≡ true
held_content {model} {m} jet r h t =
    jet_content _ (jet_at (printer_of m) jet) (valid_at (printer_of m) jet (valid_printer m r.sound) (on_row model jet h).0) t

pub messages_held : MessagesHeld
messages_held model clock calls jet e h t =
    let x = fresh_holds model clock calls jet e h in
    follows_held _ _ (held_content jet x.reached h t) x.follows

empty_none : {model : ℕ} {m : List ℕ} (jet : ℕ) → Reached model m → has_jet model jet ≡ true → message (jet_at (printer_of m) jet) ≡ []
    → has_message (jet_at (printer_of m) jet) ≡ false
empty_none {m = m} jet r h e = go (has_message (jet_at (printer_of m) jet)) refl
  where
    go : (t : Bool) → has_message (jet_at (printer_of m) jet) ≡ t → has_message (jet_at (printer_of m) jet) ≡ false
    go true t = absurd (content_some (rw e at (held_content jet r h t)))
    go false t = t

pub nothing_held : NothingHeld
nothing_held model clock calls jet e h =
    let x = fresh_holds model clock calls jet e h in (
      (λ t. held_none x.follows (none_empty (jet_after model clock calls jet) t)),
      (λ z. empty_none jet x.reached h (last_none x.follows z)),
    )

-- ---- What each jet prints.
-- Trees of the same outline have the same lines and blocks.
line_shape : (l : Line) → map block_shape (map block_outline l) ≡ map block_shape l
line_shape l = map-map block_shape block_outline l

outline_shape : (t : Tree) → shape (outline t) ≡ shape t
outline_shape [] = refl
outline_shape (l ∷ t) = rw (line_shape l, outline_shape t)

same_shape : (t u : Tree) → outline t ≡ outline u → shape t ≡ shape u
same_shape t u e = sym (outline_shape t) ∙ ap shape e ∙ outline_shape u

-- What has the lines and blocks of one content has those of another of the same outline.
printed_as : {p : Printer} {jet : ℕ} {held last strip : List ℕ} → outline (tree_of held) ≡ outline (tree_of last)
    → Printed p jet held strip → Printed p jet last strip
printed_as {held = held} {last = last} e x =
    record {
      ends = x.ends;
      same_shape = x.same_shape ∙ same_shape (tree_of held) (tree_of last) e;
      moment = x.moment;
      stands = x.stands;
      items = x.items;
    }

pub printed_as_accepted : PrintedAsAccepted
printed_as_accepted model clock calls store rest e w =
    let m = after_all (fresh_state model clock) calls in
    let v = reached_valid model clock calls e in
    record {
      gets = print_refused_exactly m store rest v w;
      prints = λ jet ready h.
          let x = fresh_holds model clock calls jet e h in
          let on : has_jet (printer_of m).model jet ≡ true = rw x.reached.same_model h in
          let held = messages_held model clock calls jet e h (ready_at (printer_of m) jet (four_jets m) ready on).0 in
          record { held = held; printed = printed_as (outline_same x.follows held.content) (strips_printed m store rest jet v w ready on) };
    }
