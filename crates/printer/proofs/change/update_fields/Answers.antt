-- `printer::change::update_fields` meets its contract: both jets' positions are counted before the first is written, and that leaves the second as it was; of the text the first takes as many characters as it has positions, the second the rest.
use Prim.Native.Nat.{ℕ, ◌+◌, ◌-◌}
use mathlib.Core.Bool.{true, false}
use mathlib.Core.List.{List}
use mathlib.Core.Path.{◌≡◌, refl, sym, ◌∙◌, ap, ap₂}
use native.Mathlib.Omega.{arith}
use borrow.Author.Rules.{rules}
use borrow.Author.Tests.{eq-eqb, ne_eqb, lt-ltb, le-ltb}
use borrow.Rule.Slice.PartMut.{mid_of}
use lib.Dec.{ltb}
use lib.ListN.{take, drop}
use Rattle.frame.specs.Ground.{placed}
use Rattle.frame.proofs.Ground.{lent_tail}
use Rattle.content.proofs.Front.{all_in_front, some_other}
use Rattle.printer.specs.Jet.{Jet, head_jet, jet_of, jet_size}
use Rattle.printer.specs.State.{jet_place, printer_of, valid_state}
use Rattle.printer.specs.Change.{first_of_head, head_positions, positions, updated_jet, update_fields}
use Rattle.printer.proofs.Numbers.{Bytes}
use Rattle.printer.proofs.Valid.{valid_size}
use Rattle.printer.proofs.Orders.{here, past, end, holds, refused, obeyed}
use Rattle.printer.proofs.Part.{Stands, part_inside, part_size, part_jet, part_short}
use Rattle.printer.proofs.Head.{second_stands, second_short, both_written}
use Rattle.printer.proofs.change.update_fields.Goals as goal

-- Where the two jets stand, and how many positions they have.
first : (m : List ℕ) {at : ℕ} → valid_state m ≡ true → Bytes m → at ≡ jet_place (head_jet 1 0) → Stands m 1 at
first m v known p = record { full = valid_size m v; known = known; place = p; least = omega arith; most = omega arith }

second : (m : List ℕ) {at : ℕ} → valid_state m ≡ true → Bytes m → at ≡ jet_place (head_jet 1 1) → Stands m 2 at
second m v known p = record { full = valid_size m v; known = known; place = p; least = omega arith; most = omega arith }

counted : {m : List ℕ} {a b j k : ℕ} → Stands m 1 a → Stands m 2 b
    → j ≡ positions (jet_of (mid_of a (a + jet_size - a) m))
    → k ≡ positions (jet_of (mid_of b (b + jet_size - b) m))
    → j + k ≡ head_positions (printer_of m)
counted s t e f = ap₂ ◌+◌ (rw (part_jet s) at e) (rw (part_jet t) at f)

none_left : {s k : ℕ} → s ≡ k → s ≡ 0 → ltb 0 k ≡ false
none_left {s} {k} e z = le-ltb 0 k (omega arith)

some_left : {s k : ℕ} → s ≡ k → (s ≡ 0 → ⊥) → ltb 0 k ≡ true
some_left {s} {k} e n = lt-ltb 0 k (omega arith)

pub slice_bounds-jet_1-end : goal.slice_bounds-jet_1-end
slice_bounds-jet_1-end c =
    let s = first c.args.state.now c.requires (search rules) c.head_place-first.ensures.0 in
    part_inside s

pub positions-taken-requires : goal.positions-taken-requires
positions-taken-requires c =
    let s = first c.args.state.now c.requires (search rules) c.head_place-first.ensures.0 in
    part_short s c.requires

pub slice_bounds-jet_2-end : goal.slice_bounds-jet_2-end
slice_bounds-jet_2-end c =
    let t = second c.args.state.now c.requires (search rules) c.head_place-second.ensures.0 in
    part_inside t

pub positions-requires : goal.positions-requires
positions-requires c =
    let t = second c.args.state.now c.requires (search rules) c.head_place-second.ensures.0 in
    part_short t c.requires

pub returns-then-all-eq0 : goal.returns-then-all-eq0
unfolding update_fields
returns-then-all-eq0 c =
    let s = first c.args.state.now c.requires (search rules) c.head_place-first.ensures.0 in
    let t = second c.args.state.now c.requires (search rules) c.head_place-second.ensures.0 in
    let all = counted s t c.positions-taken.ensures.0 c.positions.ensures.0 in
    refused refl (here (none_left all c.if-all-eq0.true))

pub returns-then-text-all : goal.returns-then-text-all
unfolding update_fields
returns-then-text-all c =
    let s = first c.args.state.now c.requires (search rules) c.head_place-first.ensures.0 in
    let t = second c.args.state.now c.requires (search rules) c.head_place-second.ensures.0 in
    let all = counted s t c.positions-taken.ensures.0 c.positions.ensures.0 in
    refused refl (past (some_left all c.if-all-eq0.false) (here (ne_eqb _ _ (λ e. c.if-text-all.true (e ∙ sym all)))))

pub returns-then-i-all : goal.returns-then-i-all
unfolding update_fields
returns-then-i-all c =
    let s = first c.args.state.now c.requires (search rules) c.head_place-first.ensures.0 in
    let t = second c.args.state.now c.requires (search rules) c.head_place-second.ensures.0 in
    let all = counted s t c.positions-taken.ensures.0 c.positions.ensures.0 in
    let front = c.characters_in_front-i.ensures in
    refused (ap (placed 13) front)
    (past (some_left all c.if-all-eq0.false)
    (past (eq-eqb _ _ (c.if-text-all.false ∙ all))
    (here (some_other c.args.text.now (omega (arith, c.if-i-all.true, front, c.if-text-all.false))))))

pub update_jet-requires : goal.update_jet-requires
update_jet-requires c =
    let s = first c.args.state.now c.requires (search rules) c.head_place-first.ensures.0 in
    (part_size s, part_short s c.requires)

pub update_jet-requires-2 : goal.update_jet-requires-2
update_jet-requires-2 c =
    let s = first c.args.state.now c.requires (search rules) c.head_place-first.ensures.0 in
    let t = second c.args.state.now c.requires (search rules) c.head_place-second.ensures.0 in
    let still = second_stands s t c.update_jet.new.jet c.update_jet.auto.jet (search rules) in
    (part_size still, second_short s t c.update_jet.new.jet c.update_jet.auto.jet c.requires)

pub returns : goal.returns
unfolding update_fields
returns c =
    let s = first c.args.state.now c.requires (search rules) c.head_place-first.ensures.0 in
    let t = second c.args.state.now c.requires (search rules) c.head_place-second.ensures.0 in
    let all = counted s t c.positions-taken.ensures.0 c.positions.ensures.0 in
    let taken : c.positions-taken.result ≡ positions (first_of_head (printer_of c.args.state.now)) = rw (part_jet s) at c.positions-taken.ensures.0 in
    let text = c.args.text.now in
    let n = positions (first_of_head (printer_of c.args.state.now)) in
    let characters = all_in_front text (omega (arith, c.if-i-all.false, c.characters_in_front-i.ensures, c.if-text-all.false)) in
    obeyed refl (holds (some_left all c.if-all-eq0.false) (holds (eq-eqb _ _ (c.if-text-all.false ∙ all)) (holds characters end)))
    (both_written s t c.update_jet.new.jet c.update_jet.auto.jet
    (λ (j : Jet). updated_jet j (take n text)) (λ (j : Jet). updated_jet j (drop n text))
    (rw taken at c.update_jet.ensures) (rw (lent_tail, taken) at c.update_jet-2.ensures))
