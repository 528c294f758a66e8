-- `content::edit::edit` meets its contract. Each refusal comes before the first write. Symbols that all land on positions have room
-- behind the address, so `lay` writes them there; with an address behind the end there are none, and the content is what it was.
use Prim.Native.Nat.{ℕ, ◌+◌, ◌-◌, ◌≤◌, ◌<◌}
use mathlib.Core.Bool.{Bool, true}
use mathlib.Core.List.{List, [], ◌∷◌, ◌++◌, append-nil}
use mathlib.Core.Path.{◌≡◌, refl, sym, ◌∙◌, ap}
use native.Mathlib.Nat.{add-zero, not-suc-le-zero}
use native.Mathlib.Omega.{arith}
use Rattle.std.specs.Prelude.{Option, None, Some, Err}
use borrow.Rule.Slice.PartMut.{mid_of, put_mid}
use lib.ListN.{length, take, drop, length-append, length-drop, take-append-drop}
use lib.Seq.{length-take-le}
use Rattle.frame.specs.Build.{Lays}
use Rattle.frame.specs.Ground.{over, placed}
use Rattle.frame.proofs.Ground.{laid_behind, both_true}
use Rattle.content.specs.Byte.{characters_in_front}
use Rattle.content.specs.Edit as edits
use Rattle.content.specs.Edit.{Edits, addressed, edited, replaced, strayed}
use Rattle.content.specs.Machine.{start}
use Rattle.content.specs.Position.{marks, is_position}
use Rattle.content.specs.declared.position.Mark.{Mark}
use Rattle.content.proofs.Front.{all_in_front, some_other}
use Rattle.content.proofs.Run.{length_marks}
use Rattle.content.proofs.Stretches.{strayed_at, strayed_nowhere}
use Rattle.content.proofs.Told.{edit_told}
use Rattle.content.proofs.edit.edit.Goals as goal

on_marks : (symbols : List ℕ) (ms : List Mark) → addressed symbols ms ≡ true → length symbols ≤ length ms
on_marks [] ms e = omega arith
on_marks (x ∷ symbols) [] e = let z : ◌≡◌ {A = ℕ} 0 1 = cc in omega arith
on_marks (x ∷ symbols) (m ∷ ms) e = omega (arith, on_marks symbols ms (both_true (is_position m) (addressed symbols ms) e).1)

none : (s : List ℕ) (address : ℕ) (symbols : List ℕ) → length symbols ≤ 0 → s ≡ replaced s address symbols
none s address [] h = rw (append-nil, add-zero) (sym (take-append-drop address s))
none s address (x ∷ symbols) h = absurd (not-suc-le-zero h)

module _ (s : List ℕ) (address : ℕ) (symbols : List ℕ) {w : Option ℕ} (e : w ≡ strayed address symbols (drop address (marks start s))) where
  no_position : {i : ℕ} → w ≡ Some i → Edits s address symbols (Err (placed 12 i)) s
  unfolding edited
  no_position f = let h = strayed_at address symbols _ (sym e ∙ f) in edit_told s address symbols (rw (h.0, h.1)) refl

  module _ (f : w ≡ None) where
    all_land : addressed symbols (drop address (marks start s)) ≡ true
    all_land = strayed_nowhere address symbols _ (sym e ∙ f)

    no_character : {i : ℕ} → i ≡ characters_in_front symbols → i < length symbols → Edits s address symbols (Err (placed 13 i)) s
    unfolding edited
    no_character n h = edit_told s address symbols (rw (all_land, some_other symbols (rw (← n) h), n)) refl

    done : {i : ℕ} {after : List ℕ} → i ≡ characters_in_front symbols → length symbols ≤ i → after ≡ replaced s address symbols → Edits s address symbols edits.done after
    unfolding edited
    done n h p = edit_told s address symbols (rw (all_land, all_in_front symbols (rw (← n) h))) p

    room : length symbols ≤ length s - address
    room = omega (arith, on_marks symbols (drop address (marks start s)) all_land, length-drop address (marks start s), length_marks start s)

    written : {r : Bool} {last : List ℕ} → address ≤ length s → Lays (mid_of address (length s - address) s) symbols r last → put_mid address (length s - address) s last ≡ replaced s address symbols
    written {r} {last} h p =
        let front : length (take address s) ≡ address = length-take-le address s h in
        let whole : s ≡ over (take address s) s = rw front (sym (take-append-drop address s)) in
        let end : length (take address s ++ symbols) ≡ address + length symbols = length-append (take address s) symbols ∙ ap (λ (n : ℕ). n + length symbols) front in
        laid_behind address (take address s) symbols s last r s front (omega (arith, room, h)) whole p
        ∙ ap (λ (n : ℕ). (take address s ++ symbols) ++ drop n s) end

    untouched : length s < address → s ≡ replaced s address symbols
    untouched h = none s address symbols (omega (arith, room, h))

pub returns-in-Some : goal.returns-in-Some
returns-in-Some c =
    let a = c.args in
    no_position a.s.now a.address a.symbols.now c.strayed.ensures c.in-Some.is

pub returns-then-i-symbols : goal.returns-then-i-symbols
returns-then-i-symbols c =
    let a = c.args in
    no_character a.s.now a.address a.symbols.now c.strayed.ensures c.in_default.is c.characters_in_front-i.ensures c.if-i-symbols.true

pub returns-then-address-s : goal.returns-then-address-s
returns-then-address-s c =
    let a = c.args in
    let p = c.strayed.ensures in
    let f = c.in_default.is in
    done a.s.now a.address a.symbols.now p f c.characters_in_front-i.ensures c.if-i-symbols.false
    (written a.s.now a.address a.symbols.now p f c.if-address-s.true c.lay.ensures)

pub returns-else-address-s : goal.returns-else-address-s
returns-else-address-s c =
    let a = c.args in
    let p = c.strayed.ensures in
    let f = c.in_default.is in
    done a.s.now a.address a.symbols.now p f c.characters_in_front-i.ensures c.if-i-symbols.false
    (untouched a.s.now a.address a.symbols.now p f c.if-address-s.false)
