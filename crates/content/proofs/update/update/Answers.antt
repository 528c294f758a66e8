-- `content::update::update` meets its contract. Each refusal comes before the first write; else the bytes are those of `lay_text`.
use Prim.Native.Nat.{ℕ, ◌≤◌, ◌<◌}
use mathlib.Core.List.{List}
use mathlib.Core.Path.{◌≡◌, refl}
use native.Mathlib.Omega.{arith}
use Rattle.std.specs.Prelude.{Err}
use borrow.Author.Tests.{eq-eqb, ne_eqb}
use lib.ListN.{length}
use Rattle.frame.specs.Ground.{placed, plain}
use Rattle.content.specs.Byte.{characters_in_front}
use Rattle.content.specs.Machine.{start}
use Rattle.content.specs.Position.{field_positions}
use Rattle.content.specs.Edit as edits
use Rattle.content.specs.Update.{Updates, laid, updated}
use Rattle.content.proofs.Front.{all_in_front, some_other}
use Rattle.content.proofs.Told.{update_told}
use Rattle.content.proofs.update.update.Goals as goal

module _ (s text : List ℕ) {n : ℕ} (e : n ≡ field_positions s) where
  wrong_number : (length text ≡ n → ⊥) → Updates s text (Err (plain 18)) s
  unfolding updated
  wrong_number h = update_told s text (rw (← e, ne_eqb (length text) n h)) refl

  module _ {i : ℕ} (f : i ≡ characters_in_front text) where
    no_character : length text ≡ n → i < length text → Updates s text (Err (placed 13 i)) s
    unfolding updated
    no_character h l =
        update_told s text
        (rw (← e, eq-eqb (length text) n h, some_other text (omega (arith, l, f)), f)) refl

    done : {after : List ℕ} → length text ≡ n → length text ≤ i → after ≡ laid text start s → Updates s text edits.done after
    unfolding updated
    done h l p = update_told s text (rw (← e, eq-eqb (length text) n h, all_in_front text (omega (arith, l, f)))) p

pub returns-then-text-field_positions : goal.returns-then-text-field_positions
returns-then-text-field_positions c =
    let a = c.args in
    wrong_number a.s.now a.text.now c.field_positions.ensures c.if-text-field_positions.true

pub returns-then-i-text : goal.returns-then-i-text
returns-then-i-text c =
    let a = c.args in
    no_character a.s.now a.text.now c.field_positions.ensures c.characters_in_front-i.ensures c.if-text-field_positions.false c.if-i-text.true

pub returns : goal.returns
returns c =
    let a = c.args in
    done a.s.now a.text.now c.field_positions.ensures c.characters_in_front-i.ensures
    c.if-text-field_positions.false c.if-i-text.false c.lay_text.ensures
