-- The contracts of `start` and `call` have one outcome.
use Prim.Native.Nat.{ℕ}
use mathlib.Core.Bool.{Bool, true, false}
use mathlib.Core.Path.{◌≡◌, refl, sym, ◌∙◌}
use borrow.Author.Tests.{eqb-true, eqb-false}
use lib.Dec.{eqb}
use lib.ListN.{length}
use Rattle.std.specs.Prelude.{Option}
use Rattle.printer.specs.State.{state_size}
use Rattle.console.specs.Unique.{StartsUnique, TurnsUnique}
use Rattle.console.specs.declared.Turn.{Turn}

pub starts_unique : StartsUnique
starts_unique m m' m'' p q = go (eqb (length m) state_size) refl
  where
    go : (t : Bool) → eqb (length m) state_size ≡ t → m' ≡ m''
    go true e = let h = eqb-true (length m) state_size e in p.state h ∙ sym (q.state h)
    go false e = let h = eqb-false (length m) state_size e in p.other h ∙ sym (q.other h)

same_turn : (a : Option ℕ) (b : ℕ) (c : Option ℕ) (d : ℕ) → a ≡ c → b ≡ d → ◌≡◌ {A = Turn} (record { size = a; consumed = b }) (record { size = c; consumed = d })
same_turn a b c d p q = rw (p, q)

pub turns_unique : TurnsUnique
turns_unique m store s text r r' m' m'' store' store'' text' text'' p q = (
  same_turn r.size r.consumed r'.size r'.consumed (p.size ∙ sym q.size) (p.consumed ∙ sym q.consumed),
  p.state ∙ sym q.state,
  p.stores ∙ sym q.stores,
  p.line ∙ sym q.line,
)
