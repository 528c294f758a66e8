-- The contract of `serve` has one outcome: two that meet it for the same inputs are the same. Every other public call's contract is an
-- equation.
use Rattle.std.specs.Prelude.{ℕ, List, ◌≡◌}
use Rattle.frame.specs.declared.holding.Holding.{Holding}
use Rattle.printer.specs.declared.single.Taken.{Taken}
use Rattle.serving.specs.Hold.{Serves}

abbrev pub ServesUnique : Type 0
ServesUnique =
    (m store : List ℕ) (holding : Holding) (buffer : List ℕ) (byte : ℕ) (answer strips : List ℕ) (r r' : Taken)
    (m' m'' store' store'' buffer' buffer'' answer' answer'' strips' strips'' : List ℕ) →
    Serves m store holding buffer byte answer strips r m' store' buffer' answer' strips' →
    Serves m store holding buffer byte answer strips r' m'' store'' buffer'' answer'' strips'' →
    (r ≡ r') × (m' ≡ m'') × (store' ≡ store'') × (buffer' ≡ buffer'') × (answer' ≡ answer'') × (strips' ≡ strips'')
