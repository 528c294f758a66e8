-- The contracts of `start` and `call` have one outcome: two that meet them for the same inputs are the same. And bytes have one walk that
-- is ended.
use Rattle.std.specs.Prelude.{ℕ, List, ◌≡◌}
use Rattle.console.specs.Console.{Stand, Walks, Ended, Starts, Turns}
use Rattle.console.specs.declared.Turn.{Turn}

abbrev pub StartsUnique : Type 0
StartsUnique = (m m' m'' : List ℕ) → Starts m m' → Starts m m'' → m' ≡ m''

abbrev pub TurnsUnique : Type 0
TurnsUnique =
    (m store s text : List ℕ) (r r' : Turn) (m' m'' store' store'' text' text'' : List ℕ) →
    Turns m store s text r m' store' text' →
    Turns m store s text r' m'' store'' text'' →
    (r ≡ r') × (m' ≡ m'') × (store' ≡ store'') × (text' ≡ text'')

abbrev pub WalksUnique : Type 0
WalksUnique =
    (s : List ℕ) (w w' : Stand) → Walks s w → Ended s w → Walks s w' → Ended s w' → w ≡ w'
