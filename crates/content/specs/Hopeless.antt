-- Where bytes that are no good content go wrong, in the words of the grammar alone.
use Rattle.std.specs.Prelude.{ℕ, Err, ◌+◌, ◌<◌, true, List, ◌++◌, ◌↔◌, ◌⊎◌, ◌≡◌, length, take}
use Rattle.content.specs.Content.{verdict}
use Rattle.content.specs.Grammar.{Tree, encode, good_tree}

-- A good content can begin with these bytes: with some bytes behind them they are the writing of a good tree, of whatever length.
pub record Begins (beginning : List ℕ) : Type 0 where
  pub tree : Tree
  pub behind : List ℕ
  pub good : good_tree tree ≡ true
  pub written : encode tree ≡ beginning ++ behind

-- No bytes behind it make a good content of any length.
abbrev pub Hopeless : List ℕ → Type 0
Hopeless beginning = Begins beginning → ⊥

-- 02, Wish 4: "the first byte with which no good content can begin": the bytes up to and with it are hopeless, and those up to and with
-- any byte before it are not.
pub record FirstHopeless (s : List ℕ) (i : ℕ) : Type 0 where
  pub inside : i < length s
  pub hopeless : Hopeless (take (i + 1) s)
  pub least : (j : ℕ) → j < i → Begins (take (j + 1) s)

-- 02, Wish 4: "if the bytes merely stop early, their count": they are no good content, and yet one can begin with them.
pub record StopsEarly (s : List ℕ) (i : ℕ) : Type 0 where
  pub count : i ≡ length s
  pub not_whole : (t : Tree) → good_tree t ≡ true → encode t ≡ s → ⊥
  pub none : (j : ℕ) → j < length s → Begins (take (j + 1) s)

-- The place, leaving the 512 aside.
abbrev pub GoesWrong : List ℕ → ℕ → Type 0
GoesWrong s i = FirstHopeless s i ⊎ StopsEarly s i

-- The reader finds just that place, and none but that.
abbrev pub UnfitThere : Type 0
UnfitThere = (s : List ℕ) (i : ℕ) → (verdict s ≡ Err i) ↔ GoesWrong s i
