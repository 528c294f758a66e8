-- What is true of what is held between single bytes: it is exactly what bursts leave, and bytes that come one at a time are sorted as they
-- are when they come together.
use Rattle.std.specs.Prelude.{ℕ, true, List, [], ◌∷◌, ◌++◌, ◌↔◌, ◌≡◌, eqb, length, take}
use Rattle.frame.specs.Ground.{pick}
use Rattle.frame.specs.Receive.{received, number, consumed}
use Rattle.frame.specs.Holding.{buffer_behind, holding_behind, is_held, is_holding, silenced}
use Rattle.frame.specs.declared.holding.Holding.{Holding}
use Rattle.frame.specs.declared.holding.Holding.TheVariants.{Held, Dropping}
use Rattle.frame.specs.declared.given.Refusal.TheVariants.{TooLong}
use Rattle.frame.specs.declared.receive.Received.TheVariants.{Partial, Refused}

-- Bytes are held exactly while they are not whole.
abbrev pub HeldPartial : Type 0
HeldPartial = (s : List ℕ) → (is_held s ≡ true) ↔ (received s ≡ Partial)

-- ---- What bursts leave, over the receiver of document 01 alone.
-- Behind a silence nothing is held. A byte joins what is held; what then is whole is gone, and 02, Wish 6, "After 4 it drops all until
-- silence".
pub data Left : Type 0 where
  waiting : List ℕ → Left
  dropping : Left

abbrev pub left_by : List ℕ → ℕ → Left
left_by s number = pick (eqb number 3) (waiting s) (pick (eqb number 4) dropping (waiting []))

abbrev pub left_behind : Left → ℕ → Left
left_behind (waiting s) byte = left_by (s ++ (byte ∷ [])) (number (received (s ++ (byte ∷ []))))
left_behind dropping byte = dropping

abbrev pub leaves_from : Left → List ℕ → Left
leaves_from l [] = l
leaves_from l (byte ∷ burst) = leaves_from (left_behind l byte) burst

abbrev pub leaves : List ℕ → Left
leaves burst = leaves_from (waiting []) burst

-- Bytes that some burst leaves: they are such a burst themselves.
pub record LeftExactly : Type 0 where
  pub held : (s : List ℕ) → is_held s ≡ true → leaves s ≡ waiting s
  pub dropped : leaves (0x00 ∷ 0xFF ∷ 0xFF ∷ []) ≡ dropping
  pub left : (burst s : List ℕ) → leaves burst ≡ waiting s → is_held s ≡ true

-- What a holding is of: the bytes that it has at the front of the buffer.
abbrev pub held_in : Holding → List ℕ → Left
held_in (Held n) buffer = waiting (take n buffer)
held_in Dropping buffer = dropping

-- 02, Wish 6: "a holding that some burst leaves": its buffer is one of 1,024 bytes, and what it has of the buffer is what the burst leaves.
pub record LeftBySome (h : Holding) (buffer : List ℕ) : Type 0 where
  pub full : length buffer ≡ 1024
  pub burst : List ℕ
  pub left : leaves burst ≡ held_in h buffer

abbrev pub HoldingExactly : Type 0
HoldingExactly = (h : Holding) (buffer : List ℕ) → (is_holding h buffer ≡ true) ↔ LeftBySome h buffer

-- 02, Wish 6: "silence always empties it".
abbrev pub SilenceEmpties : Type 0
SilenceEmpties = (h : Holding) (buffer : List ℕ) → held_in (silenced h) buffer ≡ waiting []

-- What is held behind a byte is what the burst leaves that goes on with it, and is a holding again.
abbrev pub number_of : Left → ℕ → ℕ
number_of (waiting s) byte = number (received (s ++ (byte ∷ [])))
number_of dropping byte = 3

pub record Follows (h : Holding) (buffer : List ℕ) (byte n : ℕ) : Type 0 where
  pub holds : is_holding (holding_behind h n) (buffer_behind h buffer byte n) ≡ true
  pub as_left : held_in (holding_behind h n) (buffer_behind h buffer byte n) ≡ left_behind (held_in h buffer) byte

abbrev pub HoldingFollows : Type 0
HoldingFollows =
    (h : Holding) (buffer : List ℕ) (byte : ℕ) → is_holding h buffer ≡ true → Follows h buffer byte (number_of (held_in h buffer) byte)

-- ---- One at a time, and together.
-- What becomes whole with a byte is all that was held and that byte, and is sorted the same whatever stands behind it.
pub record Completes (s rest : List ℕ) : Type 0 where
  pub all : consumed (received s) ≡ length s
  pub same : received (s ++ rest) ≡ received s

abbrev pub ByteCompletes : Type 0
ByteCompletes =
    (s : List ℕ) (byte : ℕ) (rest : List ℕ) →
    is_held s ≡ true →
    (number (received (s ++ (byte ∷ []))) ≡ 3 → ⊥) →
    (number (received (s ++ (byte ∷ []))) ≡ 4 → ⊥) →
    Completes (s ++ (byte ∷ [])) rest

-- 4 is 4 whatever stands behind it, and takes all of it.
abbrev pub FourStays : Type 0
FourStays = (s rest : List ℕ) → number (received s) ≡ 4 → received (s ++ rest) ≡ Refused TooLong (length (s ++ rest))
