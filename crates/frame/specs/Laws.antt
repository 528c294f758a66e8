-- What document 01 promises of frames and updates as a whole, as statements over the rules: what is built is read back, what is consumed is
-- whole, and an update's text is all between its marks.
use Rattle.std.specs.Prelude.{ℕ, ◌+◌, ◌≤◌, true, false, Ok, List, ◌∷◌, ◌++◌, ◌≡◌, length, take, drop}
use Rattle.frame.specs.Ground.{pick, has}
use Rattle.frame.specs.Wire.{enquiry, update_opens, head_size, around, longest_data, size_of, listed, fits}
use Rattle.frame.specs.Receive.{received, number, consumed}
use Rattle.frame.specs.Build.{frame, Wraps, Answers, Builds}
use Rattle.frame.specs.declared.receive.Received.{Received}
use Rattle.frame.specs.declared.receive.Received.TheVariants.{Partial, Refused, Misfit, Enquiry, Update, Frame}
use Rattle.frame.specs.declared.given.Refusal.TheVariants.{WrongLength}

-- What the box hears of a frame: its identifier and its data.
pub data Heard : Type 0 where
  nothing : Heard
  heard : ℕ → List ℕ → Heard

abbrev pub heard_in : List ℕ → Received → Heard
heard_in s Partial = nothing
heard_in s (Refused k c) = nothing
heard_in s (Misfit k i n c) = heard i (take n (drop head_size s))
heard_in s Enquiry = nothing
heard_in s (Update n c) = nothing
heard_in s (Frame i n c) = heard i (take n (drop head_size s))

-- 01, Other calls: "Identifier and data are read back also where 7 to 13 then follow."
pub record ReadsBack (s : List ℕ) (identifier : ℕ) (d : List ℕ) : Type 0 where
  pub answer :
      received s ≡
      pick (fits (size_of identifier) (length d)) (Frame identifier (length d) (length d + around)) (Misfit WrongLength identifier (length d) (length d + around))
  pub gives : number (received s) ≡ pick (fits (size_of identifier) (length d)) 0 7
  pub hears : heard_in s (received s) ≡ heard identifier d

-- A frame with an identifier of the table, whatever stands behind it.
abbrev pub ReadBack : Type 0
ReadBack =
    (identifier : ℕ) (d rest : List ℕ) → listed (size_of identifier) ≡ true → length d ≤ longest_data
    → ReadsBack (frame identifier d ++ rest) identifier d

-- The bytes that `build` says it wrote.
abbrev pub BuiltReadBack : Type 0
BuiltReadBack =
    (before : List ℕ) (identifier : ℕ) (d : List ℕ) (n : ℕ) (after rest : List ℕ)
    → Builds before identifier d (Ok n) after → ReadsBack (take n after ++ rest) identifier d

-- The bytes that `answer` says it wrote, also with an identifier that stands only in answers.
abbrev pub AnswerReadBack : Type 0
AnswerReadBack =
    (before : List ℕ) (identifier : ℕ) (d : List ℕ) (n : ℕ) (after rest : List ℕ)
    → (identifier ≡ enquiry → ⊥) → (identifier ≡ update_opens → ⊥)
    → Answers before identifier d (Ok n) after → heard_in (take n after ++ rest) (received (take n after ++ rest)) ≡ heard identifier d

-- The bytes that `wrap` says it wrote, around data that stood in the buffer.
abbrev pub WrapReadBack : Type 0
WrapReadBack =
    (before : List ℕ) (identifier n m : ℕ) (after rest : List ℕ)
    → (identifier ≡ enquiry → ⊥) → (identifier ≡ update_opens → ⊥)
    → Wraps before identifier n (Ok m) after → heard_in (take m after ++ rest) (received (take m after ++ rest)) ≡ heard identifier (take n (drop head_size before))

-- 01, Numbers: consumed is "the frame, update or 05h". It is received the same whatever stands behind it, and what stands behind it is left as it came.
pub record Whole (s : List ℕ) (r : Received) : Type 0 where
  pub inside : consumed r ≤ length s
  pub same : (rest : List ℕ) → received (take (consumed r) s ++ rest) ≡ r
  pub behind : (rest : List ℕ) → drop (consumed r) (take (consumed r) s ++ rest) ≡ rest

abbrev pub ConsumedWhole : Type 0
ConsumedWhole = (s : List ℕ) → (number (received s) ≡ 3 → ⊥) → (number (received s) ≡ 4 → ⊥) → Whole s (received s)

abbrev pub FrameWhole : Type 0
FrameWhole = (s : List ℕ) (i n c : ℕ) → received s ≡ Frame i n c → (c ≡ n + around) × Whole s (Frame i n c)

abbrev pub ConsumedInside : Type 0
ConsumedInside = (s : List ℕ) → consumed (received s) ≤ length s

-- 01, On the wire: "An 02h there opens a field update: up to 1,022 characters, then 03h". All bytes between the two are its text, whatever
-- they are, and whatever stands behind it.
abbrev pub UpdateHeard : Type 0
UpdateHeard =
    (text rest : List ℕ) → length text ≤ 1022 → has 0x03 text ≡ false →
    received (0x02 ∷ text ++ (0x03 ∷ rest)) ≡ Update (length text) (length text + 2)
