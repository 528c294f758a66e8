-- The console's line for a call.
use Rattle.std.specs.Prelude.{ℕ, zero, suc, ◌+◌, ◌/◌, ◌%◌, ◌≤◌, Option, None, Some, List, [], ◌∷◌, ◌++◌, ◌≡◌, ltb, length}
use Rattle.frame.specs.Ground.{pick, over}
use Rattle.frame.specs.declared.given.Given.{Given}

abbrev pub space : ℕ
space = 0x20

abbrev pub newline : ℕ
newline = 0x0A

abbrev pub colon : ℕ
colon = 0x3A

-- A number in decimal, without leading zeros: one digit, or the digits of the number divided by 10 and the last digit. It is divided as often
-- as there are steps, at most.
unfoldable pub decimal_in : ℕ → ℕ → List ℕ
decimal_in zero n = (n + 0x30) ∷ []
decimal_in (suc steps) n = pick (ltb n 10) ((n + 0x30) ∷ []) (decimal_in steps (n / 10) ++ ((n % 10 + 0x30) ∷ []))

-- n steps are enough for n.
unfoldable pub decimal : ℕ → List ℕ
decimal n = decimal_in n n

-- 02, Wish 4: "the console prints it after the number and a colon".
abbrev pub place_text : Option ℕ → List ℕ
place_text None = []
place_text (Some i) = colon ∷ decimal i

abbrev pub given_text : Given → List ℕ
given_text g = decimal g.number ++ place_text g.place

-- A number below 16 as a digit: 0 to 9, then A to F.
unfoldable pub hex_digit : ℕ → ℕ
hex_digit n = pick (ltb n 10) (n + 0x30) (n + 0x37)

abbrev pub hex : List ℕ → List ℕ
hex [] = []
hex (b ∷ s) = hex_digit (b / 16) ∷ hex_digit (b % 16) ∷ hex s

-- 01, Samples, the last paragraph: the console "prints one line a call: number, space, answer in capital hex without gaps".
abbrev pub line : Given → List ℕ → List ℕ
line g answer = ((given_text g ++ (space ∷ [])) ++ hex answer) ++ (newline ∷ [])

-- The answer for a buffer with so much room: the line's length, or none where the buffer is too small.
unfoldable pub lined : ℕ → Given → List ℕ → Option ℕ
lined room g answer = pick (ltb room (length (line g answer))) None (Some (length (line g answer)))

-- The bytes that an answer says are written.
abbrev pub bytes_of : Option ℕ → Given → List ℕ → List ℕ
bytes_of None g answer = []
bytes_of (Some n) g answer = line g answer

-- The length that an answer gives back.
abbrev pub line_length : Option ℕ → ℕ
line_length None = 0
line_length (Some n) = n

-- The number has three digits at most, a colon stands behind it, and a place of the machine's size has twenty.
abbrev pub longest_given : ℕ
longest_given = 24

-- The contract of `write_line`: the rule's answer, and over the buffer's front just the line it tells of. What is given is never longer, so
-- that its caller knows how large a buffer is always enough.
pub record Writes (before : List ℕ) (g : Given) (answer : List ℕ) (r : Option ℕ) (after : List ℕ) : Type 0 where
  pub answered : r ≡ lined (length before) g answer
  pub buffer : after ≡ over (bytes_of r g answer) before
  pub short : length (given_text g) ≤ longest_given
