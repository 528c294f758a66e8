-- The samples of document 01 that are marked P, in one list: what is fed in, and what must come out.
use Rattle.std.specs.Prelude.{ℕ, List, [], ◌∷◌, ◌++◌, replicate}
use Rattle.frame.specs.Ground.{placed, plain}
use Rattle.frame.specs.Build.{frame}
use Rattle.frame.specs.declared.given.Given.{Given}
use Rattle.content.specs.Content.{tested}
use Rattle.printer.specs.Jet.{message}
use Rattle.printer.specs.State.{jet_at, printer_of, bytes_of}
use Rattle.printer.specs.Receive.{Outcome, given_by, outcome, kept, answer_size, strips_size}
use Rattle.printer.specs.Call.{first_printer}

-- Frames sent to a fresh type 1, what is given of the last one and the message that jet 1 then holds; or a content and what the test gives.
pub data Sample : Type 0 where
  sent : List (List ℕ) → Given → List ℕ → Sample
  tried : List ℕ → Given → Sample

-- What a state makes of one frame, with an empty store and buffers of the stated size.
abbrev pub receives : List ℕ → List ℕ → Outcome
receives m s =
    outcome m (record { bytes = s; store = replicate 8192 0x00; answer_room = answer_size; strip_room = strips_size })

-- What is given last, and the message of jet 1, when frames are sent one after the other.
abbrev pub sending : Given → List ℕ → List (List ℕ) → (Given × List ℕ)
sending g m [] = (g, message (jet_at (printer_of m) 1))
sending g m (s ∷ rest) = sending (given_by (receives m s)) (kept (receives m s) m) rest

-- What the rules themselves make of what a sample feeds in.
abbrev pub come_out : Sample → Sample
come_out (sent frames n m) = sent frames (sending (plain 0) (bytes_of first_printer) frames).0 (sending (plain 0) (bytes_of first_printer) frames).1
come_out (tried s n) = tried s (tested s)

-- Document 002's example: its content of 18 bytes, and frame A with a check byte.
abbrev pub imaje : List ℕ
imaje =
    0x0A ∷ 0x02 ∷ 0x38 ∷ 0x49 ∷ 0x4D ∷ 0x41 ∷ 0x4A ∷ 0x45 ∷ 0x20 ∷ 0x01 ∷ 0x54 ∷ 0x46 ∷ 0x52 ∷ 0x41 ∷ 0x4E ∷ 0x43 ∷ 0x45 ∷ 0x0D ∷ []

abbrev pub frame_a : ℕ → List ℕ
frame_a check = (0x0A ∷ 0x00 ∷ 0x13 ∷ 0x01 ∷ imaje) ++ (check ∷ [])

-- 42h on jet 1 with letters from an address below 256 on.
abbrev pub edit : ℕ → List ℕ → List ℕ
edit address letters = frame 0x42 (0x01 ∷ 0x00 ∷ address ∷ letters)

abbrev pub samples : List Sample
samples =
    -- P1 and P2: frame A, and the same with check 06.
    sent (frame_a 0x07 ∷ []) (plain 0) imaje
    ∷ sent (frame_a 0x06 ∷ []) (plain 5) []
    -- P3: the text becomes "IMITE ".
    ∷ sent
    (frame_a 0x07 ∷ (0x42 ∷ 0x00 ∷ 0x05 ∷ 0x01 ∷ 0x00 ∷ 0x05 ∷ 0x49 ∷ 0x54 ∷ 0x5E ∷ []) ∷ [])
    (plain 0)
    (0x0A ∷ 0x02 ∷ 0x38 ∷ 0x49 ∷ 0x4D ∷ 0x49 ∷ 0x54 ∷ 0x45 ∷ 0x20 ∷ 0x01 ∷ 0x54 ∷ 0x46 ∷ 0x52 ∷ 0x41 ∷ 0x4E ∷ 0x43 ∷ 0x45 ∷ 0x0D ∷ [])
    -- P4 to P7: an expansion, a font, the last letter, the end mark.
    ∷ sent (frame_a 0x07 ∷ edit 8 (0x41 ∷ 0x42 ∷ []) ∷ []) (placed 12 9) imaje
    ∷ sent (frame_a 0x07 ∷ edit 10 (0x41 ∷ []) ∷ []) (placed 12 10) imaje
    ∷ sent (frame_a 0x07 ∷ edit 16 (0x53 ∷ []) ∷ []) (plain 0)
    (0x0A ∷ 0x02 ∷ 0x38 ∷ 0x49 ∷ 0x4D ∷ 0x41 ∷ 0x4A ∷ 0x45 ∷ 0x20 ∷ 0x01 ∷ 0x54 ∷ 0x46 ∷ 0x52 ∷ 0x41 ∷ 0x4E ∷ 0x43 ∷ 0x53 ∷ 0x0D ∷ [])
    ∷ sent (frame_a 0x07 ∷ edit 17 (0x41 ∷ []) ∷ []) (placed 12 17) imaje
    -- P8 to P12.
    ∷ tried (0x0A ∷ 0x01 ∷ 0x01 ∷ 0x0D ∷ []) (plain 0)
    ∷ tried (0x0A ∷ 0x0D ∷ []) (placed 10 1)
    ∷ tried (0x0D ∷ []) (placed 10 0)
    ∷ tried (0x0A ∷ 0x01 ∷ 0x01 ∷ 0x1E ∷ 0x0D ∷ 0x1E ∷ 0x0D ∷ []) (plain 0)
    ∷ tried (0x0A ∷ 0x01 ∷ 0x01 ∷ 0x1E ∷ 0x00 ∷ 0x1E ∷ 0x0D ∷ []) (placed 10 4)
    ∷ []
