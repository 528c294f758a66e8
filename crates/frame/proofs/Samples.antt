-- One list of samples of what is received and one of what is built, each with the answer that document 01 gives: every number of the
-- receiver and of the builder, also where several apply. The rules compute every one.
use Prim.Native.Nat.{ℕ}
use mathlib.Core.List.{List, [], ◌∷◌, ◌++◌, map}
use mathlib.Core.Path.{◌≡◌, refl}
use lib.ListN.{replicate}
use Rattle.frame.specs.Ground.{plain}
use Rattle.frame.specs.Wire.{size_of}
use Rattle.frame.specs.Receive.{received, updated, framed, judged}
use Rattle.frame.specs.Build.{Built, frame, built}
use Rattle.frame.specs.declared.receive.Received.{Received}
use Rattle.frame.specs.declared.given.Refusal.TheVariants.{TooLong, WrongCheck, UnknownIdentifier, WrongLength}
use Rattle.frame.specs.declared.receive.Received.TheVariants.{Partial, Refused, Misfit, Enquiry, Update, Frame}
use Rattle.std.proofs.Common.{Ok, Err}

pub record Sample : Type 0 where
  pub bytes : List ℕ
  pub answer : Received

abbrev sample : List ℕ → Received → Sample
sample bytes answer = record { bytes = bytes; answer = answer }

-- 01, Samples: frame A, but for its check byte.
abbrev frame_a : ℕ → List ℕ
frame_a check =
    0x0A ∷ 0x00 ∷ 0x13 ∷ 0x01 ∷ 0x0A ∷ 0x02 ∷ 0x38
    ∷ 0x49 ∷ 0x4D ∷ 0x41 ∷ 0x4A ∷ 0x45 ∷ 0x20
    ∷ 0x01 ∷ 0x54
    ∷ 0x46 ∷ 0x52 ∷ 0x41 ∷ 0x4E ∷ 0x43 ∷ 0x45
    ∷ 0x0D ∷ check ∷ []

-- An 02h and so many characters behind it.
abbrev opened : ℕ → List ℕ
opened n = 0x02 ∷ replicate n 0x41

abbrev samples : List Sample
samples =
    sample (frame_a 0x07) (Frame 0x0A 19 23)
    ∷ sample (frame_a 0x06) (Refused WrongCheck 23)
    ∷ sample [] Partial
    ∷ sample (0x05 ∷ []) Enquiry
    ∷ sample (0x02 ∷ 0x41 ∷ 0x42 ∷ 0x03 ∷ []) (Update 2 4)
    ∷ sample (opened 1022 ++ 0x03 ∷ []) (Update 1022 1024)
    ∷ sample (opened 1022) Partial
    ∷ sample (opened 1023) (Refused TooLong 1024)
    ∷ sample (opened 1023 ++ 0x03 ∷ []) (Refused TooLong 1025)
    ∷ sample (0x0A ∷ 0x02 ∷ 0x27 ∷ []) (Refused TooLong 3)
    ∷ sample (0x0A ∷ 0x02 ∷ 0x26 ∷ []) Partial
    ∷ sample (0x94 ∷ 0x00 ∷ 0x00 ∷ 0x94 ∷ []) (Frame 0x94 0 4)
    ∷ sample (0x94 ∷ 0x00 ∷ 0x01 ∷ 0x00 ∷ 0x95 ∷ []) (Misfit WrongLength 0x94 1 5)
    ∷ sample (0x99 ∷ 0x00 ∷ 0x00 ∷ 0x99 ∷ []) (Misfit UnknownIdentifier 0x99 0 4)
    ∷ sample (0x9C ∷ 0x00 ∷ 0x00 ∷ 0x9C ∷ []) (Misfit UnknownIdentifier 0x9C 0 4)
    ∷ sample (0x99 ∷ 0x00 ∷ 0x00 ∷ 0x98 ∷ []) (Refused WrongCheck 4)
    ∷ sample (0x94 ∷ 0x00 ∷ 0x01 ∷ 0x00 ∷ 0x94 ∷ []) (Refused WrongCheck 5)
    -- 02, Wish 1: 1Ch has "39 or more in all", 40h "two bytes".
    ∷ sample (0x1C ∷ 0x00 ∷ 0x26 ∷ replicate 38 0x00 ++ 0x3A ∷ []) (Misfit WrongLength 0x1C 38 42)
    ∷ sample (0x1C ∷ 0x00 ∷ 0x27 ∷ replicate 39 0x00 ++ 0x3B ∷ []) (Frame 0x1C 39 43)
    ∷ sample (0x1C ∷ 0x00 ∷ 0x28 ∷ replicate 40 0x00 ++ 0x34 ∷ []) (Frame 0x1C 40 44)
    ∷ sample (0x40 ∷ 0x00 ∷ 0x01 ∷ 0x01 ∷ 0x40 ∷ []) (Misfit WrongLength 0x40 1 5)
    ∷ sample (0x40 ∷ 0x00 ∷ 0x02 ∷ 0x01 ∷ 0x05 ∷ 0x46 ∷ []) (Frame 0x40 2 6)
    ∷ sample (0x40 ∷ 0x00 ∷ 0x03 ∷ 0x01 ∷ 0x05 ∷ 0x00 ∷ 0x47 ∷ []) (Misfit WrongLength 0x40 3 7)
    ∷ []

pub samples_hold : map (λ (s : Sample). received s.bytes) samples ≡ map (λ (s : Sample). s.answer) samples
unfolding received updated framed judged size_of
samples_hold = refl

-- 01, Other calls: "2 if the buffer is under data + 4, 4 if data is over 550, 6 if the identifier is not in the table".
pub record Sent : Type 0 where
  pub room : ℕ
  pub identifier : ℕ
  pub size : ℕ
  pub answer : Built

abbrev sent : ℕ → ℕ → ℕ → Built → Sent
sent room identifier size answer = record { room = room; identifier = identifier; size = size; answer = answer }

abbrev sendings : List Sent
sendings =
    sent 4 0x94 0 (Ok 4)
    ∷ sent 554 0x0A 550 (Ok 554)
    ∷ sent 6144 0x42 5 (Ok 9)
    ∷ sent 554 0x1C 550 (Ok 554)
    ∷ sent 6 0x40 2 (Ok 6)
    ∷ sent 3 0x94 0 (Err (plain 2))
    ∷ sent 553 0x0A 550 (Err (plain 2))
    ∷ sent 555 0x0A 551 (Err (plain 4))
    ∷ sent 4 0x9C 0 (Err (plain 6))
    ∷ sent 554 0x0A 551 (Err (plain 2))
    ∷ sent 3 0x9C 0 (Err (plain 2))
    ∷ sent 555 0x9C 551 (Err (plain 4))
    ∷ []

pub sendings_hold : map (λ (s : Sent). built s.room s.identifier s.size) sendings ≡ map (λ (s : Sent). s.answer) sendings
unfolding built size_of
sendings_hold = refl

-- 01, Samples, P3: the bytes of 42h with jet 1, address 5 and the symbols "IT".
pub frame_holds : frame 0x42 (0x01 ∷ 0x00 ∷ 0x05 ∷ 0x49 ∷ 0x54 ∷ []) ≡ 0x42 ∷ 0x00 ∷ 0x05 ∷ 0x01 ∷ 0x00 ∷ 0x05 ∷ 0x49 ∷ 0x54 ∷ 0x5E ∷ []
unfolding frame
frame_holds = refl
