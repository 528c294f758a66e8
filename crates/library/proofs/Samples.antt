-- Samples of the rules, computed: what is a store and what is not, what is read, what storing writes, and the last byte that has room.
use Prim.Native.Nat.{ℕ, ◌-◌}
use mathlib.Core.Bool.{true, false}
use mathlib.Core.List.{List, [], ◌∷◌, ◌++◌, map}
use mathlib.Core.Path.{◌≡◌, refl}
use lib.ListN.{length, replicate, take}
use Rattle.library.specs.Record.{Record, begins, records, rest}
use Rattle.library.specs.Store.{has_room, is_store, store_bytes, store_size, stored}

-- Bytes with 00h behind them up to a store's size.
abbrev filled : List ℕ → List ℕ
filled s = s ++ replicate (store_size - length s) 0x00

abbrev message : ℕ → ℕ → Record
message n b = record { number = n; body = b ∷ [] }

-- One record, of number 5 and body 41h 42h 43h.
bytes_sample :
    take 9 (store_bytes (record { number = 5; body = 0x41 ∷ 0x42 ∷ 0x43 ∷ [] } ∷ []))
    ≡ 0x4C ∷ 0x52 ∷ 0x05 ∷ 0x00 ∷ 0x03 ∷ 0x41 ∷ 0x42 ∷ 0x43 ∷ 0x00 ∷ []
bytes_sample = refl

-- Stores: no record, one of number 79, two numbers, a body that fills the store.
stores_sample :
    map is_store (
    filled []
    ∷ filled (0x4C ∷ 0x52 ∷ 79 ∷ 0x00 ∷ 0x03 ∷ 0x41 ∷ 0x42 ∷ 0x43 ∷ [])
    ∷ filled (0x4C ∷ 0x52 ∷ 0x05 ∷ 0x00 ∷ 0x01 ∷ 0x41 ∷ 0x4C ∷ 0x52 ∷ 0x06 ∷ 0x00 ∷ 0x00 ∷ [])
    ∷ filled (0x4C ∷ 0x52 ∷ 0x05 ∷ 0x1F ∷ 0xFB ∷ [])
    ∷ [])
    ≡ true ∷ true ∷ true ∷ true ∷ []
unfolding is_store records rest begins
stores_sample = refl

-- No stores: the mark's second byte is wrong; a length runs past the end by a byte; number 0; number 80; a number twice; a byte behind
-- the last that is not 00h; a record behind a 00h; a byte too few.
others_sample :
    map is_store (
    filled (0x4C ∷ 0x53 ∷ 0x05 ∷ 0x00 ∷ 0x01 ∷ 0x41 ∷ [])
    ∷ filled (0x4C ∷ 0x52 ∷ 0x05 ∷ 0x1F ∷ 0xFC ∷ [])
    ∷ filled (0x4C ∷ 0x52 ∷ 0x00 ∷ 0x00 ∷ 0x01 ∷ 0x41 ∷ [])
    ∷ filled (0x4C ∷ 0x52 ∷ 80 ∷ 0x00 ∷ 0x01 ∷ 0x41 ∷ [])
    ∷ filled (0x4C ∷ 0x52 ∷ 0x05 ∷ 0x00 ∷ 0x01 ∷ 0x41 ∷ 0x4C ∷ 0x52 ∷ 0x05 ∷ 0x00 ∷ 0x01 ∷ 0x41 ∷ [])
    ∷ filled (0x4C ∷ 0x52 ∷ 0x05 ∷ 0x00 ∷ 0x01 ∷ 0x41 ∷ 0x00 ∷ 0x01 ∷ [])
    ∷ filled (0x4C ∷ 0x52 ∷ 0x05 ∷ 0x00 ∷ 0x01 ∷ 0x41 ∷ 0x00 ∷ 0x4C ∷ 0x52 ∷ 0x06 ∷ 0x00 ∷ 0x01 ∷ 0x42 ∷ [])
    ∷ take 8191 (filled [])
    ∷ [])
    ≡ false ∷ false ∷ false ∷ false ∷ false ∷ false ∷ false ∷ false ∷ []
unfolding is_store records rest begins
others_sample = refl

-- Reading stops at the 00h behind the first record.
reading_sample :
    records (0x4C ∷ 0x52 ∷ 0x05 ∷ 0x00 ∷ 0x01 ∷ 0x41 ∷ 0x00 ∷ 0x4C ∷ 0x52 ∷ 0x06 ∷ 0x00 ∷ 0x01 ∷ 0x42 ∷ []) ≡ message 5 0x41 ∷ []
unfolding records begins
reading_sample = refl

-- A number that is stored again is the last, and the gap that it left is closed.
storing_sample :
    take 13 (stored 5 (0x43 ∷ []) (store_bytes (message 5 0x41 ∷ message 6 0x42 ∷ [])))
    ≡ 0x4C ∷ 0x52 ∷ 0x06 ∷ 0x00 ∷ 0x01 ∷ 0x42 ∷ 0x4C ∷ 0x52 ∷ 0x05 ∷ 0x00 ∷ 0x01 ∷ 0x43 ∷ 0x00 ∷ []
unfolding stored records begins
storing_sample = refl

-- A body of 8,187 bytes fills the store, also where a record of its number is there; one byte more has no room.
room_sample :
    map (λ (n : ℕ). has_room 5 (replicate n 0x41) (store_bytes (message 5 0x42 ∷ []))) (8187 ∷ 8188 ∷ []) ≡ true ∷ false ∷ []
unfolding has_room records begins
room_sample = refl
