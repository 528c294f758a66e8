-- What is true of stores: a well-formed one is its records written one behind the other, with 00h behind the last, and it can be read in
-- no other way; storing puts the new record last, leaves all others byte for byte, and leaves the store well formed.
use Rattle.std.specs.Prelude.{ℕ, ◌-◌, ◌<◌, ◌≤◌, true, List, [], ◌++◌, ◌≡◌, length, get_or, replicate}
use Rattle.frame.specs.Ground.{plain, within}
use Rattle.frame.specs.declared.given.Given.{Given}
use Rattle.library.specs.Record.{Record, written, records}
use Rattle.library.specs.Store.{Keeps, is_number, is_store, held, body_of, kept, stored, has_room}

-- Lists of bytes are lists of numbers here; each is a byte.
abbrev pub AllBytes : List ℕ → Type 0
AllBytes s = (i : ℕ) → get_or s i 0 < 256

-- The number of the record at a place of a row.
abbrev pub number_at : List Record → ℕ → ℕ
number_at rs i = (get_or rs i (record { number = 0; body = [] })).number

-- 02, Wish 1: "A well-formed store is 8,192 bytes and has them one behind the other from the start, numbers 1 to 79, none twice, [..]
-- every byte behind the last 00h."
pub record Formed (s : List ℕ) (rs : List Record) : Type 0 where
  pub size : length s ≡ 8192
  pub laid : s ≡ written rs ++ replicate (8192 - length (written rs)) 0x00
  pub numbers : (i : ℕ) → i < length rs → within 1 79 (number_at rs i) ≡ true
  pub none_twice : (i j : ℕ) → i < j → j < length rs → number_at rs i ≡ number_at rs j → ⊥

-- Bytes that the rule calls a store are one in these words, with the records that the rule reads; and what is one in these words, with
-- whatever records, the rule calls a store, and reads just those records.
abbrev pub StoreFormed : Type 0
StoreFormed = (s : List ℕ) → AllBytes s → is_store s ≡ true → Formed s (records s)

abbrev pub FormedStore : Type 0
FormedStore = (s : List ℕ) (rs : List Record) → Formed s rs → (is_store s ≡ true) × (records s ≡ rs)

-- Storing: the records behind it are the others in their order and the new one last, and the store is well formed.
pub record Stores (s : List ℕ) (n : ℕ) (body : List ℕ) (s' : List ℕ) : Type 0 where
  pub formed : is_store s' ≡ true
  pub order : records s' ≡ kept n body (records s)
  pub found : (held n (records s') ≡ true) × (body_of n (records s') ≡ body)
  pub others :
      (k : ℕ) → (k ≡ n → ⊥) →
      (held k (records s') ≡ held k (records s)) × (body_of k (records s') ≡ body_of k (records s))

abbrev pub StoringStores : Type 0
StoringStores =
    (s : List ℕ) (n : ℕ) (body : List ℕ) →
    is_store s ≡ true → is_number n ≡ true → has_room n body s ≡ true → Stores s n body (stored n body s)

-- 02, Wish 1: "it is refused exactly when the records then kept, marks included, would exceed 8,192 bytes". So `keep` stores where there is
-- room, and else gives 16 and leaves every byte as it was.
abbrev pub KeepStores : Type 0
KeepStores =
    (s : List ℕ) (n : ℕ) (body : List ℕ) (r : Given) (s' : List ℕ) →
    Keeps s n body r s' → is_store s ≡ true → is_number n ≡ true →
    (length (written (kept n body (records s))) ≤ 8192 → (r ≡ plain 0) × Stores s n body s')
    × (8192 < length (written (kept n body (records s))) → (r ≡ plain 16) × (s' ≡ s))

-- A store without records is 8,192 times 00h.
abbrev pub BlankStore : Type 0
BlankStore = (is_store (replicate 8192 0x00) ≡ true) × (records (replicate 8192 0x00) ≡ [])
