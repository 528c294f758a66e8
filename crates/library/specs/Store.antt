-- The store: what makes bytes a well-formed one, what it holds of a number, and what storing makes of it.
use Rattle.std.specs.Prelude.{ℕ, ◌+◌, ◌-◌, Bool, true, false, not, List, [], ◌∷◌, ◌++◌, ◌≡◌, eqb, leb, length, take, replicate}
use Rattle.frame.specs.Ground.{pick, both, within, has, Test, test, all, given}
use Rattle.frame.specs.declared.given.Given.{Given}
use Rattle.library.specs.Record.{Record, head_size, record_bytes, written, records, rest}

-- 02, Wish 1: "Records live in a lent store of 8,192 bytes".
abbrev pub store_size : ℕ
store_size = 8192

-- 02, Wish 1: "number 1 to 79".
abbrev pub is_number : ℕ → Bool
is_number n = within 1 79 n

-- 02, Wish 1: "numbers 1 to 79, none twice": each is none of those before it.
abbrev pub fit_behind : List ℕ → List Record → Bool
fit_behind before [] = true
fit_behind before (r ∷ rs) =
    both (is_number r.number) (both (not (has r.number before)) (fit_behind (r.number ∷ before) rs))

abbrev pub fit : List Record → Bool
fit rs = fit_behind [] rs

-- 02, Wish 1: "every byte behind the last 00h".
abbrev pub blank : List ℕ → Bool
blank [] = true
blank (b ∷ s) = both (eqb b 0x00) (blank s)

-- 02, Wish 1: "A well-formed store is 8,192 bytes and has them one behind the other from the start, numbers 1 to 79, none twice, [..]
-- every byte behind the last 00h." Whether bodies are good is not asked here.
unfoldable pub is_store : List ℕ → Bool
is_store s = both (eqb (length s) store_size) (both (fit (records s)) (blank (rest s)))

-- Whether there is a record of a number, and its body.
abbrev pub held : ℕ → List Record → Bool
held n [] = false
held n (r ∷ rs) = pick (eqb r.number n) true (held n rs)

abbrev pub body_of : ℕ → List Record → List ℕ
body_of n [] = []
body_of n (r ∷ rs) = pick (eqb r.number n) r.body (body_of n rs)

-- 02, Wish 1: "Storing takes out any record of that number, closes the gap, puts the new one last and leaves the store well formed".
abbrev pub without : ℕ → List Record → List Record
without n [] = []
without n (r ∷ rs) = pick (eqb r.number n) (without n rs) (r ∷ without n rs)

abbrev pub kept : ℕ → List ℕ → List Record → List Record
kept n body rs = without n rs ++ (record { number = n; body = body } ∷ [])

-- The bytes of a store that holds these records.
abbrev pub store_bytes : List Record → List ℕ
store_bytes rs = written rs ++ replicate (store_size - length (written rs)) 0x00

unfoldable pub stored : ℕ → List ℕ → List ℕ → List ℕ
stored n body s = store_bytes (kept n body (records s))

-- 02, Wish 1: "refused exactly when the records then kept, marks included, would exceed 8,192 bytes". Refusals: "16 no room".
unfoldable pub has_room : ℕ → List ℕ → List ℕ → Bool
has_room n body s = leb (length (written (kept n body (records s)))) store_size

-- The contract of `keep`: bytes of another size are no store, 1; then 16; and what is refused leaves every byte as it was.
abbrev pub keep_tests : ℕ → List ℕ → List ℕ → List Test
keep_tests n body s = test (eqb (length s) store_size) 1 ∷ test (has_room n body s) 16 ∷ []

pub record Keeps (s : List ℕ) (n : ℕ) (body : List ℕ) (r : Given) (s' : List ℕ) : Type 0 where
  pub gives : r ≡ given (keep_tests n body s)
  pub store : s' ≡ pick (all (keep_tests n body s)) (stored n body s) s

-- What `close` and `put_last` make of a store on the way: the other records lie at the front, with whatever bytes behind them; then the
-- new one is the last, and 00h stands behind it.
pub record Closes (s : List ℕ) (n : ℕ) (s' : List ℕ) : Type 0 where
  pub size : length s' ≡ length s
  pub others : take (length (written (without n (records s)))) s' ≡ written (without n (records s))

pub record PutsLast (s : List ℕ) (at n : ℕ) (body s' : List ℕ) : Type 0 where
  pub bytes :
      s' ≡
      take at s
      ++ (record_bytes (record { number = n; body = body }) ++ replicate (store_size - (at + (head_size + length body))) 0x00)
