-- The laws of stores. A well-formed one is its records, written, with zeros behind; records that were written with zeros behind are read
-- back; so what storing writes is read back as the others and the new one.
use Prim.Native.Nat.{ℕ, ◌-◌, ◌≤◌}
use mathlib.Core.List.{List, [], ◌++◌}
use mathlib.Core.Bool.{true, false}
use mathlib.Core.Path.{◌≡◌, refl, sym, ◌∙◌, ap, subst}
use native.Mathlib.Omega.{arith}
use borrow.Author.Tests.{eq-eqb, eqb-true, le-leb, leb-true, lt-leb}
use lib.Dec.{eqb}
use lib.ListN.{length, replicate, length-append, length-replicate}
use Rattle.frame.specs.Ground.{plain}
use Rattle.frame.specs.declared.given.Given.{Given}
use Rattle.frame.proofs.Ground.{both_true, true_both}
use Rattle.library.specs.Record.{Record, records, rest, written}
use Rattle.library.specs.Store.{Keeps, blank, body_of, fit, has_room, held, is_store, kept, store_bytes, store_size, stored}
use Rattle.library.specs.StoreLaws.{BlankStore, FormedStore, KeepStores, StoreFormed, Stores, StoringStores}
use Rattle.library.proofs.Records.{read_back, rewritten, zeros_end}
use Rattle.library.proofs.Stores.{blank_zeros, each_fit, fit_each, fit_kept, fit_once, kept_here, kept_others, zeros_blank}

-- The three tests.
pub record Sound (s : List ℕ) : Type 0 where
  pub size : length s ≡ store_size
  pub numbers : fit (records s) ≡ true
  pub zeros : blank (rest s) ≡ true

pub store_tells : (s : List ℕ) → is_store s ≡ true → Sound s
unfolding is_store
store_tells s e =
    let h = both_true (eqb (length s) store_size) _ e in
    let k = both_true (fit (records s)) (blank (rest s)) h.1 in
    record { size = eqb-true (length s) store_size h.0; numbers = k.0; zeros = k.1 }

pub tells_store : (s : List ℕ) → Sound s → is_store s ≡ true
unfolding is_store
tells_store s p =
    true_both _ _ (eq-eqb (length s) store_size p.size) (true_both (fit (records s)) (blank (rest s)) p.numbers p.zeros)

pub store_formed : StoreFormed
store_formed s f e =
    let p = store_tells s e in
    let w : List ℕ = written (records s) in
    let all : w ++ rest s ≡ s = rewritten s f in
    let long : length (rest s) ≡ 8192 - length w = omega (arith, p.size, length-append w (rest s), ap length all) in
    record {
      size = p.size;
      laid = sym all ∙ ap (λ (l : List ℕ). w ++ l) (blank_zeros (rest s) p.zeros ∙ ap (λ (n : ℕ). replicate n 0) long);
      numbers = λ i h. (fit_each [] (records s) i h p.numbers).inside;
      none_twice = λ i j h g. fit_once [] (records s) i j h g p.numbers;
    }

-- Records with zeros behind are read back, and nothing but the zeros is left.
zeroed : (rs : List Record) (n : ℕ) → (records (written rs ++ replicate n 0) ≡ rs) × (rest (written rs ++ replicate n 0) ≡ replicate n 0)
zeroed rs n = read_back rs (replicate n 0) (zeros_end n)

-- So bytes of a store's size that are records with zeros behind are a store if the numbers fit.
laid_store : (s : List ℕ) (rs : List Record) (n : ℕ) → length s ≡ store_size → s ≡ written rs ++ replicate n 0 → fit rs ≡ true → is_store s ≡ true
laid_store s rs n h e f =
    tells_store s
    record {
      size = h;
      numbers = ap (λ (l : List ℕ). fit (records l)) e ∙ ap fit (zeroed rs n).0 ∙ f;
      zeros = ap (λ (l : List ℕ). blank (rest l)) e ∙ ap blank (zeroed rs n).1 ∙ zeros_blank n;
    }

pub formed_store : FormedStore
formed_store s rs f =
    let n : ℕ = 8192 - length (written rs) in (
      laid_store s rs n f.size f.laid
          (each_fit [] rs (λ i h. record { inside = f.numbers i h; fresh = refl }) f.none_twice),
      ap records f.laid ∙ (zeroed rs n).0,
    )

-- ---- Storing.
pub stored_length : (rs : List Record) → length (written rs) ≤ store_size → length (store_bytes rs) ≡ store_size
stored_length rs h =
    let n : ℕ = store_size - length (written rs) in
    omega (arith, length-append (written rs) (replicate n 0), length-replicate {A = ℕ} n 0)

pub storing_stores : StoringStores
unfolding has_room stored
storing_stores s n body e i r =
    let rs : List Record = records s in
    let all : List Record = kept n body rs in
    let m : ℕ = store_size - length (written all) in
    let read : records (store_bytes all) ≡ all = (zeroed all m).0 in
    let here = kept_here n body rs in
    record {
      formed =
          laid_store (store_bytes all) all m (stored_length all (leb-true (length (written all)) store_size r)) refl
          (fit_kept n body rs i (store_tells s e).numbers);
      order = read;
      found = (ap (held n) read ∙ here.0, ap (body_of n) read ∙ here.1);
      others =
          λ k d. (ap (held k) read ∙ (kept_others n body rs k d).0, ap (body_of k) read ∙ (kept_others n body rs k d).1);
    }

-- What `keep` says and leaves of bytes of a store's size, by whether there is room.
module _ (s : List ℕ) (n : ℕ) (body : List ℕ) (r : Given) (s' : List ℕ) (k : Keeps s n body r s') (full : length s ≡ store_size) where
  pub keep_done : has_room n body s ≡ true → (r ≡ plain 0) × (s' ≡ stored n body s)
  keep_done e = let p = eq-eqb (length s) store_size full in (k.gives ∙ rw (p, e), k.store ∙ rw (p, e))

  pub keep_full : has_room n body s ≡ false → (r ≡ plain 16) × (s' ≡ s)
  keep_full e = let p = eq-eqb (length s) store_size full in (k.gives ∙ rw (p, e), k.store ∙ rw (p, e))

pub keep_stores : KeepStores
unfolding has_room
keep_stores s n body r s' k e i =
    let full = (store_tells s e).size in
    let size : ℕ = length (written (kept n body (records s))) in (
      λ h.
          let room : has_room n body s ≡ true = le-leb size 8192 h in
          let done = keep_done s n body r s' k full room in
          (done.0, subst (Stores s n body) (sym done.1) (storing_stores s n body e i room)),
      λ h. keep_full s n body r s' k full (lt-leb size 8192 h),
    )

-- ---- Zeros alone.
zeros_store : (n : ℕ) → n ≡ store_size → (is_store (replicate n 0) ≡ true) × (records (replicate n 0) ≡ [])
zeros_store n e = (laid_store (replicate n 0) [] n (length-replicate n 0 ∙ e) refl refl, (zeroed [] n).0)

pub blank_store : BlankStore
blank_store = zeros_store 8192 refl
