-- What a well-formed store tells of the messages in it, and why it stays well formed when a good one is stored.
use Prim.Native.Nat.{ℕ, ◌-◌, ◌≤◌, ◌<◌}
use mathlib.Core.Bool.{Bool, true, false, not}
use mathlib.Core.List.{List, [], ◌∷◌, ◌++◌}
use mathlib.Core.Path.{◌≡◌, refl, sym, subst, ◌∙◌, ap}
use native.Mathlib.Omega.{arith}
use borrow.Author.Tests.{eqb-false, eqb-true}
use lib.Dec.{eqb}
use lib.ListN.{length, length-drop, drop_of_length-le}
use lib.Seq.{length-take-le}
use Rattle.frame.specs.Ground.{pick, both, has}
use Rattle.frame.specs.declared.given.Given.{Given}
use Rattle.frame.proofs.Ground.{never, both_true, true_both}
use Rattle.content.specs.Content.{is_content, verdict}
use Rattle.library.specs.Record.{Record, records}
use Rattle.library.specs.Store.{Keeps, body_of, fit_behind, has_room, held, is_number, is_store, kept, store_size, stored, without}
use Rattle.library.proofs.Stores.{none_held}
use Rattle.library.proofs.StoreLaws.{store_tells, storing_stores}
use Rattle.printer.specs.Jet.{good_parameters}
use Rattle.printer.specs.Order.{storing}
use Rattle.printer.specs.Messages.{ChangesStore, body_content, body_parameters, good_bodies, good_body, is_there, store_tests, stored_body, stored_number, valid_store}

neither : (t : Bool) → both t false ≡ false
neither true = refl
neither false = refl

-- No content is empty.
pub content_there : (c : List ℕ) → is_content c ≡ true → 1 ≤ length c
unfolding is_content verdict
content_there [] e = never e
content_there (b ∷ c) e = omega arith

-- ---- A good message, part by part.
pub record GoodBody (body : List ℕ) : Type 0 where
  pub parameters : good_parameters (body_parameters body) ≡ true
  pub content : is_content (body_content body) ≡ true
  pub long : 37 < length body
  pub size : length (body_parameters body) ≡ 37

good_tells : (body : List ℕ) → good_body body ≡ true → GoodBody body
unfolding good_body
good_tells body e =
    let a = both_true (good_parameters (body_parameters body)) _ e in
    let there : 1 ≤ length body - 37 = rw length-drop at (content_there (body_content body) a.1) in
    record { parameters = a.0; content = a.1; long = omega arith; size = length-take-le 37 body (omega arith) }

-- Too few bytes are no good message.
pub short_bad : (body : List ℕ) → length body < 37 → good_body body ≡ false
unfolding good_body is_content verdict
short_bad body h = rw (drop_of_length-le body {i = 37} (omega arith)) (neither (good_parameters (body_parameters body)))

-- ---- A well-formed store, part by part.
pub record ValidStore (store : List ℕ) : Type 0 where
  pub formed : is_store store ≡ true
  pub bodies : good_bodies (records store) ≡ true

pub store_valid : (store : List ℕ) → valid_store store ≡ true → ValidStore store
unfolding valid_store
store_valid store e = let a = both_true (is_store store) _ e in record { formed = a.0; bodies = a.1 }

held_good : (n : ℕ) (rs : List Record) → good_bodies rs ≡ true → held n rs ≡ true → good_body (body_of n rs) ≡ true
held_good n [] g h = never h
held_good n (r ∷ rs) g h = let a = both_true (good_body r.body) (good_bodies rs) g in go (eqb r.number n) a.0 (held_good n rs a.1) h
  where
    go : (t : Bool) → good_body r.body ≡ true → (held n rs ≡ true → good_body (body_of n rs) ≡ true) → pick t true (held n rs) ≡ true
        → good_body (pick t r.body (body_of n rs)) ≡ true
    go true g again h = g
    go false g again h = again h

pub found_good : (store : List ℕ) (n : ℕ) → valid_store store ≡ true → held n (records store) ≡ true → GoodBody (body_of n (records store))
found_good store n v h = good_tells _ (held_good n (records store) (store_valid store v).bodies h)

-- A number that is held is one that a record may have.
held_number : (n : ℕ) (before : List ℕ) (rs : List Record) → fit_behind before rs ≡ true → held n rs ≡ true → is_number n ≡ true
held_number n before [] f h = never h
held_number n before (r ∷ rs) f h =
    let a = both_true (is_number r.number) _ f in
    let b = both_true (not (has r.number before)) (fit_behind (r.number ∷ before) rs) a.1 in
    go (eqb r.number n) refl a.0 (held_number n (r.number ∷ before) rs b.1) h
  where
    go : (t : Bool) → eqb r.number n ≡ t → is_number r.number ≡ true → (held n rs ≡ true → is_number n ≡ true) → pick t true (held n rs) ≡ true → is_number n ≡ true
    go true e k again h = subst (λ (i : ℕ). is_number i ≡ true) (eqb-true r.number n e) k
    go false e k again h = again h

-- So by the length of the body that is found a number is there or not; and one that is there is good.
module _ (store : List ℕ) (n : ℕ) {found : List ℕ} (v : valid_store store ≡ true) (f : found ≡ body_of n (records store)) where
  pub held_none : true ≡ eqb (length found) 0 → held n (records store) ≡ false
  held_none e = go (held n (records store)) refl
    where
      none : length (body_of n (records store)) ≡ 0
      none = sym (ap length f) ∙ eqb-true (length found) 0 (sym e)

      go : (t : Bool) → held n (records store) ≡ t → held n (records store) ≡ false
      go true h = absurd (omega (arith, none, (found_good store n v h).long))
      go false h = h

  pub none_there : true ≡ eqb (length found) 0 → is_there store n ≡ false
  none_there e = rw (held_none e) (neither (is_number n))

  pub held_some : false ≡ eqb (length found) 0 → held n (records store) ≡ true
  held_some e = go (held n (records store)) refl
    where
      go : (t : Bool) → held n (records store) ≡ t → held n (records store) ≡ true
      go true h = h
      go false h = absurd (eqb-false (length found) 0 (sym e) (ap length (f ∙ none_held n (records store) h)))

  pub some_there : false ≡ eqb (length found) 0 → is_there store n ≡ true
  some_there e =
      let h = held_some e in
      true_both _ _ (held_number n [] (records store) (store_tells store (store_valid store v).formed).numbers h) h

  pub some_good : false ≡ eqb (length found) 0 → GoodBody found
  some_good e = rw f (found_good store n v (held_some e))

-- ---- Storing a good message.
good_without : (n : ℕ) (rs : List Record) → good_bodies rs ≡ true → good_bodies (without n rs) ≡ true
good_without n [] g = refl
good_without n (r ∷ rs) g = let a = both_true (good_body r.body) (good_bodies rs) g in go (eqb r.number n) a.0 (good_without n rs a.1)
  where
    go : (t : Bool) → good_body r.body ≡ true → good_bodies (without n rs) ≡ true → good_bodies (pick t (without n rs) (r ∷ without n rs)) ≡ true
    go true g again = again
    go false g again = true_both _ _ g again

good_behind : (rs : List Record) (r : Record) → good_bodies rs ≡ true → good_body r.body ≡ true → good_bodies (rs ++ (r ∷ [])) ≡ true
good_behind [] r g b = true_both _ _ b refl
good_behind (x ∷ rs) r g b = let a = both_true (good_body x.body) (good_bodies rs) g in true_both _ _ a.0 (good_behind rs r a.1 b)

good_kept : (n : ℕ) (body : List ℕ) (rs : List Record) → good_bodies rs ≡ true → good_body body ≡ true → good_bodies (kept n body rs) ≡ true
good_kept n body rs g b = good_behind (without n rs) (record { number = n; body = body }) (good_without n rs g) b

pub stored_valid : (store : List ℕ) (n : ℕ) (body : List ℕ) → valid_store store ≡ true → is_number n ≡ true → good_body body ≡ true → has_room n body store ≡ true
    → valid_store (stored n body store) ≡ true
unfolding valid_store
stored_valid store n body v k b room =
    let a = store_valid store v in
    let x = storing_stores store n body a.formed k room in
    true_both _ _ x.formed (rw x.order (good_kept n body (records store) a.bodies b))

-- What `keep` leaves where the tests before it hold.
pub kept_changes : (store d : List ℕ) {g : Given} {store' : List ℕ} → valid_store store ≡ true → is_number (stored_number d) ≡ true
    → good_parameters (body_parameters (stored_body d)) ≡ true → is_content (body_content (stored_body d)) ≡ true
    → Keeps store (stored_number d) (stored_body d) g store'
    → ChangesStore (store_tests store d) (storing (stored_number d) (stored_body d)) store g store'
unfolding is_store
kept_changes store d v a b c k =
    let size = (both_true (eqb (length store) store_size) _ (store_valid store v).formed).0 in
    record { gives = k.gives ∙ rw (size, a, b, c) refl; bytes = k.store ∙ rw (size, a, b, c) refl }
