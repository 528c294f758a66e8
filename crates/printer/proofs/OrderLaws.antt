-- Why every order is refused at its first test that fails or done, and keeps a valid state valid and a well-formed store well formed:
-- tests in a row come to what the first that fails says, each order puts a valid jet in the place of a valid one, and only a good
-- message goes into the store.
use Prim.Native.Nat.{ℕ, zero, suc, ◌-◌, ◌≤◌}
use mathlib.Core.Bool.{Bool, true, false}
use mathlib.Core.List.{List, [], ◌∷◌}
use mathlib.Core.Path.{◌≡◌, refl, sym, ap, ◌∙◌}
use native.Mathlib.Omega.{arith}
use Rattle.std.proofs.Common.{Err}
use borrow.Author.Tests.{eqb-true, leb-true, ltb-false}
use lib.Dec.{eqb, leb, ltb}
use lib.ListN.{length, take, drop, length-set}
use Rattle.frame.specs.Ground.{Test, both, checked, given, plain, all}
use Rattle.frame.specs.declared.given.Given.{Given}
use Rattle.frame.proofs.Ground.{never, both_true, true_both, pick_case, checked_all, checked_case, checked_map, checked_refuses, length_each}
use Rattle.content.specs.Byte.{is_character, all_characters}
use Rattle.content.specs.Content.{is_content}
use Rattle.content.specs.Machine.{start}
use Rattle.content.specs.Edit as edit
use Rattle.content.specs.Edit.{edit_tests, edited, replaced}
use Rattle.content.specs.Update.{laid}
use Rattle.content.proofs.ChangeLaws.{edit_stays_content, update_stays_content}
use Rattle.printer.specs.Counter.{Counter}
use Rattle.printer.specs.Jet.{Jet, has_jet, has_message, message, valid_jet, good_parameters, counted_jet}
use Rattle.printer.specs.State.{Printer, jet_at, with_jet, valid}
use Rattle.library.specs.Store.{has_room, is_number}
use Rattle.printer.specs.Order.{Order, unchanged, store_after, jet_number, jet_in}
use Rattle.printer.specs.Change.{parameters_in, address_in, first_of_head, second_of_head, positions, head_positions, updated_jet, updated_head, set_message, set_parameters, set_both, edit_message, update_fields}
use Rattle.printer.specs.Messages.{body_content, body_parameters, good_body, is_there, select_message, selected_body, selected_number, store_message, stored_body, stored_number, valid_store}
use Rattle.printer.specs.Request.{ask_counter, ask_message, ask_table, ask_clock}
use Rattle.printer.specs.Print.{print}
use Rattle.printer.specs.Receive.{Outcome, given_by, obeyed, refusal, done, printer_order, order}
use Rattle.printer.specs.OrderLaws.{ObeyedDone, ObeyedRefused, numbered, OrdersNumbered, GivenExactly, Keeps, OrderKeeps, UpdateKeeps, OrderStores, UpdateStores}
use Rattle.printer.proofs.Valid.{valid_at, absent_empty, jet_content, on_row}
use Rattle.printer.proofs.StateLaws.{put_valid, with_jet_valid, message_stays, parameters_stay}
use Rattle.printer.proofs.PrintLaws.{counted_valid}
use Rattle.printer.proofs.Bodies.{GoodBody, found_good, stored_valid}

-- ---- Tests in a row.
-- Where one fails, what is given decides, whatever is made of it.
pub checked_given : {A : Type 0} (tests : List Test) (refuse : Given → A) (accept : A) → all tests ≡ false
    → checked tests refuse accept ≡ refuse (given tests)
checked_given tests refuse accept e =
    let r = checked_refuses tests e in
    r.gives refuse accept ∙ ap refuse (sym (r.gives (λ (g : Given). g) (plain 0)))

pub obeyed_done : ObeyedDone
unfolding obeyed
obeyed_done p o consumed e = checked_all o.tests _ _ e

pub obeyed_refused : ObeyedRefused
unfolding obeyed
obeyed_refused p o consumed e = checked_given o.tests (λ (g : Given). refusal p g consumed) _ e

-- Whatever comes of it, number and place are those of the first test that fails, or 0, and what it says is consumed.
pub obeyed_given : (p : Printer) (o : Order) (consumed : ℕ) → given_by (obeyed p o consumed) ≡ given o.tests
unfolding obeyed
obeyed_given p o consumed = checked_map given_by o.tests (λ (g : Given). refusal p g consumed) (done o consumed)

pub obeyed_consumes : (p : Printer) (o : Order) (consumed : ℕ) → (obeyed p o consumed).consumed ≡ consumed
unfolding obeyed
obeyed_consumes p o consumed =
    checked_case (λ (x : Outcome). x.consumed ≡ consumed) o.tests (λ (g : Given). refusal p g consumed) (done o consumed) (λ t h. refl) (λ h. refl)

given_number : (tests : List Test) → numbered tests ≡ true → all tests ≡ false → 8 ≤ (given tests).number
given_number [] n e = never (cc)
given_number (t ∷ tests) n e =
    let b = both_true (leb 8 t.otherwise.number) (numbered tests) n in
    go t.holds refl e (leb-true 8 t.otherwise.number b.0) (given_number tests b.1)
  where
    go : (b : Bool) → t.holds ≡ b → both b (all tests) ≡ false → 8 ≤ t.otherwise.number → (all tests ≡ false → 8 ≤ (given tests).number)
        → 8 ≤ (given (t ∷ tests)).number
    go true h e here again = rw h (again e)
    go false h e here again = rw h here

pub given_exactly : GivenExactly
given_exactly tests n = ((λ e. ap (λ (g : Given). g.number) (checked_all tests (λ g. g) (plain 0) e)), given_number tests n)

-- ---- The orders: nine of the printer alone, and two that need the store.
-- What holds of each of them holds of the one that an identifier leads to.
pub printer_order_case : (P : Order → Type 0) (p : Printer) (i : ℕ) (d : List ℕ)
    → (eqb i 0x0A ≡ true → P (set_message p d))
    → (eqb i 0x0B ≡ true → P (set_parameters p d))
    → (eqb i 0x0C ≡ true → P (set_both p d))
    → (eqb i 0x39 ≡ true → P (ask_counter p d))
    → (eqb i 0x42 ≡ true → P (edit_message p d))
    → (eqb i 0x43 ≡ true → P (ask_message p d))
    → (eqb i 0x52 ≡ true → P (ask_table p))
    → (eqb i 0x94 ≡ true → P (print p))
    → (eqb i 0x0A ≡ false → eqb i 0x0C ≡ false → P (ask_clock p))
    → P (printer_order p i d)
unfolding printer_order
printer_order_case P p i d message parameters both counter edit text table prints clock =
    pick_case P (eqb i 0x0A) _ _ message (λ a.
    pick_case P (eqb i 0x0B) _ _ parameters (λ _.
    pick_case P (eqb i 0x0C) _ _ both (λ c.
    pick_case P (eqb i 0x39) _ _ counter (λ _.
    pick_case P (eqb i 0x42) _ _ edit (λ _.
    pick_case P (eqb i 0x43) _ _ text (λ _.
    pick_case P (eqb i 0x52) _ _ table (λ _.
    pick_case P (eqb i 0x94) _ _ prints (λ _. clock a c))))))))

pub order_case : (P : Order → Type 0) (p : Printer) (store : List ℕ) (i : ℕ) (d : List ℕ)
    → (eqb i 0x1C ≡ true → P (store_message p store d))
    → (eqb i 0x40 ≡ true → P (select_message p store d))
    → (eqb i 0x40 ≡ false → P (printer_order p i d))
    → P (order p store i d)
unfolding order
order_case P p store i d stores selects printer =
    pick_case P (eqb i 0x1C) _ _ stores (λ _. pick_case P (eqb i 0x40) _ _ selects printer)

pub printer_numbered : (p : Printer) (i : ℕ) (d : List ℕ) → numbered (printer_order p i d).tests ≡ true
unfolding set_message set_parameters set_both ask_counter edit_message ask_message ask_table print ask_clock
printer_numbered p i d =
    printer_order_case (λ (o : Order). numbered o.tests ≡ true) p i d
    (λ _. refl) (λ _. refl) (λ _. refl) (λ _. refl) (λ _. refl) (λ _. refl) (λ _. refl) (λ _. refl) (λ _ _. refl)

pub orders_numbered : OrdersNumbered
unfolding store_message select_message
orders_numbered p store i d =
    order_case (λ (o : Order). numbered o.tests ≡ true) p store i d (λ _. refl) (λ _. refl) (λ _. printer_numbered p i d)

pub fields_numbered : (p : Printer) (text : List ℕ) → numbered (update_fields p text).tests ≡ true
unfolding update_fields
fields_numbered p text = refl

-- The printer's own put nothing into the store.
pub printer_unchanged : (p : Printer) (i : ℕ) (d : List ℕ) → (printer_order p i d).store ≡ unchanged
unfolding set_message set_parameters set_both ask_counter edit_message ask_message ask_table print ask_clock
printer_unchanged p i d =
    printer_order_case (λ (o : Order). o.store ≡ unchanged) p i d
    (λ _. refl) (λ _. refl) (λ _. refl) (λ _. refl) (λ _. refl) (λ _. refl) (λ _. refl) (λ _. refl) (λ _ _. refl)

-- ---- What the tests of an order that changes a jet come to, where all hold.
pub record MessageTests (p : Printer) (d : List ℕ) : Type 0 where
  pub there : has_jet p.model (jet_number d) ≡ true
  pub content : is_content (drop 1 d) ≡ true

pub message_tells : (p : Printer) (d : List ℕ) → all (set_message p d).tests ≡ true → MessageTests p d
unfolding set_message
message_tells p d t =
    let a = both_true (has_jet p.model (jet_number d)) _ t in
    record { there = a.0; content = (both_true (is_content (drop 1 d)) true a.1).0 }

pub record ParametersTests (p : Printer) (d : List ℕ) : Type 0 where
  pub there : has_jet p.model (jet_number d) ≡ true
  pub good : good_parameters (parameters_in d) ≡ true

pub parameters_tell : (p : Printer) (d : List ℕ) → all (set_parameters p d).tests ≡ true → ParametersTests p d
unfolding set_parameters
parameters_tell p d t =
    let a = both_true (has_jet p.model (jet_number d)) _ t in
    record { there = a.0; good = (both_true (good_parameters (parameters_in d)) true a.1).0 }

pub record BothTests (p : Printer) (d : List ℕ) : Type 0 where
  pub there : has_jet p.model (jet_number d) ≡ true
  pub good : good_parameters (parameters_in d) ≡ true
  pub content : is_content (drop 38 d) ≡ true

pub both_tell : (p : Printer) (d : List ℕ) → all (set_both p d).tests ≡ true → BothTests p d
unfolding set_both
both_tell p d t =
    let a = both_true (has_jet p.model (jet_number d)) _ t in
    let b = both_true (good_parameters (parameters_in d)) _ a.1 in
    record { there = a.0; good = b.0; content = (both_true (is_content (drop 38 d)) true b.1).0 }

pub record EditTests (p : Printer) (d : List ℕ) : Type 0 where
  pub there : has_jet p.model (jet_number d) ≡ true
  pub some : has_message (jet_in p d) ≡ true
  pub edits : edited (message (jet_in p d)) (address_in d) (drop 3 d) ≡ edit.done

pub edit_tells : (p : Printer) (d : List ℕ) → all (edit_message p d).tests ≡ true → EditTests p d
unfolding edit_message edited
edit_tells p d t =
    let a = both_true (has_jet p.model (jet_number d)) _ t in
    let b = both_true (has_message (jet_in p d)) _ a.1 in
    record { there = a.0; some = b.0; edits = checked_all (edit_tests (message (jet_in p d)) (address_in d) (drop 3 d)) Err edit.done b.1 }

pub record SelectTests (p : Printer) (store d : List ℕ) : Type 0 where
  pub there : has_jet p.model (jet_number d) ≡ true
  pub good : GoodBody (selected_body store d)

pub select_tells : (p : Printer) (store d : List ℕ) → valid_store store ≡ true → all (select_message p store d).tests ≡ true → SelectTests p store d
unfolding select_message
select_tells p store d v t =
    let a = both_true (has_jet p.model (jet_number d)) _ t in
    let b = (both_true (is_there store (selected_number d)) true a.1).0 in
    record { there = a.0; good = found_good store (selected_number d) v (both_true (is_number (selected_number d)) _ b).1 }

pub record StoreTests (store d : List ℕ) : Type 0 where
  pub number : is_number (stored_number d) ≡ true
  pub good : good_body (stored_body d) ≡ true
  pub room : has_room (stored_number d) (stored_body d) store ≡ true

pub store_tells : (p : Printer) (store d : List ℕ) → all (store_message p store d).tests ≡ true → StoreTests store d
unfolding store_message good_body
store_tells p store d t =
    let a = both_true (is_number (stored_number d)) _ t in
    let b = both_true (good_parameters (body_parameters (stored_body d))) _ a.1 in
    let c = both_true (is_content (body_content (stored_body d))) _ b.1 in
    record { number = a.0; good = true_both _ _ b.0 c.0; room = (both_true (has_room (stored_number d) (stored_body d) store) true c.1).0 }

-- ---- Valid states stay valid.
-- An order that puts a valid jet in the place of one that the printer has.
put_keeps : (p : Printer) (o : Order) (n : ℕ) (j : Jet) → o.after ≡ with_jet p n j
    → (all o.tests ≡ true → has_jet p.model n ≡ true)
    → (all o.tests ≡ true → valid_jet true (jet_at p n) ≡ true → valid_jet true j ≡ true)
    → Keeps p o
put_keeps p o n j e there stays =
    record {
      stays_valid = λ v t.
          let h = there t in
          rw e (with_jet_valid p n j v h (stays t (rw h at (valid_at p n v (on_row p.model n h).0))));
      model = rw e;
      as_many = rw e (length-set p.jets (n - 1) j);
    }

message_keeps : (p : Printer) (d : List ℕ) → Keeps p (set_message p d)
unfolding set_message
message_keeps p d =
    put_keeps p (set_message p d) (jet_number d) _ refl (λ t. (message_tells p d t).there)
    (λ t w. message_stays (jet_in p d) (drop 1 d) w (message_tells p d t).content)

parameters_keep : (p : Printer) (d : List ℕ) → Keeps p (set_parameters p d)
unfolding set_parameters
parameters_keep p d =
    put_keeps p (set_parameters p d) (jet_number d) _ refl (λ t. (parameters_tell p d t).there)
    (λ t w. parameters_stay (jet_in p d) (parameters_in d) w (parameters_tell p d t).good)

both_keep : (p : Printer) (d : List ℕ) → Keeps p (set_both p d)
unfolding set_both
both_keep p d =
    put_keeps p (set_both p d) (jet_number d) _ refl (λ t. (both_tell p d t).there)
    (λ t w.
    let x = both_tell p d t in
    parameters_stay _ (parameters_in d) (message_stays (jet_in p d) (drop 38 d) w x.content) x.good)

edit_keeps : (p : Printer) (d : List ℕ) → Keeps p (edit_message p d)
unfolding edit_message
edit_keeps p d =
    let j = jet_in p d in
    put_keeps p (edit_message p d) (jet_number d) _ refl (λ t. (edit_tells p d t).there)
    (λ t w.
    let x = edit_tells p d t in
    message_stays j (replaced (message j) (address_in d) (drop 3 d)) w
    (edit_stays_content (message j) (address_in d) (drop 3 d) (jet_content true j w x.some) x.edits).0)

print_keeps : (p : Printer) → Keeps p (print p)
unfolding print
print_keeps p =
    record {
      stays_valid = λ v _. counted_valid p v;
      model = refl;
      as_many = length_each (λ (n : ℕ) (j : Jet). counted_jet j) 1 p.jets;
    }

-- An order that asks leaves the state as it is.
same_keeps : (p : Printer) (o : Order) → o.after ≡ p → Keeps p o
same_keeps p o e = record { stays_valid = λ v _. rw e v; model = rw e; as_many = rw e }

select_keeps : (p : Printer) (store d : List ℕ) → valid_store store ≡ true → Keeps p (select_message p store d)
unfolding select_message
select_keeps p store d v =
    put_keeps p (select_message p store d) (jet_number d) _ refl (λ t. (select_tells p store d v t).there)
    (λ t w.
    let g = (select_tells p store d v t).good in
    parameters_stay _ (body_parameters (selected_body store d)) (message_stays (jet_in p d) (body_content (selected_body store d)) w g.content) g.parameters)

pub printer_keeps : (p : Printer) (i : ℕ) (d : List ℕ) → Keeps p (printer_order p i d)
unfolding ask_counter ask_message ask_table ask_clock
printer_keeps p i d =
    printer_order_case (Keeps p) p i d
    (λ _. message_keeps p d) (λ _. parameters_keep p d) (λ _. both_keep p d)
    (λ _. same_keeps p (ask_counter p d) refl) (λ _. edit_keeps p d)
    (λ _. same_keeps p (ask_message p d) refl) (λ _. same_keeps p (ask_table p) refl) (λ _. print_keeps p)
    (λ _ _. same_keeps p (ask_clock p) refl)

pub order_keeps : OrderKeeps
unfolding store_message
order_keeps p store i d four v =
    order_case (Keeps p) p store i d
    (λ _. same_keeps p (store_message p store d) refl) (λ _. select_keeps p store d v) (λ _. printer_keeps p i d)

-- ---- A well-formed store stays well formed.
pub order_stores : OrderStores
unfolding store_message select_message
order_stores p store i d v =
    order_case (λ (o : Order). all o.tests ≡ true → valid_store (store_after o.store store) ≡ true) p store i d
    (λ _ t. let x = store_tells p store d t in stored_valid store (stored_number d) (stored_body d) v x.number x.good x.room)
    (λ _ _. v)
    (λ _ _. rw (printer_unchanged p i d) v)

pub update_stores : UpdateStores
unfolding update_fields
update_stores p text = refl

-- ---- An update.
pub characters_before : (n : ℕ) (text : List ℕ) → all_characters text ≡ true → all_characters (take n text) ≡ true
characters_before zero text e = refl
characters_before (suc n) [] e = refl
characters_before (suc n) (b ∷ text) e =
    let h = both_true (is_character b) (all_characters text) e in
    true_both (is_character b) (all_characters (take n text)) h.0 (characters_before n text h.1)

pub characters_behind : (n : ℕ) (text : List ℕ) → all_characters text ≡ true → all_characters (drop n text) ≡ true
characters_behind zero text e = e
characters_behind (suc n) [] e = refl
characters_behind (suc n) (b ∷ text) e = characters_behind n text (both_true (is_character b) (all_characters text) e).1

pub record UpdateTests (p : Printer) (text : List ℕ) : Type 0 where
  pub as_many : length text ≡ head_positions p
  pub characters : all_characters text ≡ true

pub update_tells : (p : Printer) (text : List ℕ) → all (update_fields p text).tests ≡ true → UpdateTests p text
unfolding update_fields
update_tells p text t =
    let a = both_true (ltb 0 (head_positions p)) _ t in
    let b = both_true (eqb (length text) (head_positions p)) _ a.1 in
    record { as_many = eqb-true (length text) (head_positions p) b.0; characters = (both_true (all_characters text) true b.1).0 }

-- It leaves a jet without a message alone.
empty_kept : (text : List ℕ) (n : ℕ) (content general : List ℕ) (counter : Counter) → n ≡ 0
    → updated_jet (record { length = n; content = content; general = general; counter = counter }) text
    ≡ record { length = n; content = content; general = general; counter = counter }
empty_kept [] n content general counter e = rw e
empty_kept (c ∷ text) n content general counter e = rw e

module _ (j : Jet) (text : List ℕ) (c : all_characters text ≡ true) where
  none_kept : has_message j ≡ false → updated_jet j text ≡ j
  none_kept h =
      let z = ltb-false 0 j.length h in
      empty_kept text j.length j.content j.general j.counter (omega arith)

  updated_valid : (present : Bool) → valid_jet present j ≡ true → valid_jet present (updated_jet j text) ≡ true
  updated_valid true v = go (has_message j) refl
    where
      go : (t : Bool) → has_message j ≡ t → valid_jet true (updated_jet j text) ≡ true
      go true h =
          message_stays j (laid text start (message j)) v (update_stays_content (message j) text (jet_content true j v h) c).0
      go false h = rw (none_kept h) v
  updated_valid false v = rw (none_kept (absent_empty j v).0) v

head_valid : (p : Printer) (text : List ℕ) → valid p ≡ true → all_characters text ≡ true → valid (updated_head p text) ≡ true
head_valid p text v c =
    let a = first_of_head p in
    let b = second_of_head p in
    let front = take (positions a) text in
    let rest = drop (positions a) text in
    let first = put_valid p 1 (updated_jet a front) v (omega arith) (updated_valid a front (characters_before (positions a) text c) _ (valid_at p 1 v (omega arith))) in
    put_valid (with_jet p 1 (updated_jet a front)) 2 (updated_jet b rest) first (omega arith)
    (updated_valid b rest (characters_behind (positions a) text c) _ (valid_at p 2 v (omega arith)))

pub update_keeps : UpdateKeeps
unfolding update_fields
update_keeps p text four =
    record {
      stays_valid = λ v t. head_valid p text v (update_tells p text t).characters;
      model = refl;
      as_many = length-set (with_jet p 1 (updated_jet (first_of_head p) (take (positions (first_of_head p)) text))).jets 1 _ ∙ length-set p.jets 0 _;
    }
