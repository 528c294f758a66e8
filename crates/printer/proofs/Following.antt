-- Why a jet holds the last whole message accepted for it, but for its characters: 0Ah, 0Ch and 40h put a content on their jet alone, an edit and
-- an update change characters at character positions, which leaves the outline, and nothing else touches a message.
use Prim.Native.Nat.{ℕ, ◌≤◌}
use mathlib.Core.Bool.{Bool, true, false}
use mathlib.Core.List.{List, [], ◌∷◌}
use mathlib.Core.Path.{◌≡◌, refl, sym, subst, ◌∙◌}
use native.Mathlib.Omega.{arith}
use borrow.Author.Tests.{eqb-true, eq-eqb, ne_eqb}
use lib.Dec.{eqb}
use lib.ListN.{length, drop}
use Rattle.frame.specs.Ground.{pick, all}
use Rattle.content.specs.Byte.{all_characters}
use Rattle.content.specs.Content.{is_content}
use Rattle.content.specs.Machine.{start}
use Rattle.content.specs.Edit.{replaced}
use Rattle.content.specs.Update.{laid}
use Rattle.content.specs.Grammar.{outline}
use Rattle.content.specs.Tree.{tree_of}
use Rattle.content.specs.ChangeLaws.{Kept}
use Rattle.content.proofs.Laws.{correct, unambiguous}
use Rattle.content.proofs.ChangeLaws.{change_keeps, edit_changes, update_changes}
use Rattle.printer.specs.Jet.{Jet, has_jet, message, with_message}
use Rattle.printer.specs.State.{Printer, jet_at, with_jet}
use Rattle.printer.specs.Order.{Order, jet_number, jet_in}
use Rattle.printer.specs.Change.{address_in, updated_jet, set_message, set_parameters, set_both, edit_message, update_fields}
use Rattle.printer.specs.Request.{ask_counter, ask_message, ask_table, ask_clock}
use Rattle.printer.specs.Print.{print, counted_jets}
use Rattle.printer.specs.PrintLaws.{SameButCount}
use Rattle.printer.specs.Messages.{body_content, select_message, selected_body, store_message, valid_store}
use Rattle.printer.specs.Receive.{printer_order, order}
use Rattle.printer.specs.Demands.{Brought, nothing, whole, brought_by, newer, Held}
use Rattle.printer.proofs.Valid.{on_row}
use Rattle.printer.proofs.StateLaws.{message_of}
use Rattle.printer.proofs.PrintLaws.{counted_keeps, content_good}
use Rattle.printer.proofs.OrderLaws.{printer_order_case, order_case, message_tells, parameters_tell, both_tell, edit_tells, select_tells, update_tells}
use Rattle.printer.proofs.Bodies.{content_there}
use Rattle.printer.proofs.Editing.{put_jet, head_each}
use Rattle.printer.proofs.Leading.{Leads, stays, orders, updates, sets, changes}

-- ---- A message beside the last whole one.
-- Nothing beside nothing, or two contents of the same outline.
pub data Follows : List ℕ → List ℕ → Type 0 where
  none : Follows [] []
  same : {m last : List ℕ} → is_content m ≡ true → is_content last ≡ true → outline (tree_of m) ≡ outline (tree_of last) → Follows m last

pub content_some : is_content [] ≡ true → ⊥
content_some e = absurd (omega (arith, content_there [] e))

pub held_none : {m last : List ℕ} → Follows m last → m ≡ [] → last ≡ []
held_none none e = refl
held_none (same c d o) e = absurd (content_some (rw e at c))

pub last_none : {m last : List ℕ} → Follows m last → last ≡ [] → m ≡ []
last_none none e = refl
last_none (same c d o) e = absurd (content_some (rw e at d))

-- What a change at character positions leaves as it was is enough.
kept_content : {m t : List ℕ} → Kept m t → is_content m ≡ true → is_content t ≡ true
unfolding is_content
kept_content k e = rw (k.length_kept, k.verdict_kept) e

kept_follows : {m last : List ℕ} (t : List ℕ) → Kept m t → Follows m last → Follows t last
kept_follows [] k none = none
kept_follows (b ∷ t) k none = absurd (omega (arith, k.length_kept))
kept_follows t k (same c d o) = same (kept_content k c) d (k.outline_kept ∙ o)

counted_message : (p : Printer) (n : ℕ) → message (jet_at (counted_jets p) n) ≡ message (jet_at p n)
counted_message p n = same_message ((counted_keeps p).jets n)
  where
    same_message : {i j : Jet} → SameButCount i j → message j ≡ message i
    same_message s = rw (s.length, s.content)

-- Whatever a call leads to follows what it brings, or else what was followed before.
module _ (p : Printer) (four : length p.jets ≡ 4) (jet : ℕ) (k : 1 ≤ jet) (last : List ℕ) (held : Follows (message (jet_at p jet)) last) where
  Tracks : Printer → Brought → Type 0
  Tracks q b = Follows (message (jet_at q jet)) (newer b last)

  -- A whole message that is put on a jet.
  whole_put : (n : ℕ) (j : Jet) (c : List ℕ) → has_jet p.model n ≡ true → is_content c ≡ true → message j ≡ c
      → Tracks (with_jet p n j) (pick (eqb n jet) (whole c) nothing)
  unfolding Tracks
  whole_put n j c h g e =
      let r = on_row p.model n h in
      put_jet (λ (i : Jet). Follows (message i) (newer (pick (eqb n jet) (whole c) nothing) last)) p n jet j r.0 (omega arith) k
      (λ q. rw (eq-eqb n jet q, e) (same g g refl))
      (λ q. rw (ne_eqb n jet q) held)

  -- A jet that is put in the place of one, and whose message follows where that one's did.
  part_put : (n : ℕ) (j : Jet) → has_jet p.model n ≡ true → (Follows (message (jet_at p n)) last → Follows (message j) last)
      → Tracks (with_jet p n j) nothing
  unfolding Tracks
  part_put n j h f =
      let r = on_row p.model n h in
      put_jet (λ (i : Jet). Follows (message i) last) p n jet j r.0 (omega arith) k
      (λ q. f (subst (λ (x : ℕ). Follows (message (jet_at p x)) last) (sym q) held))
      (λ q. held)

  -- Only 0Ah, 0Ch and 40h bring a whole message.
  brings_nothing : (store : List ℕ) (i : ℕ) (d : List ℕ) → eqb i 0x0A ≡ false → eqb i 0x0C ≡ false → eqb i 0x40 ≡ false → brought_by jet store i d ≡ nothing
  brings_nothing store i d a c s = rw (a, c, s) (pick_same (eqb (jet_number d) jet))
    where
      pick_same : (t : Bool) → pick t nothing nothing ≡ nothing
      pick_same true = refl
      pick_same false = refl

  other : (store : List ℕ) (i : ℕ) (d : List ℕ) (n : ℕ) → eqb n 0x0A ≡ false → eqb n 0x0C ≡ false → eqb n 0x40 ≡ false → eqb i n ≡ true → brought_by jet store i d ≡ nothing
  other store i d n a c s e = brings_nothing store i d (rw (eqb-true i n e) a) (rw (eqb-true i n e) c) (rw (eqb-true i n e) s)

  module _ (d : List ℕ) where
    message_tracks : all (set_message p d).tests ≡ true → Tracks (set_message p d).after (pick (eqb (jet_number d) jet) (whole (drop 1 d)) nothing)
    unfolding set_message
    message_tracks t =
        let x = message_tells p d t in
        whole_put (jet_number d) _ (drop 1 d) x.there x.content (message_of (jet_in p d) (drop 1 d))

    parameters_track : all (set_parameters p d).tests ≡ true → Tracks (set_parameters p d).after nothing
    unfolding set_parameters
    parameters_track t = part_put (jet_number d) _ (parameters_tell p d t).there (λ f. f)

    both_track : all (set_both p d).tests ≡ true → Tracks (set_both p d).after (pick (eqb (jet_number d) jet) (whole (drop 38 d)) nothing)
    unfolding set_both
    both_track t =
        let x = both_tell p d t in
        whole_put (jet_number d) _ (drop 38 d) x.there x.content (message_of (jet_in p d) (drop 38 d))

    select_tracks : (store : List ℕ) → valid_store store ≡ true → all (select_message p store d).tests ≡ true
        → Tracks (select_message p store d).after (pick (eqb (jet_number d) jet) (whole (body_content (selected_body store d))) nothing)
    unfolding select_message
    select_tracks store w t =
        let x = select_tells p store d w t in
        let c = body_content (selected_body store d) in
        whole_put (jet_number d) _ c x.there x.good.content (message_of (jet_in p d) c)

    edit_tracks : all (edit_message p d).tests ≡ true → Tracks (edit_message p d).after nothing
    unfolding edit_message
    edit_tracks t =
        let x = edit_tells p d t in
        let j = jet_in p d in
        let c = replaced (message j) (address_in d) (drop 3 d) in
        part_put (jet_number d) (with_message j c) x.there
        (λ f. rw (message_of j c) (kept_follows c (change_keeps _ _ (edit_changes (message j) (address_in d) (drop 3 d) x.edits)) f))

    print_tracks : Tracks (counted_jets p) nothing
    unfolding Tracks
    print_tracks = rw (counted_message p jet) held

  printer_tracks : (store : List ℕ) (i : ℕ) (d : List ℕ) → eqb i 0x40 ≡ false → all (printer_order p i d).tests ≡ true → Tracks (printer_order p i d).after (brought_by jet store i d)
  unfolding Tracks ask_counter ask_message ask_table ask_clock print
  printer_tracks store i d s =
      printer_order_case (λ (o : Order). all o.tests ≡ true → Tracks o.after (brought_by jet store i d)) p i d
      (λ e t. rw e (message_tracks d t))
      (λ e t. rw (other store i d 0x0B refl refl refl e) (parameters_track d t))
      (λ e t. rw (eqb-true i 0x0C e) (both_track d t))
      (λ e _. rw (other store i d 0x39 refl refl refl e) held)
      (λ e t. rw (other store i d 0x42 refl refl refl e) (edit_tracks d t))
      (λ e _. rw (other store i d 0x43 refl refl refl e) held)
      (λ e _. rw (other store i d 0x52 refl refl refl e) held)
      (λ e _. rw (other store i d 0x94 refl refl refl e) (print_tracks d))
      (λ a c _. rw (brings_nothing store i d a c s) held)

  order_tracks : (store : List ℕ) (i : ℕ) (d : List ℕ) → valid_store store ≡ true → all (order p store i d).tests ≡ true → Tracks (order p store i d).after (brought_by jet store i d)
  unfolding Tracks store_message
  order_tracks store i d w =
      order_case (λ (o : Order). all o.tests ≡ true → Tracks o.after (brought_by jet store i d)) p store i d
      (λ e _. rw (other store i d 0x1C refl refl refl e) held)
      (λ e t. rw (eqb-true i 0x40 e) (select_tracks d store w t))
      (λ s. printer_tracks store i d s)

  updated_follows : (j : Jet) (text : List ℕ) → all_characters text ≡ true → Follows (message j) last → Follows (message (updated_jet j text)) last
  updated_follows j text c f =
      rw (message_of j (laid text start (message j))) (kept_follows _ (change_keeps _ _ (update_changes (message j) text c)) f)

  update_tracks : (text : List ℕ) → all (update_fields p text).tests ≡ true → Tracks (update_fields p text).after nothing
  unfolding update_fields Tracks
  update_tracks text t =
      head_each (λ (i j : Jet). Follows (message i) last → Follows (message j) last) p text jet four (update_tells p text t).characters k
      (λ j f. f) updated_follows held

  pub leads_follow : (q : Printer) (b : Brought) → Leads jet p q b → Follows (message (jet_at q jet)) (newer b last)
  unfolding Tracks
  leads_follow q b stays = held
  leads_follow q b (orders store i d w f t) = order_tracks store i d w t
  leads_follow q b (updates text t) = update_tracks text t
  leads_follow q b (sets c r) = held
  leads_follow q b (changes t r) = held

-- ---- What is held.
pub outline_same : {m last : List ℕ} → Follows m last → is_content m ≡ true → outline (tree_of m) ≡ outline (tree_of last)
outline_same none e = absurd (content_some e)
outline_same (same c d o) e = o

-- "read in exactly one way"
pub follows_held : (m last : List ℕ) → is_content m ≡ true → Follows m last → Held m last
follows_held m last e f =
    let c = correct m (content_good m e).1 in
    record {
      content = e;
      tree = tree_of m;
      good = c.0;
      written = c.1;
      only = λ u g q. unambiguous u (tree_of m) g c.0 (q ∙ sym c.1);
      outlines = outline_same f e;
    }
