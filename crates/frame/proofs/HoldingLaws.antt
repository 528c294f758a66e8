-- What is held is what bursts leave: a beginning of what is not whole is not whole, since what is whole stays so whatever stands behind it.
use Prim.Native.Nat.{ℕ, suc, ◌+◌, ◌-◌, ◌≤◌, ◌<◌}
use mathlib.Core.Bool.{Bool, true, false, false≢true}
use mathlib.Core.List.{List, [], ◌∷◌, ◌++◌, append_assoc, append-nil}
use mathlib.Core.Path.{◌≡◌, refl, sym, ◌∙◌, ap, ap₂, subst}
use native.Mathlib.Omega.{arith}
use borrow.Author.Tests.{eq-eqb, ne_eqb, eqb-true, eqb-false, lt-ltb, le-ltb, ltb-true, ltb-false, le-leb, lt-leb, leb-true, leb-false}
use lib.Dec.{eqb, leb, ltb}
use lib.ListN.{length, get_or, set, take, drop, take-append-drop, length-append, length-drop, length-set, get_or-append}
use lib.Seq.{append_snoc, take-append-le, take-suc-set, take_all, take-length, drop-append-le, length-take-le}
use Rattle.frame.specs.Ground.{within}
use Rattle.frame.specs.Given.{given_of}
use Rattle.frame.specs.Wire.{enquiry, update_opens, update_closes, word, longest_update, update_marks, head_size, around, longest_data}
use Rattle.frame.specs.Receive.{received, updated, framed, run, text_space, data_length, number, consumed}
use Rattle.frame.specs.Holding.{holding_size, is_held, is_holding}
use Rattle.frame.specs.HoldingLaws.{ByteCompletes, Follows, FourStays, HeldPartial, HoldingExactly, HoldingFollows, Left, LeftBySome, LeftExactly, SilenceEmpties, dropping, leaves_from, left_behind, left_by, waiting}
use Rattle.frame.specs.declared.holding.Holding.TheVariants.{Held, Dropping}
use Rattle.frame.specs.declared.receive.Received.{Received}
use Rattle.frame.specs.declared.given.Refusal.TheVariants.{TooLong}
use Rattle.frame.specs.declared.receive.Received.TheVariants.{Partial, Refused, Misfit, Enquiry, Update, Frame}
use Rattle.frame.proofs.Ground.{both_true, pick_case}
use Rattle.frame.proofs.Laws.{consumed_whole, verified, verified_case}
use Rattle.frame.proofs.Heard.{Sound, sound}
use Rattle.frame.proofs.Held.{is_partial, partial_tells, held_is_partial}

pub held_partial : HeldPartial
unfolding is_partial
held_partial s = ((λ e. partial_tells (received s) (sym (held_is_partial s) ∙ e)), (λ e. held_is_partial s ∙ ap is_partial e))

-- Held bytes have number 3.
pub held_three : (s : List ℕ) → is_held s ≡ true → number (received s) ≡ 3
held_three s e = ap number ((held_partial s).0 e)

-- ---- 4 stays 4.
-- The answers that have the number 4: an update without an end, and a frame that is too long.
unfoldable FourIs : List ℕ → Received → Type 0
FourIs s r = number r ≡ 4 → (rest : List ℕ) → received (s ++ rest) ≡ Refused TooLong (length (s ++ rest))

four_framed : (s : List ℕ) → (get_or s 0 0 ≡ enquiry → ⊥) → (get_or s 0 0 ≡ update_opens → ⊥) → head_size ≤ length s → longest_data < data_length s
    → received s ≡ Refused TooLong (length s)
unfolding received framed
four_framed s h₅ h₂ g m =
    rw (
      ne_eqb (length s) 0 (λ z. omega arith),
      ne_eqb (get_or s 0 0) enquiry h₅,
      ne_eqb (get_or s 0 0) update_opens h₂,
      le-ltb (length s) head_size g,
      lt-ltb longest_data (data_length s) m,
    )

four_updated : (s : List ℕ) → get_or s 0 0 ≡ update_opens → length (text_space s) ≤ run update_closes (text_space s) → longest_update + update_marks ≤ length s
    → received s ≡ Refused TooLong (length s)
unfolding received updated
four_updated s e h g =
    rw (
      ne_eqb (length s) 0 (λ z. omega arith),
      ne_eqb (get_or s 0 0) enquiry (λ z. omega arith),
      eq-eqb (get_or s 0 0) update_opens e,
      le-ltb (run update_closes (text_space s)) (length (text_space s)) h,
      le-ltb (length s) (longest_update + update_marks) g,
    )

-- The first bytes are the same with more behind them.
more_at : (s rest : List ℕ) (k : ℕ) → k < length s → get_or (s ++ rest) k 0 ≡ get_or s k 0
more_at s rest k h = get_or-append s rest 0 k h

longer : (s rest : List ℕ) → length s ≤ length (s ++ rest)
longer s rest = omega (arith, length-append s rest)

same_text : (s rest : List ℕ) → longest_update + update_marks ≤ length s → text_space (s ++ rest) ≡ text_space s
same_text s rest h =
    ap (take (longest_update + 1)) (drop-append-le 1 s rest (omega arith))
    ∙ take-append-le (longest_update + 1) (drop 1 s) rest (omega (arith, length_behind s))
  where
    length_behind : (s : List ℕ) → length (drop 1 s) ≡ length s - 1
    length_behind s = length-drop 1 s

-- Two numbers that differ are not the same.
other : (m n : ℕ) → eqb m n ≡ false → m ≡ n → ⊥
other m n e q = eqb-false m n e q

-- By the receiver's own tests.
four_in_framed : (s : List ℕ) → (get_or s 0 0 ≡ enquiry → ⊥) → (get_or s 0 0 ≡ update_opens → ⊥) → FourIs s (framed s (data_length s))
unfolding framed FourIs verified
four_in_framed s h₅ h₂ =
    pick_case (FourIs s) (ltb (length s) head_size) _ _ (λ e four rest. absurd (other 3 4 refl four)) (λ e.
    pick_case (FourIs s) (ltb longest_data (data_length s)) _ _
    (λ m four rest.
    let g = ltb-false (length s) head_size e in
    let first : get_or (s ++ rest) 0 0 ≡ get_or s 0 0 = more_at s rest 0 (omega arith) in
    let long : data_length (s ++ rest) ≡ data_length s = ap₂ word (more_at s rest 1 (omega arith)) (more_at s rest 2 (omega arith)) in
    four_framed (s ++ rest) (rw first h₅) (rw first h₂) (omega (arith, longer s rest)) (rw long (ltb-true longest_data (data_length s) m)))
    (λ m.
    pick_case (FourIs s) (ltb (length s) (data_length s + around)) _ _ (λ g four rest. absurd (other 3 4 refl four)) (λ g.
    verified_case (FourIs s) s (data_length s) (λ four rest. absurd (other 5 4 refl four)) (λ i four rest. absurd (other 6 4 refl four))
    (λ i four rest. absurd (other 7 4 refl four)) (λ i four rest. absurd (other 0 4 refl four)))))

four_in_updated : (s : List ℕ) → (length s ≡ 0 → ⊥) → get_or s 0 0 ≡ update_opens → FourIs s (updated s (run update_closes (text_space s)))
unfolding updated FourIs
four_in_updated s h e =
    pick_case (FourIs s) (ltb (run update_closes (text_space s)) (length (text_space s))) _ _ (λ g four rest. absurd (other 0 4 refl four)) (λ g.
    pick_case (FourIs s) (ltb (length s) (longest_update + update_marks)) _ _ (λ m four rest. absurd (other 3 4 refl four)) (λ m four rest.
    let long = ltb-false (length s) (longest_update + update_marks) m in
    let first : get_or (s ++ rest) 0 0 ≡ get_or s 0 0 = more_at s rest 0 (omega arith) in
    let none = ltb-false (run update_closes (text_space s)) (length (text_space s)) g in
    four_updated (s ++ rest) (first ∙ e)
    (subst (λ (t : List ℕ). length t ≤ run update_closes t) (sym (same_text s rest long)) none)
    (omega (arith, longer s rest))))

four_in : (s : List ℕ) → FourIs s (received s)
unfolding received FourIs
four_in s =
    pick_case (FourIs s) (eqb (length s) 0) _ _ (λ e four rest. absurd (other 3 4 refl four)) (λ e.
    pick_case (FourIs s) (eqb (get_or s 0 0) enquiry) _ _ (λ h four rest. absurd (other 0 4 refl four)) (λ h₅.
    pick_case (FourIs s) (eqb (get_or s 0 0) update_opens) _ _ (λ h. four_in_updated s (eqb-false (length s) 0 e) (eqb-true (get_or s 0 0) update_opens h)) (λ h₂.
    four_in_framed s (eqb-false (get_or s 0 0) enquiry h₅) (eqb-false (get_or s 0 0) update_opens h₂))))

pub four_stays : FourStays
unfolding FourIs
four_stays s rest four = four_in s four rest

-- ---- One byte more.
-- What is whole within bytes that are held would be whole in them.
short_whole : (s t : List ℕ) → received s ≡ Partial → consumed (received (s ++ t)) ≤ length s → (number (received (s ++ t)) ≡ 3 → ⊥) → (number (received (s ++ t)) ≡ 4 → ⊥) → ⊥
short_whole s t e h three four =
    let w = consumed_whole (s ++ t) three four in
    let c = consumed (received (s ++ t)) in
    let front : take c (s ++ t) ≡ take c s = take-append-le c s t h in
    let same : received s ≡ received (s ++ t) = ap received (sym (ap (λ (l : List ℕ). l ++ drop c s) front ∙ take-append-drop c s)) ∙ w.same (drop c s) in
    three (ap number (sym same ∙ e))

pub byte_completes : ByteCompletes
byte_completes s byte rest e three four =
    let t = s ++ (byte ∷ []) in
    let w = consumed_whole t three four in
    let long : length t ≡ length s + 1 = length-append s (byte ∷ []) in
    let all : consumed (received t) ≡ length t = whole_all ((held_partial s).0 e) w.inside long in
    record {
      all = all;
      same = ap (λ (l : List ℕ). received (l ++ rest)) (sym (ap (λ (n : ℕ). take n t) all ∙ take-length t)) ∙ w.same rest;
    }
  where
    whole_all : received s ≡ Partial → consumed (received (s ++ (byte ∷ []))) ≤ length (s ++ (byte ∷ [])) → length (s ++ (byte ∷ [])) ≡ length s + 1
        → consumed (received (s ++ (byte ∷ []))) ≡ length (s ++ (byte ∷ []))
    whole_all p inside long = go (leb (consumed (received (s ++ (byte ∷ [])))) (length s)) refl
      where
        go : (b : Bool) → leb (consumed (received (s ++ (byte ∷ [])))) (length s) ≡ b → consumed (received (s ++ (byte ∷ []))) ≡ length (s ++ (byte ∷ []))
        go true q = absurd (short_whole s (byte ∷ []) p (leb-true _ _ q) three four)
        go false q = let h = leb-false (consumed (received (s ++ (byte ∷ [])))) (length s) q in omega arith

-- ---- What bursts leave.
-- The number 3 is that of what is not whole, and 1 and 2 are none of the receiver's.
by_number : (P : ℕ → Received → Type 0) (s : List ℕ) (r : Received) → Sound s r → P 3 Partial → P 0 r → ((k : ℕ) → 4 ≤ k → P k r) → P (number r) r
by_number P s Partial h three none more = three
by_number P s (Refused why c) h three none more = more (given_of why).number h
by_number P s (Misfit why i n c) h three none more = more (given_of why).number h
by_number P s Enquiry h three none more = none
by_number P s (Update n c) h three none more = none
by_number P s (Frame i n c) h three none more = none

pub three_partial : (s : List ℕ) → number (received s) ≡ 3 → received s ≡ Partial
three_partial s =
    by_number (λ (k : ℕ) (r : Received). k ≡ 3 → r ≡ Partial) s (received s) (sound s)
    (λ e. refl) (λ e. absurd (other 0 3 refl e)) (λ k h e. absurd (other 4 3 refl (omega arith)))

pub never_silent : (s : List ℕ) → within 1 2 (number (received s)) ≡ false
never_silent s =
    by_number (λ (k : ℕ) (r : Received). within 1 2 k ≡ false) s (received s) (sound s)
    refl refl (λ k h. rw (le-leb 1 k (omega arith), lt-leb k 2 (omega arith)) refl)

-- The beginnings of what is held are held.
held_front : (s t : List ℕ) → is_held (s ++ t) ≡ true → is_held s ≡ true
held_front s t e = (held_partial s).1 (go (eqb (number (received s)) 3) refl (eqb (number (received s)) 4) refl)
  where
    whole : number (received (s ++ t)) ≡ 3
    whole = held_three (s ++ t) e

    all : (c : ℕ) → take c s ++ (drop c s ++ t) ≡ s ++ t
    all c = sym (append_assoc (take c s) (drop c s) t) ∙ ap (λ (l : List ℕ). l ++ t) (take-append-drop c s)

    go : (b : Bool) → eqb (number (received s)) 3 ≡ b → (d : Bool) → eqb (number (received s)) 4 ≡ d → received s ≡ Partial
    go true p d q = three_partial s (eqb-true (number (received s)) 3 p)
    go false p true q = absurd (other 4 3 refl (sym (ap number (four_stays s t (eqb-true (number (received s)) 4 q))) ∙ whole))
    go false p false q =
        let three = eqb-false (number (received s)) 3 p in
        let w = consumed_whole s three (eqb-false (number (received s)) 4 q) in
        let c = consumed (received s) in
        absurd (three (ap number (sym (w.same (drop c s ++ t)) ∙ ap received (all c)) ∙ whole))

-- A burst of bytes that are held leaves them.
leaves_held : (p t : List ℕ) → is_held (p ++ t) ≡ true → leaves_from (waiting p) t ≡ waiting (p ++ t)
leaves_held p [] e = ap waiting (sym (append-nil p))
leaves_held p (b ∷ t) e =
    let joined : (p ++ (b ∷ [])) ++ t ≡ p ++ (b ∷ t) = append_snoc p b t in
    let held : is_held ((p ++ (b ∷ [])) ++ t) ≡ true = rw joined e in
    let three : number (received (p ++ (b ∷ []))) ≡ 3 = held_three (p ++ (b ∷ [])) (held_front (p ++ (b ∷ [])) t held) in
    ap (λ (k : ℕ). leaves_from (left_by (p ++ (b ∷ [])) k) t) three ∙ leaves_held (p ++ (b ∷ [])) t held ∙ ap waiting joined

-- What is left behind a byte is held.
unfoldable pub HeldLeft : Left → Type 0
HeldLeft (waiting s) = is_held s ≡ true
HeldLeft dropping = Unit {0}

pub none_held : is_held [] ≡ true
unfolding is_held
none_held = refl

behind_held : (l : Left) (b : ℕ) → HeldLeft (left_behind l b)
unfolding HeldLeft
behind_held (waiting s) b =
    let t = s ++ (b ∷ []) in
    pick_case HeldLeft (eqb (number (received t)) 3) _ _
    (λ e. (held_partial t).1 (three_partial t (eqb-true (number (received t)) 3 e)))
    (λ e. pick_case HeldLeft (eqb (number (received t)) 4) _ _ (λ q. tt) (λ q. none_held))
behind_held dropping b = tt

all_held : (l : Left) (burst : List ℕ) → HeldLeft l → HeldLeft (leaves_from l burst)
all_held l [] h = h
all_held l (b ∷ burst) h = all_held (left_behind l b) burst (behind_held l b)

pub left_exactly : LeftExactly
unfolding received framed HeldLeft
left_exactly =
    record {
      held = λ s e. leaves_held [] s e;
      dropped = refl;
      left = λ burst s e. subst HeldLeft e (all_held (waiting []) burst none_held);
    }

pub silence_empties : SilenceEmpties
silence_empties h buffer = refl

-- ---- What is held behind a byte.
-- At most 1,023 bytes are held.
pub held_short : (s : List ℕ) → is_held s ≡ true → length s < holding_size
unfolding is_held
held_short s =
    pick_case Short (eqb (length s) 0) _ _ (λ e t. omega (arith, eqb-true (length s) 0 e)) (λ e.
    pick_case Short (eqb (get_or s 0 0) enquiry) _ _ (λ h t. absurd (false≢true t)) (λ h.
    pick_case Short (eqb (get_or s 0 0) update_opens) _ _ (λ g t. omega (arith, leb-true (length s) (longest_update + 1) (both_true _ _ t).0)) (λ g.
    pick_case Short (ltb (length s) head_size) _ _ (λ q t. omega (arith, ltb-true (length s) head_size q)) (λ q t.
    let b = both_true (leb (data_length s) longest_data) _ t in
    omega (arith, leb-true (data_length s) longest_data b.0, leb-true (length s) (data_length s + head_size) b.1)))))
  where
    Short : Bool → Type 0
    Short b = b ≡ true → length s < holding_size

pub record Holds (n : ℕ) (buffer : List ℕ) : Type 0 where
  pub full : length buffer ≡ holding_size
  pub room : n < holding_size
  pub bytes : is_held (take n buffer) ≡ true

pub holds_tell : (n : ℕ) (buffer : List ℕ) → is_holding (Held n) buffer ≡ true → Holds n buffer
unfolding is_holding
holds_tell n buffer e =
    let a = both_true (eqb (length buffer) holding_size) _ e in
    let b = both_true (ltb n holding_size) _ a.1 in
    record { full = eqb-true (length buffer) holding_size a.0; room = ltb-true n holding_size b.0; bytes = b.1 }

pub tell_holds : (n : ℕ) (buffer : List ℕ) → length buffer ≡ holding_size → n < holding_size → is_held (take n buffer) ≡ true → is_holding (Held n) buffer ≡ true
unfolding is_holding
tell_holds n buffer full room bytes = rw (eq-eqb (length buffer) holding_size full, lt-ltb n holding_size room) bytes

pub tell_dropping : (buffer : List ℕ) → length buffer ≡ holding_size → is_holding Dropping buffer ≡ true
unfolding is_holding
tell_dropping buffer full = eq-eqb (length buffer) holding_size full

-- Bytes that some burst leaves are fewer than the buffer has, so that they are its first n.
pub holding_exactly : HoldingExactly
unfolding is_holding
holding_exactly (Held n) buffer = ((λ e. some (holds_tell n buffer e)), only)
  where
    some : Holds n buffer → LeftBySome (Held n) buffer
    some h = record { full = h.full; burst = take n buffer; left = left_exactly.held (take n buffer) h.bytes }

    only : LeftBySome (Held n) buffer → is_holding (Held n) buffer ≡ true
    only l =
        let held : is_held (take n buffer) ≡ true = left_exactly.left l.burst (take n buffer) l.left in
        go held (held_short (take n buffer) held) (ltb n (length buffer)) refl
      where
        go : is_held (take n buffer) ≡ true → length (take n buffer) < holding_size → (b : Bool) → ltb n (length buffer) ≡ b → is_holding (Held n) buffer ≡ true
        go held short true e = tell_holds n buffer l.full (omega (arith, l.full, ltb-true n (length buffer) e)) held
        go held short false e =
            let all : take n buffer ≡ buffer = take_all n buffer (ltb-false n (length buffer) e) in
            absurd (other 1024 0 refl (omega (arith, l.full, ap length all)))
holding_exactly Dropping buffer = (
  (λ e. record { full = eqb-true (length buffer) holding_size e; burst = 0x00 ∷ 0xFF ∷ 0xFF ∷ []; left = left_exactly.dropped }),
  (λ l. tell_dropping buffer l.full),
)

-- The bytes that were held and the one behind them.
pub behind_front : (n : ℕ) (buffer : List ℕ) (byte : ℕ) → n < length buffer → take (n + 1) (set buffer n byte) ≡ take n buffer ++ (byte ∷ [])
behind_front n buffer byte h = ap (λ (k : ℕ). take k (set buffer n byte)) (next n) ∙ take-suc-set buffer n byte h
  where
    next : (n : ℕ) → n + 1 ≡ suc n
    next n = omega arith

module _ (n : ℕ) (buffer : List ℕ) (byte : ℕ) (h : Holds n buffer) where
  abbrev whole : List ℕ
  whole = take n buffer ++ (byte ∷ [])

  full : length (set buffer n byte) ≡ holding_size
  full = length-set buffer n byte ∙ h.full

  front : take (n + 1) (set buffer n byte) ≡ whole
  front = behind_front n buffer byte (omega (arith, h.full, h.room))

  more_held : number (received whole) ≡ 3 → is_holding (Held (n + 1)) (set buffer n byte) ≡ true
  more_held e =
      let held : is_held whole ≡ true = (held_partial whole).1 (three_partial whole e) in
      let long : length whole ≡ n + 1 = length-append (take n buffer) (byte ∷ []) ∙ ap (λ (k : ℕ). k + 1) (length-take-le n buffer (omega (arith, h.full, h.room))) in
      tell_holds (n + 1) (set buffer n byte) full (omega (arith, long, held_short whole held)) (rw front held)

  follows_held : Follows (Held n) buffer byte (number (received whole))
  follows_held = go (eqb (number (received whole)) 3) refl (eqb (number (received whole)) 4) refl
    where
      go : (b : Bool) → eqb (number (received whole)) 3 ≡ b → (d : Bool) → eqb (number (received whole)) 4 ≡ d
          → Follows (Held n) buffer byte (number (received whole))
      go true p d q =
          record {
            holds = rw (never_silent whole, p) (more_held (eqb-true (number (received whole)) 3 p));
            as_left = rw (never_silent whole, p) (ap waiting front);
          }
      go false p true q = record { holds = rw (never_silent whole, p, q) (tell_dropping (set buffer n byte) full); as_left = rw (never_silent whole, p, q) refl }
      go false p false q =
          record {
            holds = rw (never_silent whole, p, q) (tell_holds 0 (set buffer n byte) full (omega arith) none_held);
            as_left = rw (never_silent whole, p, q) refl;
          }

pub holding_follows : HoldingFollows
unfolding is_holding
holding_follows (Held n) buffer byte e = follows_held n buffer byte (holds_tell n buffer e)
holding_follows Dropping buffer byte e = record { holds = e; as_left = refl }
