-- `content::strip::put_strip` meets its contract: a buffer of three times the bytes' length has room for the strip of any bytes.
use Prim.Native.Nat.{ℕ, ◌*◌, ◌≤◌}
use mathlib.Core.Bool.{Bool, true, false}
use mathlib.Core.List.{List}
use mathlib.Core.Path.{◌≡◌, refl, sym, ◌∙◌, ap}
use native.Mathlib.Omega.{arith}
use Rattle.std.specs.Prelude.{Ok, Err}
use borrow.Author.Rules.{rules}
use borrow.Author.Tests.{leb-true}
use lib.Dec.{leb}
use lib.ListN.{length}
use Rattle.frame.specs.Ground.{over, plain}
use Rattle.content.specs.Strip.{Puts, put_tests, strip, stripped}
use Rattle.content.specs.declared.strip.Values.{Values}
use Rattle.content.proofs.Room.{strip_fits}
use Rattle.content.proofs.Told.{strip_told}
use Rattle.content.proofs.strip.put_strip.Goals as goal

module _ (v : Values) (s before : List ℕ) {b : Bool} (e : b ≡ leb (3 * length s) (length before)) where
  short : b ≡ false → Puts v s before (Err (plain 2)) before
  unfolding stripped
  short h = strip_told (put_tests s (length before)) v s before (rw (sym e ∙ h)) refl

  fits : length v.digits ≡ 9 → b ≡ true → length (strip v s) ≤ length before
  fits n h = let room = leb-true (3 * length s) (length before) (sym e ∙ h) in omega (arith, strip_fits v n s)

  written : {n : ℕ} {after : List ℕ} → b ≡ true → (n ≡ length (strip v s)) × (after ≡ over (strip v s) before) → Puts v s before (Ok n) after
  unfolding stripped
  written h p = strip_told (put_tests s (length before)) v s before (rw (sym e ∙ h) (ap (λ (k : ℕ). Ok k) p.0)) p.1

pub returns-then-not-room_for_three : goal.returns-then-not-room_for_three
returns-then-not-room_for_three c =
    let room = c.room_for_three in
    short c.args.values c.args.s.now c.args.out.now room.ensures (search rules)

pub write-requires : goal.write-requires
write-requires c =
    let room = c.room_for_three in
    fits c.args.values c.args.s.now c.args.out.now room.ensures (search rules) (search rules)

pub returns : goal.returns
returns c =
    let room = c.room_for_three in
    written c.args.values c.args.s.now c.args.out.now room.ensures (search rules) c.write.ensures
