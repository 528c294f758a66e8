-- `line::write_given` meets its contract. A number alone is what `write_decimal` leaves; else a colon is stored behind it, and the place is laid behind that.
use Prim.Native.Nat.{ℕ, ◌+◌, ◌-◌, ◌≤◌}
use mathlib.Core.List.{List}
use mathlib.Core.Path.{◌≡◌, sym, ◌∙◌, ap}
use Rattle.std.proofs.Common.{Some}
use native.Mathlib.Omega.{arith}
use borrow.Rule.Slice.PartMut.{mid_of, put_mid}
use lib.ListN.{length, set}
use lib.Seq.{append_snoc}
use Rattle.frame.specs.Ground.{over}
use Rattle.frame.proofs.Lent.{laid_more}
use Rattle.frame.specs.declared.given.Given.{Given}
use Rattle.line.specs.Line.{colon, decimal, given_text}
use Rattle.line.proofs.Laws.{at_text, at_length, laid_byte}
use Rattle.line.proofs.write_given.Goals as goal

-- The digits of a number and its place, as `write_decimal` leaves them, with the colon between them: n digits are written, then the colon, then
-- the m digits of the place.
placed : (g : Given) (i : ℕ) (before first last : List ℕ) (n m : ℕ) → g.place ≡ Some i → length (given_text g) ≤ length before
    → n ≡ length (decimal g.number) → first ≡ over (decimal g.number) before → m ≡ length (decimal i)
    → let xs : List ℕ = set first n colon in last ≡ over (decimal i) (mid_of (n + 1) (length xs - (n + 1)) xs)
    → (n + 1 + m ≡ length (given_text g)) × (put_mid (n + 1) (length xs - (n + 1)) xs last ≡ over (given_text g) before)
placed g i before first last n m place room count bytes digits p =
    let text = at_text g i place in
    let numbered = laid_byte (decimal g.number) before first n colon count (omega (arith, at_length g i place)) bytes in
    let all = laid_more m (decimal i) last numbered (sym digits) (omega (arith, at_length g i place)) p in
    let whole = append_snoc (decimal g.number) colon (decimal i) ∙ sym text in
    (omega (arith, at_length g i place), all.same ∙ ap (λ (x : List ℕ). over x before) whole)

pub returns : goal.returns
returns c =
    let d = c.write_decimal-digits in
    let e = c.write_decimal in
    let digits = rw c.from.ensures at d.ensures in
    placed c.args.given c.in-Some.i c.args.out.now d.new.out e.new.out d.result e.result c.in-Some.is c.requires digits.0 digits.1 e.ensures.0 e.ensures.1
