-- `line::given_width` meets its contract: a place says what is written behind the number. A byte has 3 digits at most.
use native.Mathlib.Omega.{arith}
use Rattle.line.proofs.Laws.{byte_digits, at_length}
use Rattle.line.proofs.given_width.Goals as goal

pub returns-in-Some : goal.returns-in-Some
returns-in-Some c =
    let g = c.args.given in
    let digits = rw c.from.ensures at c.width-digits.ensures in
    omega (arith, at_length g c.in-Some.i c.in-Some.is, byte_digits g.number (omega arith))
