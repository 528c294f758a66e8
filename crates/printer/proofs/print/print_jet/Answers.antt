-- `printer::print::print_jet` meets its contract: a message has 512 bytes at the most, and so there is room for its strip.
use Prim.Native.Nat.{ℕ, ◌*◌, ◌≤◌}
use mathlib.Core.List.{List}
use mathlib.Core.Path.{◌≡◌, ◌∙◌}
use native.Mathlib.Omega.{arith}
use borrow.Author.Tests.{le-leb}
use lib.ListN.{length, length-take}
use Rattle.std.proofs.Common.{Result, Ok, Err}
use Rattle.std.specs.Result.{result_unwrap_or}
use Rattle.frame.specs.Given.{numbered}
use Rattle.frame.specs.declared.given.Refusal.{Refusal}
use Rattle.content.specs.Strip.{Puts, stripped}
use Rattle.content.specs.declared.strip.Values.{Values}
use Rattle.content.proofs.Room.{strip_fits}
use Rattle.printer.specs.Jet.{Jet, jet_of, message}
use Rattle.printer.specs.Print.{values, strip_of, PrintsJet}
use Rattle.printer.proofs.CounterLaws.{digits_nine}
use Rattle.printer.proofs.print.print_jet.Goals as goal

unwrapped : (r : Result ℕ Refusal) {n : ℕ} → numbered r ≡ Ok n → result_unwrap_or r 0 ≡ n
unwrapped (Ok k) e = cc
unwrapped (Err why) e = cc

module _ (es : List ℕ) (j : Jet) (r : Result ℕ Refusal) {v : Values} {s before after : List ℕ} (e : v ≡ values es j) (q : s ≡ message j) (h : j.length ≤ 512) (room : 1536 ≤ length before)
    (p : Puts v s before (numbered r) after) where
  short : length (message j) ≤ 512
  short = omega (arith, length-take j.length j.content)

  -- Nothing is refused.
  told : numbered r ≡ Ok (length (strip_of es j))
  unfolding stripped
  told = p.answer ∙ rw (e, q, le-leb (3 * length (message j)) (length before) (omega (arith, short)))

  prints : PrintsJet es j before (result_unwrap_or r 0) after
  prints =
      let n : result_unwrap_or r 0 ≡ length (strip_of es j) = unwrapped r told in
      record {
        count = n;
        short = omega (arith, n, short, strip_fits (values es j) (digits_nine j.counter.value) (message j));
        bytes = p.buffer ∙ rw (told, e, q);
      }

pub returns : goal.returns
returns c =
    rw c.unwrap_or.ensures
    (prints c.args.entries (jet_of c.args.jet.bytes.now) c.put_strip.result c.values.ensures c.message.ensures c.requires.0 c.requires.1 c.put_strip.ensures)
