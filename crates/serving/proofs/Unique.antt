-- The contract of `serve` has one outcome: it says what every part of it is.
use mathlib.Core.Path.{sym, ◌∙◌}
use Rattle.printer.proofs.Unique.{fulfils_unique, taken}
use Rattle.serving.specs.Unique.{ServesUnique}

pub serves_unique : ServesUnique
serves_unique m store holding buffer byte answer strips r r' m' m'' store' store'' buffer' buffer'' answer' answer'' strips' strips'' p q =
    let u = fulfils_unique p.fulfils q.fulfils in
    (taken u.0 (p.holds ∙ sym q.holds), u.1, u.2, p.buffer_bytes ∙ sym q.buffer_bytes, u.3, u.4)
