-- `frame::build::build` meets its contract: an identifier is known where it stands in the table.
use Rattle.std.proofs.Common.{◌≡◌, is_some, rules}
use Rattle.frame.specs.Wire.{size_of}
use Rattle.frame.proofs.Told.{builds}
use Rattle.frame.proofs.build.build.Goals as goal

pub returns : goal.returns
returns c =
    let a = c.args in
    let k : c.is_some.result ≡ is_some (size_of a.identifier) = search rules in
    builds a.out.now a.identifier a.bytes.now c.is_some.result _ c.send.new.out k c.send.ensures
