-- `frame::build::answer` meets its contract: what `send` does of an identifier that is known is an answer.
use Rattle.frame.proofs.Told.{answers}
use Rattle.frame.proofs.build.answer.Goals as goal

pub returns : goal.returns
returns c =
    let a = c.args in
    answers a.out.now a.identifier a.bytes.now _ c.send.new.out c.send.ensures
