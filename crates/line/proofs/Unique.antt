-- The contract has one outcome: the answer is the rule's, and the bytes after go by the answer.
use Rattle.line.specs.Unique.{WritesUnique}

pub writes_unique : WritesUnique
writes_unique before g answer r r' after after' p q = ((cc), (cc))
