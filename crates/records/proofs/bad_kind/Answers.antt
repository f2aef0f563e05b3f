-- `bad_kind` finds a number that is no kind of thing.
use Rattle.records.proofs.bad_kind.Goals as goal

pub returns : goal.returns
returns c = rw (c.at_most.ensures, c.from.ensures.0)
