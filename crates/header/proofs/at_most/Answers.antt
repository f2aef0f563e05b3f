-- `at_most` finds a number that is over its limit.
use Rattle.header.proofs.at_most.Goals as goal

pub returns : goal.returns
returns c = rw (← c.word_inside.ensures) c.or_unless.ensures
