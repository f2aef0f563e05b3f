-- `clear` finds flags of which a spare bit is set.
use Rattle.header.proofs.clear.Goals as goal

pub returns : goal.returns
returns c = rw (← c.word_inside.ensures) c.or_unless.ensures
