-- `or_unless` gives what was found before, or the place of a word that is not good.
use Rattle.header.proofs.or_unless.Goals as goal

pub returns-else-good : goal.returns-else-good
returns-else-good c = rw c.if-good.false c.or.ensures
