-- `sign_of` gives the flow's sign as a number.
use Rattle.flow.proofs.sign_of.Goals as goal

pub returns-then-s : goal.returns-then-s
returns-then-s c = rw c.if-s.true

pub returns-else-s : goal.returns-else-s
returns-else-s c = rw c.if-s.false
