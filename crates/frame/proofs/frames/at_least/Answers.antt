-- `at_least` says whether both numbers are large enough.
use borrow.Author.Tests.{le-leb, lt-leb}
use Rattle.frame.proofs.frames.at_least.Goals as goal

pub returns-then-least_a-a : goal.returns-then-least_a-a
returns-then-least_a-a c = rw (le-leb _ _ c.if-least_a-a.true)

pub returns-else-least_a-a : goal.returns-else-least_a-a
returns-else-least_a-a c = rw (lt-leb _ _ c.if-least_a-a.false)
