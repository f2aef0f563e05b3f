-- `nearer` is one cell from a number toward another.
use borrow.Author.Tests.{lt-ltb, le-ltb}
use Rattle.arrows.proofs.nearer.Goals as goal

pub returns-then-u-v : goal.returns-then-u-v
returns-then-u-v c = rw (lt-ltb _ _ c.if-u-v.true)

pub returns-else-u-v : goal.returns-else-u-v
returns-else-u-v c = rw (le-ltb _ _ c.if-u-v.false) c.saturating_sub.ensures
