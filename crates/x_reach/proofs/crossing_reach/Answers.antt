-- `crossing_reach` joins the rows of a crossing.
use borrow.Author.Rules.{rules}
use mathlib.Core.Path.{refl}
use Rattle.x_reach.proofs.Reached.{crossing_none, crossing_joined}
use Rattle.x_reach.proofs.crossing_reach.Goals as goal

pub returns-then-y1-y2 : goal.returns-then-y1-y2
returns-then-y1-y2 c = (crossing_none _ _ _ _ c.if-y1-y2.true, refl)

pub returns : goal.returns
returns c = (search (crossing_joined, rules), c.with_rows.ensures.1)
