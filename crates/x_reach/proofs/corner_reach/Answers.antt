-- `corner_reach` joins what an edge with a Corner reaches.
use borrow.Author.Rules.{rules}
use Rattle.x_reach.proofs.Reached.{corner_reached}
use Rattle.x_reach.proofs.corner_reach.Goals as goal

pub returns : goal.returns
returns c = (search (corner_reached, rules), search rules)
