-- `direct_reach` joins what a Direct edge reaches.
use borrow.Author.Rules.{rules}
use Rattle.x_reach.proofs.Reached.{direct_reached}
use Rattle.x_reach.proofs.direct_reach.Goals as goal

pub returns : goal.returns
returns c = (search (direct_reached, rules), search rules)
