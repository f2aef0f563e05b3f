-- `leg_of` is a leg of a path.
use borrow.Author.Rules.{rules}
use Rattle.low_corner.proofs.Laws.{leg_put}
use Rattle.low_corner.proofs.leg_of.Goals as goal

pub returns : goal.returns
returns c = (search (leg_put, rules), search rules)
