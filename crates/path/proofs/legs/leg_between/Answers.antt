-- `leg_between` is the leg from a point to another.
use borrow.Author.Rules.{rules}
use Rattle.path.proofs.Laws.{leg_of}
use Rattle.path.proofs.legs.leg_between.Goals as goal

pub returns : goal.returns
returns c = (search (leg_of, rules), search rules)
