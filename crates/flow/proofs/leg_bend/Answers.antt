-- `leg_bend` gives the bend of a leg of a MultiSegment.
use borrow.Author.Rules.{rules}
use Rattle.flow.proofs.Laws.{leg_bend_made}
use Rattle.flow.proofs.leg_bend.Goals as goal

pub returns : goal.returns
returns c = (search (leg_bend_made, rules), search rules)
