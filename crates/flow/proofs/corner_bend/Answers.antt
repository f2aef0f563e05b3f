-- `corner_bend` gives the bend of an edge with a Corner, whose numbers are 32 bits each.
use borrow.Author.Rules.{rules}
use Rattle.flow.proofs.Laws.{corner_bend_made}
use Rattle.flow.proofs.corner_bend.Goals as goal

pub returns : goal.returns
returns c = (search (corner_bend_made, rules), search rules)
