-- `corner` gives the arms of a corner.
use borrow.Author.Rules.{rules}
use Rattle.flow.proofs.Laws.{corner_made}
use Rattle.flow.proofs.corner.Goals as goal

pub returns : goal.returns
returns c = search (corner_made, rules)
