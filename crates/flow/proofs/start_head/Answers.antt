-- `start_head` gives the arrow one cell from the start.
use borrow.Author.Rules.{rules}
use Rattle.flow.proofs.Laws.{start_made}
use Rattle.flow.proofs.start_head.Goals as goal

pub returns : goal.returns
returns c = search (start_made, rules)
