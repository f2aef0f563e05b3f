-- `end_head` gives the arrow one cell before the end.
use borrow.Author.Rules.{rules}
use Rattle.flow.proofs.Laws.{end_made}
use Rattle.flow.proofs.end_head.Goals as goal

pub returns : goal.returns
returns c = search (end_made, rules)
