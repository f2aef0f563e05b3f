-- `edge_reach` gives what an edge touches, and its runs.
use borrow.Author.Rules.{rules}
use Rattle.things.proofs.Laws.{edge_reaches}
use Rattle.things.proofs.edge_reach.Goals as goal

pub returns : goal.returns
returns c = search (edge_reaches, rules)
