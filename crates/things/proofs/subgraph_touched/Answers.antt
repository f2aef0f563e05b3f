-- `subgraph_touched` gives the rows that a subgraph touches.
use borrow.Author.Rules.{rules}
use Rattle.things.proofs.Laws.{subgraph_touched}
use Rattle.things.proofs.subgraph_touched.Goals as goal

pub returns : goal.returns
returns c = search (subgraph_touched, rules)
