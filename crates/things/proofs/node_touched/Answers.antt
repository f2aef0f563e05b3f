-- `node_touched` gives the rows that a node touches.
use borrow.Author.Rules.{rules}
use Rattle.things.proofs.Laws.{node_touched}
use Rattle.things.proofs.node_touched.Goals as goal

pub returns : goal.returns
returns c = search (node_touched, rules)
