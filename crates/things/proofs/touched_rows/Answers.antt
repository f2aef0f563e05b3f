-- `touched_rows` gives the rows that a thing touches.
use borrow.Author.Rules.{rules}
use Rattle.things.proofs.Laws.{shown, of_kind}
use Rattle.things.proofs.touched_rows.Goals as goal

pub node_touched-requires : goal.node_touched-requires
node_touched-requires c = search (shown, rules)

pub returns-in-Node : goal.returns-in-Node
returns-in-Node c = search (of_kind, rules)

pub returns-in-Edge : goal.returns-in-Edge
returns-in-Edge c = search (of_kind, rules)

pub returns-in-Subgraph : goal.returns-in-Subgraph
returns-in-Subgraph c = search (of_kind, rules)
