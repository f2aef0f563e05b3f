-- `thing_count` is how many things of a kind there are.
use borrow.Author.Rules.{rules}
use Rattle.glyph_owner.proofs.thing_count.Goals as goal

pub returns-in-Node : goal.returns-in-Node
returns-in-Node c = (rw c.in-Node.is, search rules)

pub returns-in-Edge : goal.returns-in-Edge
returns-in-Edge c = (rw c.in-Edge.is, search rules)

pub returns-in-Subgraph : goal.returns-in-Subgraph
returns-in-Subgraph c = (rw c.in-Subgraph.is, search rules)
