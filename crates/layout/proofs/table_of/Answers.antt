-- `table_of` gives a kind's table, and that it is small.
use borrow.Author.Rules.{rules}
use Rattle.layout.proofs.table_of.Goals as goal

pub returns-in-Node : goal.returns-in-Node
returns-in-Node c = (rw c.in-Node.is, search rules)

pub returns-in-Edge : goal.returns-in-Edge
returns-in-Edge c = (rw c.in-Edge.is, search rules)

pub returns-in-Subgraph : goal.returns-in-Subgraph
returns-in-Subgraph c = (rw c.in-Subgraph.is, search rules)

pub returns-in-PlacedLabel : goal.returns-in-PlacedLabel
returns-in-PlacedLabel c = (rw c.in-PlacedLabel.is, search rules)

pub returns-in-Element : goal.returns-in-Element
returns-in-Element c = (rw c.in-Element.is, search rules)

pub returns-in-Point : goal.returns-in-Point
returns-in-Point c = (rw c.in-Point.is, search rules)

pub returns-in-Glyph : goal.returns-in-Glyph
returns-in-Glyph c = (rw c.in-Glyph.is, search rules)

pub returns-in-Range : goal.returns-in-Range
returns-in-Range c = (rw c.in-Range.is, search rules)
