-- `label_of` is the label of a thing of a kind.
use borrow.Author.Rules.{rules}
use Rattle.glyph_owner.proofs.Laws.{of_node, of_edge, of_subgraph}
use Rattle.glyph_owner.proofs.label_of.Goals as goal

pub returns-in-Node : goal.returns-in-Node
returns-in-Node c = search (of_node, rules)

pub returns-in-Edge : goal.returns-in-Edge
returns-in-Edge c = search (of_edge, rules)

pub returns-in-Subgraph : goal.returns-in-Subgraph
returns-in-Subgraph c = search (of_subgraph, rules)
