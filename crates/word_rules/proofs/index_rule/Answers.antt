-- `index_rule` is the rule of an element's index, by the kind of what it lists.
use Rattle.word_rules.specs.Rules.{index_rule}
use Rattle.word_rules.proofs.index_rule.Goals as goal

pub returns-in-Node : goal.returns-in-Node
unfolding index_rule
returns-in-Node c = rw c.in-Node.is

pub returns-in-Edge : goal.returns-in-Edge
unfolding index_rule
returns-in-Edge c = rw c.in-Edge.is

pub returns-in-Subgraph : goal.returns-in-Subgraph
unfolding index_rule
returns-in-Subgraph c = rw c.in-Subgraph.is
