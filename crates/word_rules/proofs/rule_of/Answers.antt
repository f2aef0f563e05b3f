-- `rule_of` is the rule of a field of a record of any kind.
use borrow.Author.Rules.{rules}
use Rattle.word_rules.specs.Rules.{word_rule}
use Rattle.word_rules.proofs.Laws.{of_node, of_edge, of_subgraph, of_label, of_element, of_range}
use Rattle.word_rules.proofs.rule_of.Goals as goal

pub returns-in-Node : goal.returns-in-Node
unfolding word_rule
returns-in-Node c = search (of_node, rules)

pub returns-in-Edge : goal.returns-in-Edge
unfolding word_rule
returns-in-Edge c = search (of_edge, rules)

pub returns-in-Subgraph : goal.returns-in-Subgraph
unfolding word_rule
returns-in-Subgraph c = search (of_subgraph, rules)

pub returns-in-PlacedLabel : goal.returns-in-PlacedLabel
unfolding word_rule
returns-in-PlacedLabel c = search (of_label, rules)

pub returns-in-Element : goal.returns-in-Element
unfolding word_rule
returns-in-Element c = search (of_element, rules)

pub returns-in-Point : goal.returns-in-Point
unfolding word_rule
returns-in-Point c = rw c.in-Point.is

pub returns-in-Glyph : goal.returns-in-Glyph
unfolding word_rule
returns-in-Glyph c = rw c.in-Glyph.is

pub returns-in-Range : goal.returns-in-Range
unfolding word_rule
returns-in-Range c = search (of_range, rules)
