-- `edge_rule` is the rule of an edge's field.
use Rattle.std.proofs.Common.{arith}
use Rattle.std.proofs.lemmas.Grind.{common_steps}
use borrow.Author.Rules.{rules}
use Rattle.word_rules.specs.Rules.{edge_rule}
use Rattle.word_rules.proofs.Laws.{rule_a, rule_b, rule_c, rule_start, rule_count}
use Rattle.word_rules.proofs.edge_rule.Goals as goal

pub returns-in-4 : goal.returns-in-4
unfolding edge_rule
returns-in-4 c = rw c.in-4.is

pub returns-in-5 : goal.returns-in-5
unfolding edge_rule
returns-in-5 c = search (rule_a, rules)

pub returns-in-6 : goal.returns-in-6
unfolding edge_rule
returns-in-6 c = search (rule_b, rules)

pub returns-in-7 : goal.returns-in-7
unfolding edge_rule
returns-in-7 c = search (rule_c, rules)

pub returns-in-8 : goal.returns-in-8
unfolding edge_rule
returns-in-8 c = search (rule_start, rules)

pub returns-in-9 : goal.returns-in-9
unfolding edge_rule
returns-in-9 c = search (rule_count, rules)

pub returns-in-10 : goal.returns-in-10
unfolding edge_rule
returns-in-10 c = grind (arith, common_steps)

pub returns-in_default : goal.returns-in_default
unfolding edge_rule
returns-in_default c = grind (arith, common_steps)

pub returns-in_default-2 : goal.returns-in_default-2
unfolding edge_rule
returns-in_default-2 c = grind (arith, common_steps)
