-- `node_rule` is the rule of a node's field.
use Rattle.std.proofs.Common.{arith}
use Rattle.std.proofs.lemmas.Grind.{common_steps}
use Rattle.word_rules.specs.Rules.{node_rule}
use Rattle.word_rules.proofs.node_rule.Goals as goal

pub returns-in-4 : goal.returns-in-4
unfolding node_rule
returns-in-4 c = rw (c.word.ensures, c.in-4.is)

pub returns-in-5 : goal.returns-in-5
unfolding node_rule
returns-in-5 c = rw c.in-5.is

pub returns-in-6 : goal.returns-in-6
unfolding node_rule
returns-in-6 c = rw c.in-6.is

pub returns-in-7 : goal.returns-in-7
unfolding node_rule
returns-in-7 c = rw (c.loop_rule.ensures, c.word-in-7.ensures) (grind (arith, common_steps))

pub returns-in_default : goal.returns-in_default
unfolding node_rule
returns-in_default c = grind (arith, common_steps)

pub returns-in_default-2 : goal.returns-in_default-2
unfolding node_rule
returns-in_default-2 c = grind (arith, common_steps)
