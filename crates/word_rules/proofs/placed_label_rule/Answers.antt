-- `placed_label_rule` is the rule of a placed label's field.
use Rattle.std.proofs.Common.{arith}
use Rattle.std.proofs.lemmas.Grind.{common_steps}
use Rattle.word_rules.specs.Rules.{placed_label_rule}
use Rattle.word_rules.proofs.placed_label_rule.Goals as goal

pub returns-in-0 : goal.returns-in-0
unfolding placed_label_rule
returns-in-0 c = rw c.in-0.is

pub returns-in-3 : goal.returns-in-3
unfolding placed_label_rule
returns-in-3 c = rw c.in-3.is

pub returns-in_default : goal.returns-in_default
unfolding placed_label_rule
returns-in_default c = grind (arith, common_steps)
