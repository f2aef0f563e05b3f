-- `element_rule` is the rule of an element's field.
use Rattle.std.proofs.Common.{arith}
use Rattle.std.proofs.lemmas.Grind.{common_steps}
use Rattle.word_rules.specs.Rules.{element_rule}
use Rattle.word_rules.proofs.element_rule.Goals as goal

pub returns-in-0 : goal.returns-in-0
unfolding element_rule
returns-in-0 c = rw c.in-0.is

pub returns-in-1 : goal.returns-in-1
unfolding element_rule
returns-in-1 c = rw (c.index_rule.ensures, c.from.ensures, c.in-1.is)

pub returns-in_default : goal.returns-in_default
unfolding element_rule
returns-in_default c = grind (arith, common_steps)
