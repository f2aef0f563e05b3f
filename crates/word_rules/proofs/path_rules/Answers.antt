-- `path_rules` gives the rules of a, b and c for a path.
use Rattle.std.proofs.Common.{arith}
use Rattle.std.proofs.lemmas.Grind.{common_steps}
use Rattle.word_rules.specs.Rules.{path_rules}
use Rattle.word_rules.proofs.path_rules.Goals as goal

pub returns-in-1 : goal.returns-in-1
unfolding path_rules
returns-in-1 c = rw c.in-1.is

pub returns-in-2 : goal.returns-in-2
unfolding path_rules
returns-in-2 c = rw c.in-2.is

pub returns-in-3 : goal.returns-in-3
unfolding path_rules
returns-in-3 c = rw c.in-3.is

pub returns-in-4 : goal.returns-in-4
unfolding path_rules
returns-in-4 c = rw c.in-4.is

pub returns-in_default : goal.returns-in_default
unfolding path_rules
returns-in_default c = grind (arith, common_steps)
