-- `path_good` tells of a, b and c whether each keeps the rule of the path.
use Rattle.std.proofs.Common.{arith}
use Rattle.std.proofs.lemmas.Grind.{common_steps}
use Rattle.edge_rules.specs.Edge.{path_good}
use Rattle.edge_rules.proofs.path_good.Goals as goal

pub returns-in-1 : goal.returns-in-1
unfolding path_good
returns-in-1 c = rw c.in-1.is

pub returns-in-2 : goal.returns-in-2
unfolding path_good
returns-in-2 c = rw c.in-2.is

pub returns-in-3 : goal.returns-in-3
unfolding path_good
returns-in-3 c = rw (c.span_good.ensures, c.in-3.is)

pub returns-in-4 : goal.returns-in-4
unfolding path_good
returns-in-4 c = rw (c.span_good-in-4.ensures, c.in-4.is)

pub returns-in_default : goal.returns-in_default
unfolding path_good
returns-in_default c = grind (arith, common_steps)
