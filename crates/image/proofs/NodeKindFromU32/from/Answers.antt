-- `NodeKind::from` gives the kind that a number stands for.
use Rattle.std.proofs.Common.{arith}
use Rattle.std.proofs.lemmas.Grind.{common_steps}
use Rattle.image.specs.Records.{node_kind_of}
use Rattle.image.proofs.NodeKindFromU32.from.Goals as goal

pub returns-in-0 : goal.returns-in-0
unfolding node_kind_of
returns-in-0 c = rw c.in-0.is

pub returns-in-1 : goal.returns-in-1
unfolding node_kind_of
returns-in-1 c = rw c.in-1.is

pub returns-in-2 : goal.returns-in-2
unfolding node_kind_of
returns-in-2 c = rw c.in-2.is

pub returns-in_default : goal.returns-in_default
unfolding node_kind_of
returns-in_default c = grind (arith, common_steps)
