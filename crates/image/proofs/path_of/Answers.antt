-- `path_of` gives the path that an edge's flags and three words say.
use Rattle.std.proofs.Common.{arith}
use Rattle.std.proofs.lemmas.Grind.{common_steps}
use Rattle.image.specs.Records.{path_of}
use Rattle.image.proofs.path_of.Goals as goal

pub returns-in-1 : goal.returns-in-1
unfolding path_of
returns-in-1 c = rw (← c.bits.ensures, c.in-1.is)

pub returns-in-2 : goal.returns-in-2
unfolding path_of
returns-in-2 c = rw (← c.bits.ensures, c.in-2.is)

pub returns-in-3 : goal.returns-in-3
unfolding path_of
returns-in-3 c = rw (← c.bits.ensures, c.in-3.is)

pub returns-in-4 : goal.returns-in-4
unfolding path_of
returns-in-4 c = rw (← c.bits.ensures, c.in-4.is)

pub returns-in-5 : goal.returns-in-5
unfolding path_of
returns-in-5 c = rw (← c.bits.ensures, c.in-5.is)

pub returns-in_default : goal.returns-in_default
unfolding path_of
returns-in_default c = grind (arith, common_steps)
