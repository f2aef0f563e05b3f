-- `self_loop_of` gives the self-loop that a node's flags and two words say.
use Rattle.image.specs.Records.{self_loop_of}
use Rattle.image.proofs.self_loop_of.Goals as goal

pub returns : goal.returns
unfolding self_loop_of
returns c = rw (c.then_some.ensures, c.flag.ensures)
