-- `begin_walk` stands at the source.
use Rattle.orthogonal.specs.Walk.{begin_walk}
use Rattle.orthogonal.proofs.walk.begin_walk.Goals as goal

pub returns : goal.returns
unfolding begin_walk
returns c = cc
