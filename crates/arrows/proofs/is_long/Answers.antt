-- `is_long` tells a leg of length 2 or more.
use Rattle.arrows.proofs.is_long.Goals as goal

pub returns : goal.returns
returns c = rw (c.apart.ensures.0, c.apart-2.ensures.0)
