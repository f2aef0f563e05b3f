-- `low_in` finds the first corner of an edge that lies below 0.
use Rattle.low_corner.proofs.Laws.{low_multi}
use Rattle.low_corner.proofs.Laws.{low_none}
use Rattle.low_corner.proofs.low_in.Goals as goal

pub returns : goal.returns
returns c = low_multi _ _ _ _ _ _ c.in-MultiSegment.is c.low_leg.ensures

pub returns-in_default : goal.returns-in_default
returns-in_default c = low_none _ _ _ c.in_default.not-MultiSegment
