-- `corner_below` says whether a corner of an edge lies below 0.
use Rattle.path.proofs.Laws.{legs_below}
use Rattle.path.proofs.Laws.{none_below}
use Rattle.path.proofs.below.corner_below.Goals as goal

pub returns : goal.returns
returns c = legs_below _ _ _ _ _ _ c.in-MultiSegment.is c.multi_below.ensures

pub returns-in_default : goal.returns-in_default
returns-in_default c = none_below _ _ _ c.in_default.not-MultiSegment
