-- `edge_reach` gives the first and the last row of a window that an edge touches, and its runs there.
use Rattle.path.specs.Pieces.{pieces_of}
use Rattle.path.proofs.Theorems.{pieces_reached}
use Rattle.path.proofs.reach.edge_reach.Goals as goal

pub returns-in-Direct : goal.returns-in-Direct
unfolding pieces_of
returns-in-Direct c = pieces_reached _ _ _ _ _ c.in-Direct.is c.direct_reach.ensures

pub returns-in-Corner : goal.returns-in-Corner
unfolding pieces_of
returns-in-Corner c = pieces_reached _ _ _ _ _ c.in-Corner.is c.corner_reach.ensures

pub returns-in-SideChannel : goal.returns-in-SideChannel
unfolding pieces_of
returns-in-SideChannel c = pieces_reached _ _ _ _ _ c.in-SideChannel.is c.side_reach.ensures

pub returns-in-MultiSegment : goal.returns-in-MultiSegment
unfolding pieces_of
returns-in-MultiSegment c = pieces_reached _ _ _ _ _ c.in-MultiSegment.is c.multi_reach.ensures

pub returns-in-Orthogonal : goal.returns-in-Orthogonal
unfolding pieces_of
returns-in-Orthogonal c = pieces_reached _ _ _ _ _ c.in-Orthogonal.is c.orthogonal_reach.ensures

pub returns-in-Spline : goal.returns-in-Spline
unfolding pieces_of
returns-in-Spline c = pieces_reached _ _ _ _ _ c.in-Spline.is c.direct_reach-in-Spline.ensures
