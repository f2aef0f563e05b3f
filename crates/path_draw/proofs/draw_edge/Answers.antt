-- `draw_edge` draws an edge, by its path.
use Rattle.path.specs.Pieces.{pieces_of}
use Rattle.path_draw.proofs.Laws.{path_drawn, path_inked}
use Rattle.path_draw.proofs.draw_edge.Goals as goal

pub returns-in-Direct : goal.returns-in-Direct
unfolding pieces_of
returns-in-Direct c = path_inked _ _ _ _ _ _ c.in-Direct.is _ _ _ _ c.requires.0.room c.draw_direct.ensures

pub returns-in-Corner : goal.returns-in-Corner
unfolding pieces_of
returns-in-Corner c = path_drawn _ _ _ _ _ _ c.in-Corner.is _ _ c.draw_corner.ensures

pub returns-in-SideChannel : goal.returns-in-SideChannel
unfolding pieces_of
returns-in-SideChannel c = path_drawn _ _ _ _ _ _ c.in-SideChannel.is _ _ c.draw_side.ensures

pub returns-in-MultiSegment : goal.returns-in-MultiSegment
unfolding pieces_of
returns-in-MultiSegment c = path_drawn _ _ _ _ _ _ c.in-MultiSegment.is _ _ c.draw_multi.ensures

pub returns-in-Orthogonal : goal.returns-in-Orthogonal
unfolding pieces_of
returns-in-Orthogonal c = path_inked _ _ _ _ _ _ c.in-Orthogonal.is _ _ _ _ c.requires.0.room c.draw_orthogonal.ensures

pub returns-in-Spline : goal.returns-in-Spline
unfolding pieces_of
returns-in-Spline c = path_inked _ _ _ _ _ _ c.in-Spline.is _ _ _ _ c.requires.0.room c.draw_direct-in-Spline.ensures
