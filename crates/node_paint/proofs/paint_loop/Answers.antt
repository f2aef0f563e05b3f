-- `paint_loop` paints the marker of a self-loop, where there is one.
use Rattle.node_paint.proofs.Laws.{inked_at, no_loop}
use Rattle.node_paint.proofs.paint_loop.Goals as goal

pub returns-in_default : goal.returns-in_default
returns-in_default c = no_loop _ _ _ _ _ c.in_default.is

pub returns : goal.returns
returns c =
    rw c.in-Some.is
    (inked_at _ _ _ _ _ _ _ _ _ _ c.number.ensures.0 c.number-2.ensures.0 c.marker_at.ensures)
