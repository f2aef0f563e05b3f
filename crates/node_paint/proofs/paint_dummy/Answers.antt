-- `paint_dummy` paints a dummy's marker.
use Rattle.node_paint.proofs.Laws.{inked_at}
use Rattle.node_paint.proofs.paint_dummy.Goals as goal

pub returns : goal.returns
returns c = inked_at _ _ _ _ _ _ _ _ _ _ c.number.ensures.0 c.number-2.ensures.0 c.marker_at.ensures
