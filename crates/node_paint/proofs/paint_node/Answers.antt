-- `paint_node` paints a node as it looks.
use mathlib.Core.Path.{sym}
use Rattle.node_paint.proofs.Laws.{look_inked}
use Rattle.node_paint.proofs.paint_node.Goals as goal

pub returns : goal.returns
returns c = look_inked _ _ _ _ _ _ _ _ _ (sym c.look_of-look.ensures) c.paint_look.ensures
