-- `glyphs_part` paints in the part of the cells that is the row.
use Rattle.window.proofs.Laws.{put_back}
use Rattle.text.proofs.glyphs_part.Goals as goal

pub returns-clause-cells_after : goal.returns-clause-cells_after
returns-clause-cells_after c = put_back _ _ _ _ _ c.glyphs_in.ensures.row_after
