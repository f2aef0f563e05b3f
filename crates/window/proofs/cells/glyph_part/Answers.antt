-- `glyph_part` writes into its part of the cells.
use Rattle.window.specs.Writes.{ink_on}
use Rattle.window.proofs.Laws.{put_back}
use Rattle.window.proofs.cells.glyph_part.Goals as goal

pub returns : goal.returns
unfolding ink_on
returns c = put_back _ _ _ _ _ c.text.ensures
