-- `paint_cells` lends on a band's part.
use Rattle.bands.proofs.Laws.{cells_lent, cells_back}
use Rattle.bands.proofs.paint_cells.Goals as goal

pub paint_selected-requires : goal.paint_selected-requires
paint_selected-requires c = (
  c.requires.keeps.0,
  c.requires.keeps.1,
  c.requires.keeps.2,
  c.requires.keeps.3,
  c.requires.keeps.4,
  cells_lent c.args.image.now c.args.top c.args.rows _ _ c.part_of-part.ensures.0 c.part_of-part.ensures.1 c.part_of-part.ensures.2 c.args.cells.now c.args.colours.now c.args.stamps.now c.args.scratch.now c.requires.cells_len.0 c.requires.cells_len.1,
)

pub returns-clause-with_band : goal.returns-clause-with_band
returns-clause-with_band c = cells_back c.args.image.now c.args.top c.args.rows _ _ c.part_of-part.ensures.0 c.part_of-part.ensures.1 c.part_of-part.ensures.2 c.args.cells.now c.args.colours.now c.args.stamps.now c.args.scratch.now c.requires.cells_len.0 c.requires.cells_len.1 _ _ _ c.paint_selected.ensures.stamps_after

pub returns-clause-scratch_len_unchanged : goal.returns-clause-scratch_len_unchanged
returns-clause-scratch_len_unchanged c = c.paint_selected.ensures.scratch_len_unchanged
