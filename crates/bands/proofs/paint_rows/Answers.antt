-- `paint_rows` paints by the planes that are lent.
use Rattle.bands.proofs.Laws.{both_lent, as_told}
use Rattle.bands.proofs.paint_rows.Goals as goal

pub paint_planes-requires-clause-keeps : goal.paint_planes-requires-clause-keeps
paint_planes-requires-clause-keeps c = c.requires.keeps

pub paint_planes-requires-clause-cells_len : goal.paint_planes-requires-clause-cells_len
paint_planes-requires-clause-cells_len c =
    let both = both_lent _ _ _ _ c.in-All.is c.requires.cells_len.1 in
    (c.requires.cells_len.0, both.0, both.1, c.requires.cells_len.2)

pub returns-in-Cells-clause-with_band : goal.returns-in-Cells-clause-with_band
returns-in-Cells-clause-with_band c = as_told c.args.image.now _ _ c.args.top c.args.rows c.args.cells.now c.args.colours.now c.args.stamps.now _ _ _ c.in-Cells.is c.paint_cells.ensures.with_band

pub returns-in-Cells-clause-scratch_len_unchanged : goal.returns-in-Cells-clause-scratch_len_unchanged
returns-in-Cells-clause-scratch_len_unchanged c = c.paint_cells.ensures.scratch_len_unchanged

pub returns-in-All-clause-with_band : goal.returns-in-All-clause-with_band
returns-in-All-clause-with_band c = as_told c.args.image.now _ _ c.args.top c.args.rows c.args.cells.now c.args.colours.now c.args.stamps.now _ _ _ c.in-All.is c.paint_planes.ensures.with_band

pub returns-in-All-clause-scratch_len_unchanged : goal.returns-in-All-clause-scratch_len_unchanged
returns-in-All-clause-scratch_len_unchanged c = c.paint_planes.ensures.scratch_len_unchanged
