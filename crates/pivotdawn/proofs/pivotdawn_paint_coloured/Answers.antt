-- `pivotdawn_paint_coloured` answers the code of the band, and stores its place.
use Rattle.pivotdawn.proofs.Told.{band_code, band_words}
use Rattle.pivotdawn.proofs.pivotdawn_paint_coloured.Goals as goal

pub returns-clause-value : goal.returns-clause-value
returns-clause-value c = band_code _ _ c.paint_coloured-coloured.ensures.value

pub returns-clause-cells_after : goal.returns-clause-cells_after
returns-clause-cells_after c = c.paint_coloured-coloured.ensures.cells_after

pub returns-clause-colours_after : goal.returns-clause-colours_after
returns-clause-colours_after c = c.paint_coloured-coloured.ensures.colours_after

pub returns-clause-stamps_after : goal.returns-clause-stamps_after
returns-clause-stamps_after c = c.paint_coloured-coloured.ensures.stamps_after

pub returns-clause-scratch_after : goal.returns-clause-scratch_after
returns-clause-scratch_after c = c.paint_coloured-coloured.ensures.scratch_after

pub returns-clause-answer_after : goal.returns-clause-answer_after
returns-clause-answer_after c =
    let answer = band_words _ _ c.paint_coloured-coloured.ensures.value c.args.answer.now _ c.store.ensures in
    answer
