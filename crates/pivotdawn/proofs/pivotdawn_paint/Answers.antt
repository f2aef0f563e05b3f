-- `pivotdawn_paint` answers the code of the band, and stores its place.
use Rattle.pivotdawn.proofs.Told.{band_code, band_words}
use Rattle.pivotdawn.proofs.pivotdawn_paint.Goals as goal

pub returns-clause-value : goal.returns-clause-value
returns-clause-value c = band_code _ _ c.paint-plain.ensures.value

pub returns-clause-cells_after : goal.returns-clause-cells_after
returns-clause-cells_after c = c.paint-plain.ensures.cells_after

pub returns-clause-scratch_after : goal.returns-clause-scratch_after
returns-clause-scratch_after c = c.paint-plain.ensures.scratch_after

pub returns-clause-answer_after : goal.returns-clause-answer_after
returns-clause-answer_after c =
    let answer = band_words _ _ c.paint-plain.ensures.value c.args.answer.now _ c.store.ensures in
    answer
