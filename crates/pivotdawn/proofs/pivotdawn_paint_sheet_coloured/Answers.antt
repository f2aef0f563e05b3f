-- `pivotdawn_paint_sheet_coloured` answers the code of the sheet, and stores its place.
use mathlib.Core.Path.{refl}
use Rattle.pivotdawn.proofs.pivotdawn_paint_sheet_coloured.Goals as goal

pub returns : goal.returns
returns c =
    record {
      outcome = c.paint_sheet_coloured-in_colour.result;
      painted = c.paint_sheet_coloured-in_colour.ensures;
      answered = refl;
      in_words = c.store.ensures;
    }
