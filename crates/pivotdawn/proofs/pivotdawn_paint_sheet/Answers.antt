-- `pivotdawn_paint_sheet` answers the code of the sheet, and stores its place.
use mathlib.Core.Path.{refl}
use Rattle.pivotdawn.proofs.pivotdawn_paint_sheet.Goals as goal

pub returns : goal.returns
returns c =
    record {
      outcome = c.paint_sheet-sheet.result;
      painted = c.paint_sheet-sheet.ensures;
      answered = refl;
      in_words = c.store.ensures;
    }
