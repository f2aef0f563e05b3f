-- `pivotdawn_paint_text` answers the code of the band as text, and stores its place and how many bytes were written.
use mathlib.Core.Path.{refl}
use Rattle.pivotdawn.proofs.Told.{text_words}
use Rattle.pivotdawn.proofs.pivotdawn_paint_text.Goals as goal

pub returns : goal.returns
returns c =
    record {
      written = c.paint_text-text.result;
      painted = c.paint_text-text.ensures;
      answered = refl;
      in_words = text_words c.paint_text-text.result c.args.answer.now c.store.new.words _ c.store.ensures c.store-2.ensures;
    }
