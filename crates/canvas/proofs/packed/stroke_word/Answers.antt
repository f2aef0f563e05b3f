-- `stroke_word` packs a stroke, whose arms are read back.
use Rattle.canvas.proofs.PackedStroke.{packed_word}
use Rattle.canvas.proofs.packed.stroke_word.Goals as goal

pub returns : goal.returns
returns c = packed_word _ _ c.pack.ensures.0
