-- `merged` takes the greater of each of the four arms.
use Rattle.canvas.specs.Packed.{merged_word}
use Rattle.canvas.proofs.packed.merged.Goals as goal

pub returns : goal.returns
unfolding merged_word
returns c = rw (c.arm-up.ensures.0, c.arm-down.ensures.0, c.arm-left.ensures.0, c.arm-right.ensures.0)
