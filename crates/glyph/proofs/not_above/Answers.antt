-- `not_above` tells whether a range begins no later than the last value of the one before it.
use Rattle.glyph.specs.Ranges.{not_above}
use Rattle.glyph.proofs.not_above.Goals as goal

pub returns : goal.returns
unfolding not_above
returns c = rw c.minus-before.ensures
