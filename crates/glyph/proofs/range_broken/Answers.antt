-- `range_broken` tells whether a range breaks the rule.
use Rattle.glyph.specs.Ranges.{range_broken}
use Rattle.glyph.proofs.range_broken.Goals as goal

pub returns : goal.returns
unfolding range_broken
returns c = rw (c.not_above.ensures, c.holds_fixed.ensures)
