-- `holds_glyph` tells whether a label holds a glyph.
use Rattle.glyph_owner.proofs.holds_glyph.Goals as goal

pub returns : goal.returns
returns c = rw (c.number-count.ensures.0, c.number-start.ensures.0)
