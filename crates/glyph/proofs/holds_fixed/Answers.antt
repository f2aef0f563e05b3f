-- `holds_fixed` tells whether a range holds one of the four characters whose width is fixed.
use Rattle.glyph.specs.Ranges.{holds_fixed}
use Rattle.glyph.proofs.holds_fixed.Goals as goal

pub returns : goal.returns
unfolding holds_fixed
returns c =
    rw (
      c.holds.ensures,
      c.holds-2.ensures,
      c.holds-3.ensures,
      c.holds-4.ensures,
    )
