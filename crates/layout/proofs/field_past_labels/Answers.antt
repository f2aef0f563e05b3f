-- `field_past_labels` is the field of the first table past the placed labels whose end lies past the place.
use Rattle.layout.specs.Fields.{field_past_labels}
use Rattle.layout.proofs.field_past_labels.Goals as goal

pub returns : goal.returns
unfolding field_past_labels
returns c =
    rw (
      c.field_in_or.ensures,
      c.field_in_or-points.ensures,
      c.field_in_or-glyphs.ensures,
      c.field_in_or-ranges.ensures,
    )
