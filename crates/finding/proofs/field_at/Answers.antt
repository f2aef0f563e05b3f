-- `field_at` is the field at a place of an image.
use Rattle.finding.proofs.field_at.Goals as goal

pub returns : goal.returns
returns c = rw (c.field_at.ensures, c.tables_of.ensures.value)
