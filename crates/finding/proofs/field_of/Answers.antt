-- `field_of` is a field of a record of an image.
use Rattle.finding.proofs.field_of.Goals as goal

pub returns : goal.returns
returns c = rw (c.field.ensures, c.table_of.ensures.0, c.tables_of-ts.ensures.value)
