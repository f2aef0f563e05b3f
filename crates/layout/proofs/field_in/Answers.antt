-- `field_in` is the record and the field at a place of its table.
use Rattle.layout.proofs.field_in.Goals as goal

pub returns : goal.returns
returns c = rw c.minus-words.ensures
