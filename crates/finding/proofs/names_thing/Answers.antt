-- `names_thing` tells whether an element names a thing.
use Rattle.finding.proofs.names_thing.Goals as goal

pub returns : goal.returns
returns c = rw (c.number.ensures.0, c.field-number.ensures, c.field-named.ensures)
