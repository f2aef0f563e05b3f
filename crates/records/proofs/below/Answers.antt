-- `below` finds an index that leaves its table.
use Rattle.records.proofs.below.Goals as goal

pub returns : goal.returns
returns c = rw (c.or_unless.ensures, c.number.ensures.0, c.word_inside.ensures)
