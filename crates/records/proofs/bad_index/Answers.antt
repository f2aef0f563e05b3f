-- `bad_index` finds an index that leaves the table of its kind.
use Rattle.records.proofs.bad_index.Goals as goal

pub returns : goal.returns
returns c = rw (c.below.ensures, c.thing_count-held.ensures, c.from-kind.ensures, c.word_inside.ensures)
