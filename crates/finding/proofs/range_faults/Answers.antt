-- `range_faults` tells which rules a range of an image breaks.
use Rattle.finding.proofs.range_faults.Goals as goal

pub returns : goal.returns
returns c = rw (c.range_faults_in.ensures, c.table_words.ensures, c.tables_of-ts.ensures.value)
