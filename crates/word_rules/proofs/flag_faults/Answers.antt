-- `flag_faults` tells which parts of an edge's flags break their rule.
use Rattle.word_rules.proofs.flag_faults.Goals as goal

pub returns : goal.returns
returns c = rw (c.path_number.ensures, c.weight_number.ensures)
