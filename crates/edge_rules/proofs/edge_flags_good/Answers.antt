-- `edge_flags_good` tells whether an edge's flags hold a path, a weight and no spare bit.
use Rattle.edge_rules.proofs.edge_flags_good.Goals as goal

pub returns : goal.returns
returns c = rw (c.path_number.ensures, c.weight_number-weight.ensures)
