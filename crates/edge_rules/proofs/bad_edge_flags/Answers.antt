-- `bad_edge_flags` finds an edge's flags that break their rule.
use Rattle.edge_rules.proofs.bad_edge_flags.Goals as goal

pub returns : goal.returns
returns c = rw (c.or_unless.ensures, c.edge_flags_good.ensures, c.word_inside.ensures)
