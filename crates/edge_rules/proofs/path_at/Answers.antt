-- `path_at` tells of an edge's a, b and c whether each keeps the rule of its path.
use Rattle.edge_rules.proofs.path_at.Goals as goal

pub returns : goal.returns
returns c =
    rw (
      c.path_good.ensures,
      c.path_number.ensures,
      c.word_inside-flags.ensures,
      c.word_inside-c.ensures,
      c.word_inside-b.ensures,
      c.word_inside-a.ensures,
    )
