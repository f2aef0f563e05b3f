-- `bad_path` finds the first of an edge's a, b and c that breaks the rule of its path.
use Rattle.header.specs.InTurn.{or_words}
use Rattle.edge_rules.proofs.bad_path.Goals as goal

pub returns : goal.returns
unfolding or_words
returns c =
    rw (
      c.or_unless.ensures,
      c.or_unless-bad_b.ensures,
      c.or_unless-bad_a.ensures,
      c.path_at-good.ensures,
    )
