-- `bad_edge` finds the first word of an edge that breaks its rule.
use Rattle.header.specs.InTurn.{or_words}
use Rattle.edge_rules.specs.Edge.{edge_rules}
use Rattle.header.proofs.InTurn.{in_turn}
use Rattle.edge_rules.proofs.bad_edge.Goals as goal

pub returns : goal.returns
unfolding edge_rules or_words
returns c =
    in_turn _ _ _ _
    (rw (
      c.bad_edge_label.ensures,
      c.bad_path-path.ensures,
      c.bad_edge_flags-flags.ensures,
      c.four_at_most-ends.ensures,
    ))
