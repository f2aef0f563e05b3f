-- `bad_node` finds the first word of a node that breaks its rule.
use Rattle.header.specs.InTurn.{or_words}
use Rattle.records.specs.Records.{node_rules}
use Rattle.header.proofs.InTurn.{in_turn}
use Rattle.records.proofs.bad_node.Goals as goal

pub returns : goal.returns
unfolding node_rules or_words
returns c =
    in_turn _ _ _ _
    (rw (c.bad_loop.ensures, c.clear-flags.ensures, c.inside-label.ensures, c.four_at_most-extent.ensures))
