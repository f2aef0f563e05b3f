-- `bad_subgraph` finds the first word of a subgraph that breaks its rule.
use Rattle.header.specs.InTurn.{or_words}
use Rattle.records.specs.Records.{subgraph_rules}
use Rattle.header.proofs.InTurn.{in_turn}
use Rattle.records.proofs.bad_subgraph.Goals as goal

pub returns : goal.returns
unfolding subgraph_rules or_words
returns c = in_turn _ _ _ _ (rw (c.clear.ensures, c.inside-label.ensures, c.four_at_most-extent.ensures))
