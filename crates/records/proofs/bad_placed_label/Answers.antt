-- `bad_placed_label` finds the first word of a placed label that breaks its rule.
use Rattle.header.specs.InTurn.{or_words}
use Rattle.records.specs.Records.{placed_label_rules}
use Rattle.header.proofs.InTurn.{in_turn}
use Rattle.records.proofs.bad_placed_label.Goals as goal

pub returns : goal.returns
unfolding placed_label_rules or_words
returns c = in_turn _ _ _ _ (rw (c.clear.ensures, c.at_most-y.ensures, c.at_most-x.ensures, c.below-edge.ensures))
