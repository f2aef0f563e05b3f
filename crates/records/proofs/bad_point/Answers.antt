-- `bad_point` finds the first word of a point that breaks its rule.
use Rattle.header.specs.InTurn.{or_words}
use Rattle.records.specs.Records.{point_rules}
use Rattle.header.proofs.InTurn.{in_turn}
use Rattle.records.proofs.bad_point.Goals as goal

pub returns : goal.returns
unfolding point_rules or_words
returns c = in_turn _ _ _ _ (rw (c.at_most.ensures, c.at_most-x.ensures))
