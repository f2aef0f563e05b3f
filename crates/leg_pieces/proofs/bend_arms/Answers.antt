-- `bend_arms` gives the arms toward both neighbours.
use borrow.Author.Rules.{rules}
use Rattle.leg_pieces.proofs.Laws.{both_arms}
use Rattle.leg_pieces.proofs.bend_arms.Goals as goal

pub returns : goal.returns
returns c = search (both_arms, rules)
