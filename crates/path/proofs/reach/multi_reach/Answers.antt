-- `multi_reach` gives what a MultiSegment reaches, leg by leg. The invariant: what is reached, with the legs left, is all.
use borrow.Author.Rules.{rules}
use Rattle.path.proofs.Multi.{reach_begins, reach_turns, reach_ends}
use Rattle.path.proofs.reach.multi_reach.Goals as goal

pub loop-k-init : goal.loop-k-init
loop-k-init c = rw (c.no_reach-reach.ensures, c.source_point-a.ensures) (reach_begins _ _ _ _)

pub loop-k-preserved : goal.loop-k-preserved
loop-k-preserved c =
    reach_turns _ _ _ _ _ _ _ c.loop-k.invariant _ _ c.leg_reach-reach.ensures.0 _ (search rules) (search rules)
    (search rules) (search rules)

pub returns : goal.returns
returns c =
    reach_ends _ _ _ _ _ _ _ c.loop-k.invariant _ _ c.leg_reach.ensures.0
    c.target_point.result (search rules) (search rules) (search rules)
