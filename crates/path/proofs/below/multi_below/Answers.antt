-- `multi_below` says whether some leg has a corner below 0. The invariant: what is found of the legs left is what is found of all.
use borrow.Author.Rules.{rules}
use Rattle.path.proofs.Multi.{look_begins, look_finds, look_turns, look_ends}
use Rattle.path.proofs.below.multi_below.Goals as goal

pub loop-k-init : goal.loop-k-init
loop-k-init c = rw c.source_point-a.ensures (look_begins _ _ _)

pub returns-then-leg_below : goal.returns-then-leg_below
returns-then-leg_below c =
    look_finds _ _ _ _ _ c.loop-k.invariant c.point_at-b.result _ _
    c.leg_below.ensures (search rules) (search rules) (search rules) (search rules)

pub loop-k-preserved : goal.loop-k-preserved
loop-k-preserved c =
    look_turns _ _ _ _ _ c.loop-k.invariant _ _ _ c.leg_below.ensures
    (search rules) (search rules) (search rules) (search rules)

pub returns : goal.returns
returns c =
    look_ends _ _ _ _ _ c.loop-k.invariant c.target_point.result _ _
    c.leg_below-2.ensures (search rules) (search rules) (search rules)
