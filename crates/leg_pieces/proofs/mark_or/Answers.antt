-- `mark_or` gives the arrow in a cell, or else what is drawn there.
use borrow.Author.Rules.{rules}
use Rattle.orthogonal.proofs.Laws.{mark_none, mark_here, mark_beside, mark_above}
use Rattle.leg_pieces.proofs.mark_or.Goals as goal

pub returns-in-Some : goal.returns-in-Some
returns-in-Some c = mark_here _ _ _ _ _ c.in-Some.is (search rules) (search rules)

pub returns-in_default : goal.returns-in_default
returns-in_default c = mark_above _ _ _ _ _ c.in-Some.is c.if-m-x.true c.if-m-y.false

pub returns-in_default-2 : goal.returns-in_default-2
returns-in_default-2 c = mark_beside _ _ _ _ _ c.in-Some.is c.if-m-x.false

pub returns-in_default-3 : goal.returns-in_default-3
returns-in_default-3 c = mark_none _ _ _ _ c.in_default.is
