-- `pass_point` skips a point that repeats the last stop, and else joins the rows of the leg to it.
use borrow.Author.Rules.{rules}
use Rattle.orthogonal_reach.proofs.Passing.{pass_repeated, pass_leg}
use Rattle.orthogonal_reach.proofs.pass_point.Goals as goal

pub returns-then-same_point : goal.returns-then-same_point
returns-then-same_point c = search (pass_repeated, rules)

pub returns : goal.returns
returns c = search (pass_leg, rules)
