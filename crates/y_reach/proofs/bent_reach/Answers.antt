-- `bent_reach` joins what a way reaches that bends once.
use borrow.Author.Rules.{rules}
use Rattle.y_reach.proofs.Reached.{bent_joined}
use Rattle.y_reach.proofs.bent_reach.Goals as goal

pub returns : goal.returns
returns c = (
  bent_joined _ _ _ _ _ _ _ _ _ _ _ _ _
      c.with_vertical.ensures.0
      c.crossing_reach-crossed.ensures.0
      c.with_row_if-start.ensures.0
      (search rules),
  search rules,
)
