-- `Arms::max` gives the heavier weight of each arm.
use Rattle.cell.specs.OneCell.{heavier_arms}
use Rattle.cell.proofs.Arms.max.Goals as goal

pub returns : goal.returns
unfolding heavier_arms
returns c =
    rw (
      c.max.ensures,
      c.max-2.ensures,
      c.max-3.ensures,
      c.max-4.ensures,
    )
