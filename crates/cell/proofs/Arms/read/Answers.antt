-- `Arms::read` reads the four arms of any word.
use Rattle.cell.specs.OneCell.{read_arms}
use Rattle.cell.proofs.Arms.read.Goals as goal

pub returns : goal.returns
unfolding read_arms
returns c =
    rw (
      c.from.ensures,
      c.from-2.ensures,
      c.from-3.ensures,
      c.from-4.ensures,
    )
