-- `Arms::has_double` says whether one of four arms is Double.
use Rattle.cell.specs.OneCell.{has_double}
use Rattle.cell.proofs.Arms.has_double.Goals as goal

pub returns : goal.returns
unfolding has_double
returns c =
    rw (
      c.is_double.ensures,
      c.is_double-2.ensures,
      c.is_double-3.ensures,
      c.is_double-4.ensures,
    )
