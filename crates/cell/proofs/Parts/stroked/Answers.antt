-- `Parts::stroked` lays a stroke on each kind of parts, as the rule says.
use Rattle.cell.specs.OneCell.{stroked}
use Rattle.cell.proofs.Laws.{stroked_over, stroked_kept}
use Rattle.cell.proofs.Parts.stroked.Goals as goal

pub returns-in-Empty : goal.returns-in-Empty
unfolding stroked
returns-in-Empty c = rw c.in-Empty.is

pub returns-in-Stroke : goal.returns-in-Stroke
unfolding stroked
returns-in-Stroke c = rw (c.in-Stroke.is, c.max.ensures)

pub returns-then-has_double : goal.returns-then-has_double
returns-then-has_double c = stroked_over _ _ c.has_double.ensures _ _ c.in_default.not-Empty c.in_default.not-Stroke c.if-has_double.true c.double_on.ensures

pub returns-else-has_double : goal.returns-else-has_double
returns-else-has_double c = stroked_kept _ _ c.has_double.ensures _ c.in_default.not-Empty c.in_default.not-Stroke c.if-has_double.false
