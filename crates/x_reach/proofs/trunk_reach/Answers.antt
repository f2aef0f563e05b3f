-- `trunk_reach` joins a trunk, where there is one.
use mathlib.Core.Path.{refl}
use Rattle.flow.proofs.Reached.{with_rows_if, with_rows_unless}
use Rattle.x_reach.proofs.trunk_reach.Goals as goal

pub returns-then-has_trunk : goal.returns-then-has_trunk
returns-then-has_trunk c = (with_rows_if _ _ _ _ c.with_horizontal.ensures.0 c.if-has_trunk.true, c.with_horizontal.ensures.1)

pub returns-else-has_trunk : goal.returns-else-has_trunk
returns-else-has_trunk c = (with_rows_unless _ _ _ c.if-has_trunk.false, refl)
