-- `with_rows` joins rows more.
use mathlib.Core.Path.{refl}
use Rattle.flow.specs.Reach.{with_rows}
use Rattle.touch.proofs.with_rows.Goals as goal

pub returns : goal.returns
unfolding with_rows
returns c = (rw c.join.ensures, refl)
