-- `with_row_if` joins a row more, where it is touched.
use mathlib.Core.Path.{refl}
use Rattle.flow.proofs.Reached.{with_rows_if, with_rows_unless}
use Rattle.touch.proofs.with_row_if.Goals as goal

pub returns-then-touched : goal.returns-then-touched
returns-then-touched c =
    let joined = rw c.clip.ensures at c.with_rows.ensures.0 in
    (with_rows_if _ _ _ _ joined c.if-touched.true, c.with_rows.ensures.1)

pub returns-else-touched : goal.returns-else-touched
returns-else-touched c = (with_rows_unless _ _ _ c.if-touched.false, refl)
