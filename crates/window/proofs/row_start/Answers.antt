-- `row_start` is where a row of a window begins, and the row ends in the window.
use mathlib.Core.Path.{refl}
use Rattle.window.proofs.Rows.{row_end}
use Rattle.window.proofs.Laws.{row_fits}
use Rattle.window.proofs.row_start.Goals as goal

pub overflow_mul-result : goal.overflow_mul-result
overflow_mul-result c = row_fits _ _ _ c.requires.0 c.requires.1

pub returns : goal.returns
returns c = (refl, row_end _ _ _ c.requires.0)
