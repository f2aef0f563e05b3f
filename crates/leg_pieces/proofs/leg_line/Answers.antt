-- `leg_line` is the interior of a leg, the target's arrow before the source's.
use borrow.Author.Rules.{rules}
use mathlib.Core.Path.{refl}
use Rattle.orthogonal.proofs.Laws.{on_column, on_row, on_neither}
use Rattle.leg_pieces.proofs.leg_line.Goals as goal

pub returns-then-from-to : goal.returns-then-from-to
returns-then-from-to c = on_column _ _ _ _ (search rules) c.column_line.ensures

pub returns-then-from-to-2 : goal.returns-then-from-to-2
returns-then-from-to-2 c = on_row _ _ _ _ (search rules) (search rules) c.row_line.ensures

pub returns : goal.returns
returns c = on_neither _ _ _ _ (search rules) (search rules) refl
