-- `arrows_down` puts a line into a column, in rows of the window. The loop's invariant is the work left.
use mathlib.Core.Path.{◌≡◌}
use Rattle.cell.specs.OneCell.{read_arms}
use Rattle.window.specs.Writes.{ink_on}
use Rattle.window.specs.Computed.{on_rows}
use Rattle.window.proofs.Down.{window}
use Rattle.lines.specs.Computed.{ink_at}
use Rattle.lines.proofs.cells.arrows_down.Given as goal

abbrev pub invariant-loop-y : goal.invariant-loop-y
invariant-loop-y l =
    on_rows (window l.width l.first l.rows) l.y l.end (λ k. ink_on l.ranges l.x (ink_at (read_arms l.word) l.dashed l.winner l.other k)) l.cells
    ≡ on_rows (window l.width l.first l.rows) l.from l.end (λ k. ink_on l.ranges l.x (ink_at (read_arms l.word) l.dashed l.winner l.other k)) l.initial.cells
