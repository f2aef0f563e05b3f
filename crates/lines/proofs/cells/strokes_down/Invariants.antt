-- `strokes_down` puts strokes into a column, in rows of the window. The loop's invariant is the work left.
use mathlib.Core.Path.{◌≡◌}
use Rattle.cell.specs.OneCell.{read_arms}
use Rattle.rows.specs.Spots.{stroke}
use Rattle.window.specs.Writes.{ink_on}
use Rattle.window.specs.Computed.{on_rows}
use Rattle.window.proofs.Down.{window}
use Rattle.lines.proofs.cells.strokes_down.Given as goal

abbrev pub invariant-loop-y : goal.invariant-loop-y
invariant-loop-y l =
    on_rows (window l.width l.first l.rows) l.y l.end (λ k. ink_on l.ranges l.x (stroke (read_arms l.word))) l.cells
    ≡ on_rows (window l.width l.first l.rows) l.from l.end (λ k. ink_on l.ranges l.x (stroke (read_arms l.word))) l.initial.cells
