-- `fill_down` puts a value into a column, in the rows that the window has. The loop's invariant is the work left.
use mathlib.Core.Path.{◌≡◌}
use Rattle.window.specs.Writes.{fill}
use Rattle.window.specs.Computed.{on_rows}
use Rattle.window.proofs.Down.{window}
use Rattle.window.proofs.fill.fill_down.Given as goal

abbrev pub invariant-loop-y : goal.invariant-loop-y
invariant-loop-y l =
    on_rows (window l.width l.first l.rows) l.y l.high (λ k. fill l.value l.x 1) l.plane
    ≡ on_rows (window l.width l.first l.rows) l.initial.y l.high (λ k. fill l.value l.x 1) l.initial.plane
