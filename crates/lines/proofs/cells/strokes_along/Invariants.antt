-- `strokes_along` puts strokes into columns of a row. The loop's invariant is the work left.
use Prim.Native.Nat.{◌-◌}
use mathlib.Core.Path.{◌≡◌}
use Rattle.ground.specs.Turns.{turns}
use Rattle.cell.specs.OneCell.{read_arms}
use Rattle.rows.specs.Spots.{stroke}
use Rattle.window.specs.Writes.{ink_on}
use Rattle.lines.proofs.cells.strokes_along.Given as goal

abbrev pub invariant-loop-x : goal.invariant-loop-x
invariant-loop-x l =
    turns (λ k. ink_on l.ranges k (stroke (read_arms l.word))) l.x (l.end - l.x) l.row
    ≡ turns (λ k. ink_on l.ranges k (stroke (read_arms l.word))) l.low (l.end - l.low) l.initial.row
