-- `arrows_along` puts a line into columns of a row. The loop's invariant is the work left.
use Prim.Native.Nat.{◌-◌}
use mathlib.Core.Path.{◌≡◌}
use Rattle.cell.specs.OneCell.{read_arms}
use Rattle.lines.specs.Computed.{ink_along}
use Rattle.lines.proofs.cells.arrows_along.Given as goal

abbrev pub invariant-loop-x : goal.invariant-loop-x
invariant-loop-x l =
    ink_along l.ranges (read_arms l.word) l.dashed l.winner l.other l.x l.end l.row ≡ ink_along l.ranges (read_arms l.word) l.dashed l.winner l.other l.low l.end l.initial.row
