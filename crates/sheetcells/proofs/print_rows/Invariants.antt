-- `print_rows` ends: the measure is how many rows are left. The invariant: no row past the last is painted.
use Prim.Native.Nat.{◌-◌, ◌≤◌}
use Rattle.sheetcells.proofs.print_rows.Given as goal

abbrev pub invariant-loop-first : goal.invariant-loop-first
invariant-loop-first g l =
    l.first ≤ l.height

abbrev pub decreases-loop-first : goal.decreases-loop-first
decreases-loop-first g l = l.height - l.first
