-- `show_bands` ends: the measure is how many rows are left.
use Prim.Native.Nat.{◌-◌, ◌≤◌}
use Rattle.sheetshow.proofs.show_bands.Given as goal

abbrev pub invariant-loop-first : goal.invariant-loop-first
invariant-loop-first g l = l.first ≤ l.height

abbrev pub decreases-loop-first : goal.decreases-loop-first
decreases-loop-first g l = l.height - l.first
