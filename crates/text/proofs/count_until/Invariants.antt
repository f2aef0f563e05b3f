-- `count_until` counts the glyphs before the closing column. The invariant: those looked at, and those ahead that come before it, are all that do.
use Prim.Native.Nat.{◌+◌, ◌-◌, ◌*◌, ◌≤◌}
use Rattle.text.proofs.Laws.{Counted}
use Rattle.text.proofs.count_until.Given as goal

abbrev pub invariant-loop-k : goal.invariant-loop-k
invariant-loop-k l =
    (l.column ≤ l.x + 2 * l.k) × Counted l.ranges l.close l.x l.glyphs l.k l.column
