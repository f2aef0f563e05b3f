-- `fill` puts a value into columns of a row. The loop's invariant is the work left.
use Prim.Native.Nat.{◌+◌, ◌-◌}
use mathlib.Core.Path.{◌≡◌}
use Rattle.window.specs.Writes.{fill}
use Rattle.window.proofs.fill.fill.Given as goal

abbrev pub invariant-loop-k : goal.invariant-loop-k
invariant-loop-k l =
    fill l.value (l.x + l.k) (l.k-end - l.k) l.row ≡ fill l.value l.x l.k-end l.initial.row
