-- `mark_active` marks the things of the active elements. The invariant: those left mark what all mark.
use Prim.Native.Nat.{◌-◌}
use mathlib.Core.Path.{◌≡◌}
use lib.ListN.{take, drop}
use Rattle.sweep.specs.Swept.{mark_each}
use Rattle.sweep.proofs.mark_active.Given as goal

abbrev pub invariant-loop-i : goal.invariant-loop-i
invariant-loop-i l =
    mark_each l.image l.ts (drop l.i (take l.active l.list)) l.marks ≡ mark_each l.image l.ts (take l.active l.list) l.initial.marks
