-- `let_go` takes the marks of the active elements back and moves those that reach the row to the front. The invariant: those kept and those left to look at are the
-- ones to keep, no word past those kept has changed, and those left are the ones whose marks are to be taken back.
use Prim.Native.Nat.{◌-◌, ◌≤◌}
use mathlib.Core.Path.{◌≡◌}
use lib.ListN.{take, drop}
use Rattle.sweep.specs.Swept.{unmark_each}
use Rattle.sweep.proofs.Laws.{Moved}
use Rattle.sweep.proofs.let_go.Given as goal

abbrev pub invariant-loop-i : goal.invariant-loop-i
invariant-loop-i l =
    (l.kept ≤ l.i) × Moved l.image l.ts l.row l.initial.list l.active l.list l.i l.kept
    × (unmark_each l.image l.ts (drop l.i (take l.active l.initial.list)) l.marks ≡ unmark_each l.image l.ts (take l.active l.initial.list) l.initial.marks)
