-- `paint_bands` takes the steps. The invariant: the record and the buffers are as a step needs them, and the rows before the next are painted.
use Prim.Native.Nat.{◌-◌}
use mathlib.Core.Path.{◌≡◌}
use lib.ListN.{length}
use Rattle.bands.specs.Stepped.{Steppable, Done}
use Rattle.bands.proofs.paint_bands.Given as goal

abbrev pub invariant-loop-sweep : goal.invariant-loop-sweep
invariant-loop-sweep l =
    (length l.cells ≡ length l.initial.cells) × (length l.colours ≡ length l.initial.colours) × (length l.stamps ≡ length l.initial.stamps) × (length l.scratch ≡ length l.initial.scratch)
    × Steppable l.image l.lent l.sweep l.cells l.colours l.stamps l.scratch l.marks × Done l.image l.lent l.sweep.next l.initial.cells l.initial.colours l.initial.stamps l.cells l.colours l.stamps

abbrev pub decreases-loop-sweep : goal.decreases-loop-sweep
decreases-loop-sweep l = l.height - l.sweep.next
