-- `colour_rows` puts the runs of each row into its colours. The invariant: the rows left make of the colours what all rows make of the first.
use Prim.Native.Nat.{◌-◌}
use mathlib.Core.Path.{◌≡◌}
use Rattle.ground.specs.Turns.{turns}
use Rattle.runs.specs.Kept.{kept_runs}
use Rattle.flush.specs.Rows.{colours_at}
use Rattle.flush.proofs.colours.colour_rows.Given as goal

abbrev pub invariant-loop-y : goal.invariant-loop-y
invariant-loop-y l =
    turns (colours_at l.v (kept_runs l.scratch l.n) l.stamps) l.y (l.end - l.y) l.colours ≡ turns (colours_at l.v (kept_runs l.scratch l.n) l.stamps) l.base (l.end - l.base) l.initial.colours
