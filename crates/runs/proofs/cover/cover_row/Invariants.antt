-- `cover_row` raises the cover by the runs of a row. The invariant: the cover is that of the runs from the link on, with no weight but from low to high. The
-- measure: the link, for links fall.
use Prim.Native.Nat.{◌≤◌}
use mathlib.Core.Path.{◌≡◌}
use lib.ListN.{length}
use Rattle.runs.specs.Kept.{weight_in, Blank}
use Rattle.runs.proofs.Covering.{heavier_of}
use Rattle.runs.proofs.Threads.{Walking}
use Rattle.runs.proofs.cover.cover_row.Given as goal

abbrev pub invariant-loop-link : goal.invariant-loop-link
invariant-loop-link l =
    (length l.cover ≡ length l.initial.cover)
    × (l.high ≤ l.width)
    × Walking weight_in heavier_of 0 l.scratch l.y l.n l.width l.link l.cover
    × Blank l.cover l.low l.high

abbrev pub decreases-loop-link : goal.decreases-loop-link
decreases-loop-link l = l.link
