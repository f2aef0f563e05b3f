-- `claim_row` claims columns for the runs of a row. The invariant: the owners are those of the runs from the link on, nobody but from low to high. The
-- measure: the link, for links fall.
use Prim.Native.Nat.{◌≤◌}
use mathlib.Core.Path.{◌≡◌}
use lib.ListN.{length}
use Rattle.runs.specs.Runs.{nobody, or_higher}
use Rattle.runs.specs.Kept.{owners, owner_in, Blank}
use Rattle.runs.proofs.Threads.{Walking}
use Rattle.runs.proofs.owners.claim_row.Given as goal

abbrev pub invariant-loop-link : goal.invariant-loop-link
invariant-loop-link l =
    (length l.numbers ≡ length l.initial.numbers)
    × (length l.colours ≡ length l.initial.colours)
    × (l.high ≤ l.width)
    × Walking owner_in or_higher nobody l.scratch l.y l.n l.width l.link (owners l.numbers l.colours)
    × Blank l.numbers l.low l.high

abbrev pub decreases-loop-link : goal.decreases-loop-link
decreases-loop-link l = l.link
