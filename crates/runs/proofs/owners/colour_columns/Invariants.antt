-- `colour_columns` colours each column by its owner. The invariant: what is left to colour makes of the row what all makes of the first.
use Prim.Native.Nat.{◌-◌}
use mathlib.Core.Path.{◌≡◌}
use lib.ListN.{get_or}
use Rattle.ground.specs.Turns.{turns}
use Rattle.runs.specs.Runs.{colour_column}
use Rattle.runs.specs.Kept.{owners, owner_in}
use Rattle.runs.proofs.owners.colour_columns.Given as goal

abbrev pub invariant-loop-x : goal.invariant-loop-x
invariant-loop-x l =
    turns (λ k. colour_column (owner_in (owners l.numbers l.colours) k) (get_or l.stamps k 0) k) l.x (l.high - l.x) l.row
    ≡ turns (λ k. colour_column (owner_in (owners l.numbers l.colours) k) (get_or l.stamps k 0) k) l.low (l.high - l.low) l.initial.row
