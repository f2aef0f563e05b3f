-- `ink_columns` inks each column with its weight. The invariant: what is left to ink makes of the row what all makes of the first. The measure: how many
-- columns are left.
use Prim.Native.Nat.{◌-◌}
use mathlib.Core.Path.{◌≡◌}
use lib.ListN.{get_or}
use Rattle.ground.specs.Turns.{turns}
use Rattle.runs.specs.Runs.{ink_column}
use Rattle.runs.proofs.cover.ink_columns.Given as goal

abbrev pub invariant-loop-x : goal.invariant-loop-x
invariant-loop-x l =
    turns (λ k. ink_column l.ranges (get_or l.cover k 0) k) l.x (l.high - l.x) l.row
    ≡ turns (λ k. ink_column l.ranges (get_or l.cover k 0) k) l.low (l.high - l.low) l.initial.row
