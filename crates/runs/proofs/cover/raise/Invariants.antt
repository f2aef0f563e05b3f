-- `raise` raises the weight of each column. The invariant: what is left to raise makes of the cover what all makes of the first. The measure: how many
-- columns are left.
use Prim.Native.Nat.{◌-◌}
use mathlib.Core.Path.{◌≡◌}
use Rattle.ground.specs.Turns.{turns}
use Rattle.runs.specs.Kept.{raise_column}
use Rattle.runs.proofs.cover.raise.Given as goal

abbrev pub invariant-loop-x : goal.invariant-loop-x
invariant-loop-x l =
    turns (raise_column l.weight) l.x (l.e - l.x) l.cover ≡ turns (raise_column l.weight) l.a (l.e - l.a) l.initial.cover
