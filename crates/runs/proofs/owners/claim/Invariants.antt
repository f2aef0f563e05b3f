-- `claim` claims each column. The invariant: what is left to claim makes of the owners what all makes of the first.
use Prim.Native.Nat.{◌-◌}
use mathlib.Core.Path.{◌≡◌}
use Rattle.ground.specs.Turns.{turns}
use Rattle.runs.specs.Kept.{owners, claim_column}
use Rattle.runs.proofs.owners.claim.Given as goal

abbrev pub invariant-loop-x : goal.invariant-loop-x
invariant-loop-x l =
    turns (claim_column l.number l.colour) l.x (l.e - l.x) (owners l.numbers l.colours)
    ≡ turns (claim_column l.number l.colour) l.a (l.e - l.a) (owners l.initial.numbers l.initial.colours)
