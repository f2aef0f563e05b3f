-- `mark_listed` is a fresh selection. The invariant: the elements left mark what all mark.
use Prim.Native.Nat.{◌-◌}
use mathlib.Core.Path.{◌≡◌}
use Rattle.ground.specs.Turns.{turns}
use Rattle.selection.specs.Selection.{mark_element}
use Rattle.selection.proofs.mark_listed.Given as goal

abbrev pub invariant-loop-k : goal.invariant-loop-k
invariant-loop-k l =
    turns (mark_element l.image l.ts l.top) l.k (l.count - l.k) l.marks ≡ turns (mark_element l.image l.ts l.top) 0 l.count l.initial.marks
