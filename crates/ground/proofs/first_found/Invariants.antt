-- `first_found` gives what is found first. The invariant: what is found from this number on is what is found of all.
use Prim.Native.Nat.{ℕ, ◌-◌}
use mathlib.Core.Path.{◌≡◌}
use Rattle.std.specs.Prelude.{Option}
use Rattle.ground.specs.First.{first_from, Finds}
use Rattle.ground.proofs.first_found.Given as goal

abbrev pub invariant-loop-k : goal.invariant-loop-k
invariant-loop-k g l =
    (found : ℕ → Option ℕ) → Finds (goal.F-post g l.fn.look) l.count found → first_from found l.k (l.count - l.k) ≡ first_from found 0 l.count
