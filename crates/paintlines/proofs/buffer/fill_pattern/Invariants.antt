-- `fill_pattern` fills a buffer with its pattern. The invariant: the words passed are filled, and all beyond them is as at first.
use Prim.Native.Nat.{◌+◌}
use mathlib.Core.List.{◌++◌, map}
use mathlib.Core.Path.{◌≡◌}
use lib.ListN.{drop}
use Rattle.ground.specs.Each.{numbers}
use Rattle.paintlines.proofs.buffer.fill_pattern.Given as goal

abbrev pub invariant-loop-k : goal.invariant-loop-k
invariant-loop-k l =
    l.lent ≡ map (λ i. l.start + i) (numbers 0 l.k) ++ drop l.k l.initial.lent
