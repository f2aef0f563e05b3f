-- `fill_output` fills the output with its pattern. The invariant: the bytes passed are filled, and all beyond them is as at first.
use Prim.Native.Nat.{◌+◌, ◌%◌}
use mathlib.Core.List.{◌++◌, map}
use mathlib.Core.Path.{◌≡◌}
use lib.ListN.{drop}
use Rattle.ground.specs.Each.{numbers}
use Rattle.paintlines.proofs.buffer.fill_output.Given as goal

abbrev pub invariant-loop-k : goal.invariant-loop-k
invariant-loop-k l =
    l.out ≡ map (λ i. (0x50 + i) % 256) (numbers 0 l.k) ++ drop l.k l.initial.out
