-- `spell` writes as many words as have room. The invariant: the words passed are spelled, and all beyond them is as at first.
use Prim.Native.Nat.{◌*◌, ◌≤◌}
use mathlib.Core.List.{◌++◌}
use mathlib.Core.Path.{◌≡◌}
use lib.ListN.{length, take, drop}
use Rattle.hexrow.specs.Hex.{spelled}
use Rattle.hexrow.proofs.spell.Given as goal

abbrev pub invariant-loop-k : goal.invariant-loop-k
invariant-loop-k l =
    (l.count ≤ length l.words) × (9 * l.count ≤ length l.initial.text)
    × (l.text ≡ spelled (take l.k l.words) ++ drop (9 * l.k) l.initial.text)
