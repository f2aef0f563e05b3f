-- `spell_bytes` writes as many bytes as have room. The invariant: the bytes passed are spelled, and all beyond them is as at first.
use Prim.Native.Nat.{◌*◌, ◌≤◌}
use mathlib.Core.List.{◌++◌}
use mathlib.Core.Path.{◌≡◌}
use lib.ListN.{length, take, drop}
use Rattle.hexrow.specs.Hex.{spelled_bytes}
use Rattle.hexrow.proofs.spell_bytes.Given as goal

abbrev pub invariant-loop-k : goal.invariant-loop-k
invariant-loop-k l =
    (l.count ≤ length l.bytes) × (3 * l.count ≤ length l.initial.text)
    × (l.text ≡ spelled_bytes (take l.k l.bytes) ++ drop (3 * l.k) l.initial.text)
