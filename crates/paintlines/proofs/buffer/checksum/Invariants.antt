-- `checksum` takes the items in one after the other. The invariant: what is left to take in makes of the sum now what was to be made of it at first.
use Prim.Native.Nat.{◌<◌}
use mathlib.Core.List.{map}
use mathlib.Core.Path.{◌≡◌}
use lib.ListN.{drop}
use Rattle.paintlines.specs.Lent.{checksum, checksum_from}
use Rattle.paintlines.proofs.buffer.checksum.Given as goal

abbrev pub invariant-loop-item : goal.invariant-loop-item
invariant-loop-item g l =
    (l.sum < 4294967291) × (checksum_from l.sum (map g.T.Item.value (drop l.item-index l.items)) ≡ checksum (map g.T.Item.value l.items))
