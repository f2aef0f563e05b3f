-- `put_bytes` stores the bytes. The invariant: those before k are stored.
use mathlib.Core.Path.{◌≡◌}
use lib.ListN.{take}
use Rattle.utf8.specs.Utf8.{written_at}
use Rattle.utf8.proofs.put_bytes.Given as goal

abbrev pub invariant-loop-k : goal.invariant-loop-k
invariant-loop-k g l = l.out ≡ written_at l.at (take l.k l.bytes) l.initial.out
