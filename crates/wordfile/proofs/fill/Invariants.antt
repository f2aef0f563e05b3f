-- `fill` reads the bytes' words into the lent ones. The invariant: what is left to read makes of the words now what was to be made of them at first.
use Prim.Native.Nat.{◌-◌, ◌/◌, ◌≤◌}
use mathlib.Core.Path.{◌≡◌}
use lib.ListN.{length}
use Rattle.wordfile.specs.Words.{filled}
use Rattle.wordfile.proofs.fill.Given as goal

abbrev pub invariant-loop-k : goal.invariant-loop-k
invariant-loop-k l =
    (l.count ≤ length l.bytes / 4) × (l.count ≤ length l.initial.words) × (filled l.bytes l.words l.k (l.count - l.k) ≡ filled l.bytes l.initial.words 0 l.count)
