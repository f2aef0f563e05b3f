-- `store` stores the words as bytes. The invariant: the words left to store make of the bytes now what all of them make of the bytes at first.
use Prim.Native.Nat.{◌*◌, ◌-◌, ◌≤◌}
use mathlib.Core.Path.{◌≡◌}
use lib.ListN.{length, get_or}
use Rattle.ground.specs.Turns.{turns}
use Rattle.wordfile.specs.Words.{with_word, stored}
use Rattle.wordfile.proofs.store.Given as goal

abbrev pub invariant-loop-k : goal.invariant-loop-k
invariant-loop-k l = (l.count ≤ length l.words) × (4 * l.count ≤ length l.initial.bytes) × (turns (λ k bs. with_word bs k (get_or l.words k 0)) l.k (l.count - l.k) l.bytes ≡ stored l.words l.count l.initial.bytes)
