-- The invariant of `answer_all`: both buffers keep their lengths.
use mathlib.Core.Path.{◌≡◌}
use lib.ListN.{length}
use Rattle.checklines.proofs.answer_all.Given as goal

abbrev pub invariant-loop : goal.invariant-loop
invariant-loop g l = (length l.bytes ≡ 524288) × (length l.words ≡ 131072)
