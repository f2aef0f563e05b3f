-- `owner_in` finds the first thing of a kind whose label holds a glyph. The invariant: what is found among the things left is what is found among all.
use Rattle.glyph_owner.proofs.Laws.{Looked}
use Rattle.glyph_owner.proofs.owner_in.Given as goal

abbrev pub invariant-loop-k : goal.invariant-loop-k
invariant-loop-k l = Looked l.kind l.image l.ts l.glyph l.k
