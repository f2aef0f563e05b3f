-- `read_glyphs` ends. The measure: the bytes that are left.
use Rattle.std.proofs.Common.{length}
use Rattle.sheetvalues.proofs.values.read_glyphs.Given as goal

abbrev pub decreases-loop-rest : goal.decreases-loop-rest
decreases-loop-rest l = length l.rest
