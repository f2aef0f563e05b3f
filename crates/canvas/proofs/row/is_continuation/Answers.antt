-- `is_continuation` says whether a word is the second column of a wide glyph.
use Rattle.canvas.specs.Row.{is_continuation}
use Rattle.canvas.proofs.Laws.{no_continuation}
use Rattle.canvas.proofs.row.is_continuation.Goals as goal

pub returns-in-Continuation : goal.returns-in-Continuation
unfolding is_continuation
returns-in-Continuation c = rw (← c.read-parts.ensures, c.in-Continuation.is)

pub returns-in_default : goal.returns-in_default
returns-in_default c = no_continuation _ _ c.read-parts.ensures c.in_default.not-Continuation
