-- `colour_column` gives a column its owner's colour where the owner's number exceeds the stamp.
use Rattle.runs.proofs.Owning.{colour_taken, colour_kept}
use Rattle.runs.proofs.owners.colour_column.Goals as goal

pub returns-then-stamp-number : goal.returns-then-stamp-number
returns-then-stamp-number c = colour_taken _ _ _ _ c.if-stamp-number.true

pub returns-else-stamp-number : goal.returns-else-stamp-number
returns-else-stamp-number c = colour_kept _ _ _ _ c.if-stamp-number.false
