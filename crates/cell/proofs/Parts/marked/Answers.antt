-- `Parts::marked` lays a marker on each kind of parts, as the rule says.
use Rattle.cell.proofs.Laws.{marked_kept, marked_rest}
use Rattle.cell.proofs.Parts.marked.Goals as goal

pub returns-in-Text : goal.returns-in-Text
returns-in-Text c = marked_kept _ _ _ _ c.in-Text.is

pub returns-in_default : goal.returns-in_default
returns-in_default c = marked_rest _ _ _ _ c.in_default.not-Text c.in_default.not-Continuation
