-- `is_marked` reads a thing's mark; there is none past the end.
use borrow.Author.Rules.{rules}
use Rattle.stage.proofs.Laws.{mark_read, mark_past}
use Rattle.stage.proofs.is_marked.Goals as goal

pub returns-then-slot-marks : goal.returns-then-slot-marks
returns-then-slot-marks c = search (mark_read, rules)

pub returns-else-slot-marks : goal.returns-else-slot-marks
returns-else-slot-marks c = search (mark_past, rules)
