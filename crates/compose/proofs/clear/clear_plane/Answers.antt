-- `clear_plane` clears a plane that is lent.
use borrow.Author.Rules.{rules}
use Rattle.compose.proofs.Cleared.{plane_absent, plane_cleared}
use Rattle.compose.proofs.clear.clear_plane.Goals as goal

pub returns-in-Cells : goal.returns-in-Cells
returns-in-Cells c = plane_absent _ _ _ c.in-Cells.is

pub returns-in-All : goal.returns-in-All
returns-in-All c = search (plane_cleared, rules)
