-- `paint_part` leaves its part of a plane as it is, or fills columns of it.
use borrow.Author.Rules.{rules}
use Rattle.window.proofs.Fills.{paint_keep, paint_set}
use Rattle.window.proofs.fill.paint_part.Goals as goal

pub returns-in_default : goal.returns-in_default
returns-in_default c = paint_keep _ _ _ _ _ _ c.in_default.not-Some

pub returns-in-Some : goal.returns-in-Some
returns-in-Some c = search (paint_set, rules)
