-- `paint_down` leaves a column as it is, or fills it.
use Rattle.window.proofs.Down.{down_keep, down_set}
use Rattle.window.proofs.fill.paint_down.Goals as goal

pub returns-in-Some : goal.returns-in-Some
returns-in-Some c = down_set _ _ _ _ _ _ _ _ c.in-Some.is c.fill_down.ensures

pub returns-in_default : goal.returns-in_default
returns-in_default c = down_keep _ _ _ _ _ _ c.in_default.not-Some
