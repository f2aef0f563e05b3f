-- `tint_down` paints a column of the colours and of the stamps, where they are lent.
use borrow.Author.Rules.{rules}
use Rattle.window.proofs.Down.{down_absent, down_present}
use Rattle.window.proofs.Fills.{colours_room, stamps_room}
use Rattle.window.proofs.fill.tint_down.Goals as goal

pub returns-in-Cells-clause-colours_after : goal.returns-in-Cells-clause-colours_after
returns-in-Cells-clause-colours_after c = down_absent _ _ _ _ _ _ _ _ c.in-Cells.is

pub returns-in-Cells-clause-stamps_after : goal.returns-in-Cells-clause-stamps_after
returns-in-Cells-clause-stamps_after c = down_absent _ _ _ _ _ _ _ _ c.in-Cells.is

pub returns-in-All-clause-colours_after : goal.returns-in-All-clause-colours_after
returns-in-All-clause-colours_after c = down_present _ _ _ _ _ _ _ _ c.in-All.is c.paint_down.ensures

pub returns-in-All-clause-stamps_after : goal.returns-in-All-clause-stamps_after
returns-in-All-clause-stamps_after c = down_present _ _ _ _ _ _ _ _ c.in-All.is c.paint_down-in-All.ensures

pub paint_down-requires : goal.paint_down-requires
paint_down-requires c = (search (colours_room, rules), search rules)

pub paint_down-requires-in-All : goal.paint_down-requires-in-All
paint_down-requires-in-All c = (search (stamps_room, rules), search rules)
