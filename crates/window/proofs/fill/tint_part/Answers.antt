-- `tint_part` paints a part of the colours and of the stamps, where they are lent.
use borrow.Author.Rules.{rules}
use Rattle.window.proofs.Fills.{paint_absent, paint_present, colours_part, stamps_part}
use Rattle.window.proofs.fill.tint_part.Goals as goal

pub returns-in-Cells-clause-colours_after : goal.returns-in-Cells-clause-colours_after
returns-in-Cells-clause-colours_after c = paint_absent _ _ _ _ _ _ _ _ c.in-Cells.is

pub returns-in-Cells-clause-stamps_after : goal.returns-in-Cells-clause-stamps_after
returns-in-Cells-clause-stamps_after c = paint_absent _ _ _ _ _ _ _ _ c.in-Cells.is

pub returns-in-All-clause-colours_after : goal.returns-in-All-clause-colours_after
returns-in-All-clause-colours_after c = search (paint_present, rules)

pub returns-in-All-clause-stamps_after : goal.returns-in-All-clause-stamps_after
returns-in-All-clause-stamps_after c = search (paint_present, rules)

pub paint_part-requires : goal.paint_part-requires
paint_part-requires c = search (colours_part, rules)

pub paint_part-requires-in-All : goal.paint_part-requires-in-All
paint_part-requires-in-All c = search (stamps_part, rules)
