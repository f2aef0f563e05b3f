-- `draw_straight` draws a leg along the flow.
use borrow.Author.Rules.{rules}
use Rattle.draw.proofs.Laws.{ready_then}
use Rattle.y_draw.proofs.Laws.{start_cell, straight_line, straight_drawn}
use Rattle.y_draw.proofs.draw_straight.Goals as goal

pub draw_cell-requires : goal.draw_cell-requires
draw_cell-requires c = (search (start_cell, rules), search rules)

pub straight_line-line-requires : goal.straight_line-line-requires
straight_line-line-requires c = c.requires.1

pub draw_line-requires : goal.draw_line-requires
draw_line-requires c = (search (straight_line, rules), ready_then _ _ _ _ _ _ _ _ _ c.draw_cell.ensures c.requires.0)

pub returns : goal.returns
returns c = straight_drawn _ _ _ _ _ _ _ _ _ c.own_start-start.ensures c.straight_line-line.ensures c.draw_cell.ensures c.draw_line.ensures
