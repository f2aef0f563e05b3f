-- `draw_leg` draws the bend at a leg's start, then its interior.
use borrow.Author.Rules.{rules}
use Rattle.orthogonal_draw.proofs.Laws.{bend_is_cell, interior_is_line, leg_inked, ready_same}
use Rattle.orthogonal_draw.proofs.draw_leg.Goals as goal

pub draw_cell-requires : goal.draw_cell-requires
draw_cell-requires c = (search (bend_is_cell, interior_is_line, rules), search rules)

pub draw_line-requires : goal.draw_line-requires
draw_line-requires c = (search (bend_is_cell, interior_is_line, rules), ready_same c.args.pen _ _ _ _ _ _ c.cells-1.given c.colours-1.given c.stamps-1.given c.requires)

pub returns : goal.returns
returns c = search (leg_inked, rules)
