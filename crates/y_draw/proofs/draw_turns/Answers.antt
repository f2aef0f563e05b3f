-- `draw_turns` draws the three pieces of a crossing.
use borrow.Author.Rules.{rules}
use Rattle.draw.proofs.Laws.{ready_then}
use Rattle.y_draw.proofs.Laws.{cross_run, first_cell, last_cell, turns_drawn}
use Rattle.y_draw.proofs.draw_turns.Goals as goal

pub keep_piece-more-requires : goal.keep_piece-more-requires
keep_piece-more-requires c = (search (cross_run, rules), search rules, search rules)

pub draw_cell-requires : goal.draw_cell-requires
draw_cell-requires c = (search (first_cell, rules), search rules)

pub draw_cell-requires-2 : goal.draw_cell-requires-2
draw_cell-requires-2 c = (search (last_cell, rules), ready_then _ _ _ _ _ _ _ _ _ c.draw_cell.ensures c.requires.0.ready)

pub returns : goal.returns
returns c = turns_drawn _ _ _ _ _ _ _ _ _ _ _ _ _ _ _ _ _ c.cross_run-run.ensures c.requires.1 c.requires.2 c.cross_first-turn.ensures c.cross_last-end.ensures c.keep_piece-more.ensures c.draw_cell.ensures c.draw_cell-2.ensures
