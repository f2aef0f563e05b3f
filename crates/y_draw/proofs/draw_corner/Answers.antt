-- `draw_corner` draws the bend of a Corner.
use borrow.Author.Rules.{rules}
use Rattle.y_draw.proofs.Laws.{corner_drawn}
use Rattle.y_draw.proofs.draw_corner.Goals as goal

pub returns : goal.returns
returns c = search (corner_drawn, rules)
