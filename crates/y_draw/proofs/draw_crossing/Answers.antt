-- `draw_crossing` draws a crossing where the window has its row.
use borrow.Author.Rules.{rules}
use Rattle.y_draw.proofs.Laws.{crossing_elsewhere}
use Rattle.y_draw.proofs.draw_crossing.Goals as goal

pub returns : goal.returns
returns c = search (crossing_elsewhere, rules)
