-- `draw_direct` draws the one line of a Direct edge or a Spline.
use borrow.Author.Rules.{rules}
use Rattle.y_draw.proofs.Laws.{direct_line, direct_drawn}
use Rattle.y_draw.proofs.draw_direct.Goals as goal

pub draw_line-requires : goal.draw_line-requires
draw_line-requires c = (search (direct_line, rules), search rules)

pub returns : goal.returns
returns c = search (direct_drawn, rules)
