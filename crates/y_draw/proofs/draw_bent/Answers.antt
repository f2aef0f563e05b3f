-- `draw_bent` draws a way that bends once.
use borrow.Author.Rules.{rules}
use native.Mathlib.Omega.{arith}
use mathlib.Core.Path.{◌∙◌}
use Rattle.draw.proofs.Laws.{ready_then, drawable_after}
use Rattle.y_draw.proofs.Laws.{trunk_line, start_cell, tail_line, bent_drawn}
use Rattle.y_draw.proofs.draw_bent.Goals as goal

pub draw_line-requires : goal.draw_line-requires
draw_line-requires c = (search (trunk_line, rules), search rules)

pub draw_cell-requires : goal.draw_cell-requires
draw_cell-requires c = (search (start_cell, rules), ready_then _ _ _ _ _ _ _ _ _ c.draw_line.ensures c.requires.0.ready)

pub draw_crossing-more-requires : goal.draw_crossing-more-requires
draw_crossing-more-requires c =
    let begun = ready_then _ _ _ _ _ _ _ _ _ c.draw_line.ensures c.requires.0.ready in
    (record { ready = ready_then _ _ _ _ _ _ _ _ _ c.draw_cell.ensures begun; room = c.requires.0.room }, c.requires.1.x1, c.requires.1.x2)

pub tail-tail-requires : goal.tail-tail-requires
tail-tail-requires c = omega (arith, c.requires.1.y2)

pub draw_line-requires-2 : goal.draw_line-requires-2
draw_line-requires-2 c =
    let begun = ready_then _ _ _ _ _ _ _ _ _ c.draw_line.ensures c.requires.0.ready in
    let stroked = ready_then _ _ _ _ _ _ _ _ _ c.draw_cell.ensures begun in
    let able = drawable_after _ _ _ _ _ _ _ _ _ _ _ _ _ c.draw_crossing-more.ensures (record { ready = stroked; room = c.requires.0.room }) in
    (tail_line _ _ _ _ _ _ c.tail-tail.ensures, able.ready)

pub shape_of-cells : goal.shape_of-cells
shape_of-cells c = c.cells-4-1.given ∙ c.cells-3-1.given ∙ c.cells-2-1.given ∙ c.cells-1.given

pub shape_of-colours : goal.shape_of-colours
shape_of-colours c = c.colours-4-1.given ∙ c.colours-3-1.given ∙ c.colours-2-1.given ∙ c.colours-1.given

pub shape_of-stamps : goal.shape_of-stamps
shape_of-stamps c = c.stamps-4-1.given ∙ c.stamps-3-1.given ∙ c.stamps-2-1.given ∙ c.stamps-1.given

pub returns : goal.returns
returns c = bent_drawn _ _ _ _ _ _ _ _ _ _ _ _ _ _ _ _ _ c.trunk-trunk.ensures c.own_start-start.ensures c.corner_arrow-arrow.ensures c.tail-tail.ensures c.requires.0.room c.draw_line.ensures c.draw_cell.ensures c.draw_crossing-more.ensures c.draw_line-2.ensures
