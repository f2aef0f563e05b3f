-- `draw_side` draws a SideChannel.
use borrow.Author.Rules.{rules}
use mathlib.Core.Path.{◌∙◌}
use Rattle.draw.specs.Drawn.{Drawable}
use Rattle.draw.proofs.Laws.{ready_then, drawable_after}
use Rattle.y_draw.proofs.Laws.{channel_line, tail_line, side_drawn}
use Rattle.y_draw.proofs.draw_side.Goals as goal

pub draw_line-requires : goal.draw_line-requires
draw_line-requires c = (channel_line _ _ _ _ c.channel_line-line.ensures, (drawable_after _ _ _ _ _ _ _ _ _ _ _ _ _ c.draw_crossing-more.ensures c.requires.0).ready)

pub draw_crossing-all-requires : goal.draw_crossing-all-requires
draw_crossing-all-requires c =
    let able = drawable_after _ _ _ _ _ _ _ _ _ _ _ _ _ c.draw_crossing-more.ensures c.requires.0 in
    (record { ready = ready_then _ _ _ _ _ _ _ _ _ c.draw_line.ensures able.ready; room = able.room }, search rules, search rules)

pub draw_line-requires-2 : goal.draw_line-requires-2
draw_line-requires-2 c =
    let able = drawable_after _ _ _ _ _ _ _ _ _ _ _ _ _ c.draw_crossing-more.ensures c.requires.0 in
    let on : Drawable _ _ _ _ _ _ = record { ready = ready_then _ _ _ _ _ _ _ _ _ c.draw_line.ensures able.ready; room = able.room } in
    (tail_line _ _ _ _ _ _ c.tail-tail.ensures, (drawable_after _ _ _ _ _ _ _ _ _ _ _ _ _ c.draw_crossing-all.ensures on).ready)

pub shape_of-cells : goal.shape_of-cells
shape_of-cells c = c.cells-4-1.given ∙ c.cells-3-1.given ∙ c.cells-2-1.given ∙ c.cells-1.given

pub shape_of-colours : goal.shape_of-colours
shape_of-colours c = c.colours-4-1.given ∙ c.colours-3-1.given ∙ c.colours-2-1.given ∙ c.colours-1.given

pub shape_of-stamps : goal.shape_of-stamps
shape_of-stamps c = c.stamps-4-1.given ∙ c.stamps-3-1.given ∙ c.stamps-2-1.given ∙ c.stamps-1.given

pub shape_of-scratch : goal.shape_of-scratch
shape_of-scratch c = c.scratch-2-1.given ∙ c.scratch-1.given

pub returns : goal.returns
returns c = side_drawn _ _ _ _ _ _ _ _ _ _ _ _ _ _ _ _ _ _ _ _ _ _ _ _ _ _ _ c.sign-s.ensures c.number-x1.ensures.0 c.number-x2.ensures.0 c.number-y2.ensures.0 c.number-column.ensures.0 c.number-first.ensures.0 c.number-last.ensures.0 c.target_marker-arrow.ensures c.channel_line-line.ensures c.tail-tail.ensures c.requires.1 c.draw_crossing-more.ensures c.draw_line.ensures c.draw_crossing-all.ensures c.draw_line-2.ensures
