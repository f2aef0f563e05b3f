-- `draw_side` draws an edge with a SideChannel.
use native.Mathlib.Omega.{arith}
use mathlib.Core.Path.{◌∙◌}
use Rattle.draw.proofs.Laws.{ready_then}
use Rattle.x_draw.proofs.Laws.{trunk_is_line, channel_is_line, tail_is_line, side_inked}
use Rattle.x_draw.proofs.draw_side.Goals as goal

pub draw_line-requires : goal.draw_line-requires
draw_line-requires c = (trunk_is_line _ _ _ c.trunk-trunk.ensures, c.requires.0)

pub draw_crossing-requires : goal.draw_crossing-requires
draw_crossing-requires c = ready_then _ _ _ _ _ _ _ _ _ c.draw_line.ensures c.requires.0

pub draw_line-requires-2 : goal.draw_line-requires-2
draw_line-requires-2 c = (channel_is_line _ _ _ _ c.channel_line-line.ensures, ready_then _ _ _ _ _ _ _ _ _ c.draw_crossing.ensures (ready_then _ _ _ _ _ _ _ _ _ c.draw_line.ensures c.requires.0))

pub draw_crossing-requires-2 : goal.draw_crossing-requires-2
draw_crossing-requires-2 c = ready_then _ _ _ _ _ _ _ _ _ c.draw_line-2.ensures (ready_then _ _ _ _ _ _ _ _ _ c.draw_crossing.ensures (ready_then _ _ _ _ _ _ _ _ _ c.draw_line.ensures c.requires.0))

pub tail-tail-requires : goal.tail-tail-requires
tail-tail-requires c = omega arith

pub draw_line-requires-3 : goal.draw_line-requires-3
draw_line-requires-3 c = (tail_is_line _ _ _ _ _ _ c.tail-tail.ensures, ready_then _ _ _ _ _ _ _ _ _ c.draw_crossing-2.ensures (ready_then _ _ _ _ _ _ _ _ _ c.draw_line-2.ensures (ready_then _ _ _ _ _ _ _ _ _ c.draw_crossing.ensures (ready_then _ _ _ _ _ _ _ _ _ c.draw_line.ensures c.requires.0))))

pub shape_of-cells : goal.shape_of-cells
shape_of-cells c = c.cells-5-1.given ∙ c.cells-4-1.given ∙ c.cells-3-1.given ∙ c.cells-2-1.given ∙ c.cells-1.given

pub shape_of-colours : goal.shape_of-colours
shape_of-colours c = c.colours-5-1.given ∙ c.colours-4-1.given ∙ c.colours-3-1.given ∙ c.colours-2-1.given ∙ c.colours-1.given

pub shape_of-stamps : goal.shape_of-stamps
shape_of-stamps c = c.stamps-5-1.given ∙ c.stamps-4-1.given ∙ c.stamps-3-1.given ∙ c.stamps-2-1.given ∙ c.stamps-1.given

pub returns : goal.returns
returns c =
    side_inked _ _ _ _ _ _ _ _ _ _ _ _ _ _ _ _ _ _ _ _ _ _ _ _ _ _
    c.requires.1
    c.sign-s.ensures
    c.number-y1.ensures.0
    c.number-x2.ensures.0
    c.number-y2.ensures.0
    c.number-row.ensures.0
    c.number-first.ensures.0
    c.number-last.ensures.0
    c.corner_bend-v.ensures.0
    c.trunk-trunk.ensures
    c.corner_arrow-mark.ensures
    c.channel_line-line.ensures
    c.target_marker-arrow.ensures
    c.tail-tail.ensures
    c.draw_line.ensures
    c.draw_crossing.ensures
    c.draw_line-2.ensures
    c.draw_crossing-2.ensures
    c.draw_line-3.ensures

pub corner_arrow-mark-requires : goal.corner_arrow-mark-requires
corner_arrow-mark-requires c = c.corner_bend-v.ensures.1
