-- `draw_multi` draws a MultiSegment leg by leg. The invariant: the legs before the point at hand are drawn.
use Rattle.draw.specs.Drawn.{drawing}
use Rattle.multi_draw.proofs.Laws.{MultiDrawn}
use Rattle.multi_draw.proofs.draw_multi.Given as goal

abbrev pub invariant-loop-k : goal.invariant-loop-k
invariant-loop-k l =
    MultiDrawn l.pen l.ranges l.e l.offset l.points (drawing l.pen l.initial.cells l.initial.colours l.initial.stamps l.initial.scratch l.kept) l.a l.k l.cells l.colours l.stamps l.scratch l.now_kept
