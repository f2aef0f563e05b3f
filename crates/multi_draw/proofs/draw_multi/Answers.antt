-- `draw_multi` draws a MultiSegment leg by leg. The invariant: the legs before the point at hand are drawn.
use native.Mathlib.Omega.{arith}
use borrow.Author.Rules.{rules}
use Prim.Native.Nat.{◌-◌}
use mathlib.Core.Path.{◌≡◌, refl}
use Rattle.multi_draw.proofs.Laws.{multi_begins, multi_turns, multi_ends}
use Rattle.multi_draw.proofs.draw_multi.Goals as goal

pub loop-k-init : goal.loop-k-init
loop-k-init c = multi_begins _ _ _ _ _ _ _ _ _ _ _ _ c.source_point-a.ensures refl c.requires.0

pub draw_leg-now_kept-requires : goal.draw_leg-now_kept-requires
draw_leg-now_kept-requires c = (c.loop-k.invariant.drawn.able, c.leg_between-leg.ensures.1, c.requires.1)

pub loop-k-preserved : goal.loop-k-preserved
loop-k-preserved c =
    multi_turns _ _ _ _ _ _ _ _ _ _ _ _ _ _ _ _ _ _ _ _ c.loop-k.invariant c.draw_leg-now_kept.ensures c.leg_between-leg.ensures.0 c.point_at-b.ensures (search rules)

pub draw_leg-requires : goal.draw_leg-requires
draw_leg-requires c = (c.loop-k.invariant.drawn.able, c.leg_between-leg-2.ensures.1, c.requires.1)

pub returns : goal.returns
returns c =
    let all : c.point_count-count.result ≡ c.loop-k.k = omega arith in
    multi_ends _ _ _ _ _ _ _ _ _ _ _ _ _ _ _ _ _ _ _ _ c.loop-k.invariant c.draw_leg.ensures (rw all at c.leg_between-leg-2.ensures.0) c.target_point.ensures (search rules)
