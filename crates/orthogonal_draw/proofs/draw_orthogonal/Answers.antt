-- `draw_orthogonal` draws an Orthogonal path leg by leg. The invariant: the walk stands before a leg, and the legs before it are drawn. The measure: how many
-- legs are left.
use mathlib.Core.Path.{sym, ◌∙◌, refl}
use Rattle.orthogonal.proofs.Walked.{walk_shortens}
use Rattle.orthogonal_draw.proofs.Laws.{walk_inked_begins, walk_inked_turns, walk_inked_ends}
use Rattle.orthogonal_draw.proofs.draw_orthogonal.Goals as goal

pub loop-leg-init : goal.loop-leg-init
loop-leg-init c = (refl, refl, refl, walk_inked_begins _ _ _ _ _ _ _ _ _ _ c.end_marks-marks.ensures c.begin_walk-cursor.ensures refl c.requires.0)

pub returns : goal.returns
returns c = walk_inked_ends _ _ _ _ _ _ _ _ _ _ _ c.loop-leg.invariant.3 (sym c.step.ensures ∙ c.in_default.is)

pub draw_leg-requires : goal.draw_leg-requires
draw_leg-requires c = c.loop-leg.invariant.3.ready

pub loop-leg-smaller : goal.loop-leg-smaller
loop-leg-smaller c = walk_shortens _ _ _ _ c.loop-leg.invariant.3.stands _ _ (sym c.step.ensures ∙ c.in-Some.is)

pub loop-leg-preserved : goal.loop-leg-preserved
loop-leg-preserved c = (
  c.cells-1.given ∙ c.loop-leg.invariant.0,
  c.colours-1.given ∙ c.loop-leg.invariant.1,
  c.stamps-1.given ∙ c.loop-leg.invariant.2,
  walk_inked_turns _ _ _ _ _ _ _ _ _ _ _ c.loop-leg.invariant.3 _ _ _ _ _ _ (sym c.step.ensures ∙ c.in-Some.is) c.requires.1 c.draw_leg.ensures,
)
