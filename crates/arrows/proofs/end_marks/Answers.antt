-- `end_marks` gives both arrows. The invariant: the cursor stands before a leg, and the arrows are as the legs before it leave them. The measure: how many
-- legs are left.
use mathlib.Core.Path.{sym, ◌∙◌}
use Rattle.orthogonal.proofs.Walked.{walk_shortens}
use Rattle.arrows.proofs.Marked.{marks_begin, marks_turn, marks_end}
use Rattle.arrows.proofs.end_marks.Goals as goal

pub loop-leg-init : goal.loop-leg-init
loop-leg-init c = rw c.begin_walk-cursor.ensures (marks_begin _ _)

pub returns : goal.returns
returns c = marks_end _ _ _ _ _ c.loop-leg.invariant (sym c.step.ensures ∙ c.in_default.is)

pub loop-leg-smaller : goal.loop-leg-smaller
loop-leg-smaller c = walk_shortens _ _ _ _ c.loop-leg.invariant.stands _ _ (sym c.step.ensures ∙ c.in-Some.is)

pub loop-leg-preserved : goal.loop-leg-preserved
loop-leg-preserved c =
    rw (c.source_after-source.ensures, c.target_after-target.ensures)
    (marks_turn _ _ _ _ _ c.loop-leg.invariant _ _ (sym c.step.ensures ∙ c.in-Some.is))
