-- `end_marks` gives both arrows. The invariant: the cursor stands before a leg, and the arrows are as the legs before it leave them. The measure: how many
-- legs are left.
use Rattle.arrows.proofs.Marked.{MarksBy}
use Rattle.orthogonal.specs.Walk.{legs_left}
use Rattle.arrows.proofs.end_marks.Given as goal

abbrev pub invariant-loop-leg : goal.invariant-loop-leg
invariant-loop-leg l = MarksBy l.e l.points l.cursor l.source l.target

abbrev pub decreases-loop-leg : goal.decreases-loop-leg
decreases-loop-leg l = legs_left l.e l.points l.cursor
