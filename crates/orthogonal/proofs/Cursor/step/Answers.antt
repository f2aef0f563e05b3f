-- `Cursor::step` hands back the leg to the stop ahead, and the cursor past it.
use Rattle.orthogonal.specs.Walk.{step_of}
use Rattle.orthogonal.proofs.Walked.{stepped}
use Rattle.orthogonal.proofs.Cursor.step.Goals as goal

pub returns-in_err-point : goal.returns-in_err-point
unfolding step_of
returns-in_err-point c = rw (c.from_residual.ensures, c.in_err-point.was)

pub returns : goal.returns
returns c = stepped _ _ _ _ _ _ _ c.next_stop-after.ensures c.in_ok-point.was c.is_none.ensures
