-- `outcome_of` is a verdict's code and place.
use Rattle.paint.specs.Outcome.{outcome_of}
use Rattle.paint.proofs.outcome_of.Goals as goal

pub returns-in-Ok : goal.returns-in-Ok
unfolding outcome_of
returns-in-Ok c = rw c.in-Ok.is

pub returns-in-Err : goal.returns-in-Err
unfolding outcome_of
returns-in-Err c = rw c.in-Err.is
