-- `timed_check` answers the check's code.
use mathlib.Core.Path.{ap}
use Rattle.refusals.specs.declared.Answer.{Answer}
use Rattle.timed.proofs.timed_check.Goals as goal

pub returns : goal.returns
returns c = ap (λ (a : Answer). a.code) c.check-found.ensures
