-- `claim_run` claims the columns of a run.
use Rattle.runs.proofs.Owning.{run_claimed}
use Rattle.runs.proofs.owners.claim_run.Goals as goal

pub returns-clause-colours_after : goal.returns-clause-colours_after
returns-clause-colours_after c = run_claimed _ _ _ _ _ _ _ _ c.columns_at-columns.ensures.0 c.columns_at-columns.ensures.1 c.word_at-number.ensures c.word_at-colour.ensures c.claim.ensures

pub returns-clause-low_value : goal.returns-clause-low_value
returns-clause-low_value c = c.columns_at-columns.ensures
