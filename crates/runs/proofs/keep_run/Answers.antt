-- `keep_run` keeps a run where there is room.
use borrow.Author.Rules.{rules}
use Rattle.runs.proofs.Keeping.{kept_one, kept_full}
use Rattle.runs.proofs.keep_run.Goals as goal

pub returns-then-kept-scratch : goal.returns-then-kept-scratch
returns-then-kept-scratch c = kept_one _ _ _ _ _ (search rules) (search rules) (search rules) (search rules)

pub returns-else-kept-scratch : goal.returns-else-kept-scratch
returns-else-kept-scratch c = kept_full _ _ _ (search rules) (search rules)
