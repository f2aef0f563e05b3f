-- `cover_run` raises the columns of a run to its weight.
use Prim.Native.Nat.{◌%◌}
use mathlib.Core.Path.{ap}
use Rattle.runs.proofs.Covering.{run_raised}
use Rattle.runs.proofs.cover.cover_run.Goals as goal

pub returns-clause-cover_after : goal.returns-clause-cover_after
returns-clause-cover_after c = run_raised _ _ _ _ _ _ _ c.columns_at-columns.ensures.0 c.columns_at-columns.ensures.1 (ap (λ word. word % 4) c.word_at-weight.ensures) c.raise.ensures

pub returns-clause-low_value : goal.returns-clause-low_value
returns-clause-low_value c = c.columns_at-columns.ensures
