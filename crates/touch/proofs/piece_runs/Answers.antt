-- `piece_runs` counts a run on a row of the window.
use borrow.Author.Rules.{rules}
use native.Mathlib.Omega.{arith}
use Rattle.flow.proofs.Reached.{run_counts, run_elsewhere, no_run}
use Rattle.touch.proofs.piece_runs.Goals as goal

pub returns-then-has : goal.returns-then-has
returns-then-has c = (search (run_counts, rules), omega arith)

pub returns-else-has : goal.returns-else-has
returns-else-has c = (search (run_elsewhere, rules), omega arith)

pub returns-in_default : goal.returns-in_default
returns-in_default c = (no_run _ _ c.in_default.not-Run, omega arith)
