-- `keep_piece` keeps a run on a row of the window, and nothing else.
use borrow.Author.Rules.{rules}
use Rattle.draw.proofs.Laws.{row_small, first_small, last_small, run_none, run_kept, run_elsewhere}
use Rattle.draw.proofs.keep_piece.Goals as goal

pub returns-in_default : goal.returns-in_default
returns-in_default c = search (run_none, rules)

pub returns-then-has : goal.returns-then-has
returns-then-has c = search (run_kept, rules)

pub returns : goal.returns
returns c = search (run_elsewhere, rules)

pub overflow_cast-run : goal.overflow_cast-run
overflow_cast-run c = search (row_small, rules)

pub overflow_cast-run-then-has : goal.overflow_cast-run-then-has
overflow_cast-run-then-has c = search (first_small, rules)

pub overflow_cast-run-then-has-2 : goal.overflow_cast-run-then-has-2
overflow_cast-run-then-has-2 c = search (last_small, rules)
