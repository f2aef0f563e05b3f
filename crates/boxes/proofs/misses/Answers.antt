-- `misses` says whether rows all lie above the window, or all below it.
use borrow.Author.Rules.{rules}
use Rattle.boxes.proofs.Laws.{no_rows, rows_above, rows_below}
use Rattle.boxes.proofs.misses.Goals as goal

pub returns-then-bottom-top : goal.returns-then-bottom-top
returns-then-bottom-top c = search (no_rows, rules)

pub returns-then-bottom-first : goal.returns-then-bottom-first
returns-then-bottom-first c = search (rows_above, rules)

pub returns : goal.returns
returns c = search (rows_below, rules)
