-- `check_touched` refuses with code 9, then 10, or gives the run count.
use borrow.Author.Rules.{rules}
use Rattle.refusals.proofs.Laws.{touch_unlisted, touch_over, touch_accepted}
use Rattle.refusals.proofs.check_touched.Goals as goal

pub returns-in-Err : goal.returns-in-Err
returns-in-Err c = search (touch_unlisted, rules)

pub returns-then-number-runs : goal.returns-then-number-runs
returns-then-number-runs c = search (touch_over, rules)

pub returns : goal.returns
returns c = search (touch_accepted, rules)
