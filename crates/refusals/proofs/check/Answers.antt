-- `check` gives code, place and run count of every slice of words.
use borrow.Author.Rules.{rules}
use Rattle.refusals.proofs.Laws.{checked_accepted, checked_refused}
use Rattle.refusals.proofs.check.Goals as goal

pub returns-in-Ok : goal.returns-in-Ok
returns-in-Ok c = search (checked_accepted, rules)

pub returns-in-Err : goal.returns-in-Err
returns-in-Err c = search (checked_refused, rules)
