-- `image_verdict` is what the check comes to.
use borrow.Author.Rules.{rules}
use Rattle.paint.proofs.Laws.{image_refused, image_passed}
use Rattle.paint.proofs.image_verdict.Goals as goal

pub returns-in-Ok : goal.returns-in-Ok
returns-in-Ok c = search (image_passed, rules)

pub returns-in-Err : goal.returns-in-Err
returns-in-Err c = search (image_refused, rules)
