-- `lacks` tells whether a thing that is listed so touches a row which its listing lacks.
use borrow.Author.Rules.{rules}
use Rattle.listing.proofs.Laws.{lacks_no_rows, lacks_any, lacks_some}
use Rattle.listing.proofs.lacks.Goals as goal

pub returns-in_default : goal.returns-in_default
returns-in_default c = search (lacks_no_rows, rules)

pub returns-then-slot-eq0 : goal.returns-then-slot-eq0
returns-then-slot-eq0 c = search (lacks_any, rules)

pub returns : goal.returns
returns c = search (lacks_some, rules)
