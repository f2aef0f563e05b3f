-- `order_faults` tells which half of the order an element breaks.
use borrow.Author.Rules.{rules}
use Rattle.finding.proofs.Laws.{order_put}
use Rattle.finding.proofs.order_faults.Goals as goal

pub returns : goal.returns
returns c = search (order_put, rules)
