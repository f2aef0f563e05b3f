-- `fixed_in` gives the first of the four fixed characters that a range holds.
use borrow.Author.Rules.{rules}
use Rattle.finding.proofs.Laws.{one_of_four}
use Rattle.finding.proofs.fixed_in.Goals as goal

pub returns : goal.returns
returns c = search (one_of_four, rules)
