-- `range_faults_in` tells which rules a range breaks.
use borrow.Author.Rules.{rules}
use Rattle.finding.proofs.Laws.{range_put}
use Rattle.finding.proofs.range_faults_in.Goals as goal

pub returns : goal.returns
returns c = search (range_put, rules)
