-- `begins_below`.
use borrow.Author.Rules.{rules}
use Rattle.sweep.proofs.Laws.{read_test}
use Rattle.sweep.proofs.begins_below.Goals as goal

pub returns : goal.returns
returns c = search (read_test, rules)
