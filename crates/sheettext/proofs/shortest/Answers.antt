-- `shortest` takes a scalar value that is written in no more bytes than it takes.
use borrow.Author.Rules.{rules}
use Rattle.sheettext.proofs.Scalars.{past_scalars}
use Rattle.sheettext.proofs.shortest.Goals as goal

pub returns-in_default-3 : goal.returns-in_default-3
returns-in_default-3 c = search (past_scalars, rules)
