-- `rows_from` is the stated height or what is left.
use borrow.Author.Rules.{rules}
use Rattle.bands.proofs.Next.{rows_are}
use Rattle.bands.proofs.rows_from.Goals as goal

pub returns : goal.returns
returns c = search (rows_are, rules)
