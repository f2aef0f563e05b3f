-- `sheet_of` gives the window of all rows.
use borrow.Author.Rules.{rules}
use Rattle.things.proofs.Laws.{sheet_read}
use Rattle.things.proofs.sheet_of.Goals as goal

pub returns : goal.returns
returns c = search (sheet_read, rules)
