-- `table_after` gives the table that begins where the one before it ends.
use borrow.Author.Rules.{rules}
use Rattle.layout.proofs.table_after.Goals as goal

pub returns : goal.returns
returns c = record { is = rw (c.table_end.ensures.0, c.number.ensures.0, c.word.ensures); near = search rules; few = search rules; long = search rules }
