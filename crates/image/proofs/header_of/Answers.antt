-- `header_of` reads the header by its fields.
use borrow.Author.Rules.{rules}
use Rattle.image.proofs.Laws.{header_of_lem}
use Rattle.image.proofs.header_of.Goals as goal

pub returns : goal.returns
returns c = header_of_lem _ _ _ _ c.four_at-width.ensures (search rules) (search rules)
