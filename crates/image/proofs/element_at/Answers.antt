-- `element_at` reads an element by its fields.
use borrow.Author.Rules.{rules}
use Rattle.image.proofs.Laws.{element_of}
use Rattle.image.proofs.element_at.Goals as goal

pub returns : goal.returns
returns c = element_of _ _ _ _ _ c.from.ensures (search rules)
