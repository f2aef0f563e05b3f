-- `placed_label_at` reads a placed label by its fields.
use borrow.Author.Rules.{rules}
use Rattle.image.proofs.Laws.{placed_label_of}
use Rattle.image.proofs.placed_label_at.Goals as goal

pub returns : goal.returns
returns c = placed_label_of _ _ _ _ _ _ c.four_at-edge.ensures (search rules) (search rules)
