-- `edge_at` reads an edge by its fields.
use borrow.Author.Rules.{rules}
use Rattle.image.proofs.Laws.{edge_of}
use Rattle.image.proofs.edge_at.Goals as goal

pub returns : goal.returns
returns c = edge_of _ _ _ _ _ _ _ _ _ c.edge_label_of.ensures c.path_of.ensures (search rules) (search rules) (search rules) (search rules)
