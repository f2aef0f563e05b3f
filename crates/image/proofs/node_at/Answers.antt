-- `node_at` reads a node by its fields.
use borrow.Author.Rules.{rules}
use Rattle.image.proofs.Laws.{node_of}
use Rattle.image.proofs.node_at.Goals as goal

pub returns : goal.returns
returns c = node_of _ _ _ _ _ _ _ _ _ c.from.ensures c.bits-kind.ensures c.self_loop_of.ensures (search rules) (search rules) (search rules)
