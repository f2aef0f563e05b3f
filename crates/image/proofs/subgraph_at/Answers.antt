-- `subgraph_at` reads a subgraph by its fields.
use borrow.Author.Rules.{rules}
use Rattle.image.proofs.Laws.{subgraph_of}
use Rattle.image.proofs.subgraph_at.Goals as goal

pub returns : goal.returns
returns c = subgraph_of _ _ _ _ _ _ _ _ c.bits.ensures (search rules) (search rules) (search rules) (search rules)
