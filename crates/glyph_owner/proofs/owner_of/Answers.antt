-- `owner_of` asks nodes, edges and subgraphs in turn.
use borrow.Author.Rules.{rules}
use Rattle.glyph_owner.proofs.Laws.{in_turn}
use Rattle.glyph_owner.proofs.owner_of.Goals as goal

pub returns : goal.returns
returns c = search (in_turn, rules)
