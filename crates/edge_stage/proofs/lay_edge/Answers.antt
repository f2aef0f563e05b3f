-- `lay_edge` draws an edge that is marked; any other makes no ink and no run in the window.
use borrow.Author.Rules.{rules}
use mathlib.Core.Path.{refl}
use Rattle.edge_stage.proofs.Laws.{edge_drawn, edge_passed}
use Rattle.edge_stage.proofs.lay_edge.Goals as goal

pub returns-then-is_marked : goal.returns-then-is_marked
returns-then-is_marked c = edge_drawn _ _ _ _ _ _ _ _ _ _ _ c.draw_edge.ensures refl (search rules) (search rules)

pub returns : goal.returns
returns c = search (edge_passed, rules)
