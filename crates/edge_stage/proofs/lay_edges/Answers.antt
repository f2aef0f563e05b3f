-- `lay_edges` draws all edges, by index, and keeps their runs. The invariant: so are those passed.
use borrow.Author.Rules.{rules}
use Prim.Native.Nat.{◌-◌}
use mathlib.Core.Path.{refl}
use Rattle.edge_stage.proofs.Laws.{laid_begins, edges_next, laid_done, layable_after}
use Rattle.edge_stage.proofs.lay_edges.Goals as goal

pub loop-k-init : goal.loop-k-init
loop-k-init c = (search rules, refl, refl, refl, refl, search rules, laid_begins _ _ _ _ _ (search rules))

pub loop-k-preserved : goal.loop-k-preserved
loop-k-preserved c = (
  search rules,
  search rules,
  search rules,
  search rules,
  search rules,
  search (layable_after, rules),
  search (edges_next, rules),
)

pub returns : goal.returns
returns c = search (laid_done, rules)
