-- `paint_labels` paints the labels of all subgraphs, by index. The invariant: with those left, what is painted is the whole.
use borrow.Author.Rules.{rules}
use Prim.Native.Nat.{◌-◌}
use mathlib.Core.Path.{refl}
use Rattle.window.proofs.Theorems.{ready_after}
use Rattle.stage.proofs.Laws.{stage_begins, stage_done}
use Rattle.subgraph_stages.proofs.Laws.{labels_next}
use Rattle.subgraph_stages.proofs.paint_labels.Goals as goal

pub loop-k-init : goal.loop-k-init
loop-k-init c = (search rules, refl, refl, refl, search rules, stage_begins _ _ _ _ _)

pub loop-k-preserved : goal.loop-k-preserved
loop-k-preserved c = (
  search rules,
  search rules,
  search rules,
  search rules,
  search (ready_after, rules),
  search (labels_next, rules),
)

pub returns : goal.returns
returns c = search (stage_done, rules)
