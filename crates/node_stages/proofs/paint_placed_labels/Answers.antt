-- `paint_placed_labels` paints every placed label. The loop's invariant: the labels left give what all of them give.
use borrow.Author.Rules.{rules}
use Prim.Native.Nat.{◌-◌}
use Rattle.window.proofs.Theorems.{ready_after}
use Rattle.stage.proofs.Laws.{stage_begins, stage_again, stage_done}
use Rattle.node_stages.proofs.paint_placed_labels.Goals as goal

pub loop-k-init : goal.loop-k-init
loop-k-init c = (search rules, stage_begins _ _ _ _ _)

pub loop-k-preserved : goal.loop-k-preserved
loop-k-preserved c = (search (ready_after, rules), search (stage_again, rules))

pub returns : goal.returns
returns c = search (stage_done, rules)
