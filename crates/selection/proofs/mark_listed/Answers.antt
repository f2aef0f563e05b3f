-- `mark_listed` is a fresh selection. The invariant: the elements left mark what all mark.
use borrow.Author.Rules.{rules}
use Prim.Native.Nat.{◌-◌}
use Rattle.ground.proofs.Turns.{turns_again}
use Rattle.selection.proofs.Laws.{marked_start, marked_end}
use Rattle.selection.proofs.mark_listed.Goals as goal

pub loop-k-init : goal.loop-k-init
loop-k-init c = marked_start _ _ _ _ _

pub loop-k-preserved : goal.loop-k-preserved
loop-k-preserved c = search (turns_again, rules)

pub returns : goal.returns
returns c = search (marked_end, rules)
