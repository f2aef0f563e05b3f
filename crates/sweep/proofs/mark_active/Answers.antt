-- `mark_active` marks the things of the active elements. The invariant: those left mark what all mark.
use borrow.Author.Rules.{rules}
use Prim.Native.Nat.{◌-◌}
use Rattle.sweep.proofs.Laws.{mark_again, mark_done}
use Rattle.sweep.proofs.mark_active.Goals as goal

pub loop-i-preserved : goal.loop-i-preserved
loop-i-preserved c = search (mark_again, rules)

pub returns : goal.returns
returns c = search (mark_done, rules)
