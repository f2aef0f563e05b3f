-- `checksum` takes the items in one after the other. The invariant: what is left to take in makes of the sum now what was to be made of it at first.
use borrow.Author.Rules.{rules}
use Rattle.paintlines.proofs.Laws.{one_summed, all_summed}
use Rattle.paintlines.proofs.buffer.checksum.Goals as goal

pub loop-item-preserved : goal.loop-item-preserved
loop-item-preserved g c = (search rules, search (one_summed, rules))

pub returns : goal.returns
returns g c = search (all_summed, rules)
