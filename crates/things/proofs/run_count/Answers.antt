-- `run_count` counts all runs. The loop's invariant: the runs so far with those of the edges left are all.
use borrow.Author.Rules.{rules}
use Rattle.things.proofs.Laws.{counting_whole, counting_again, counting_done}
use Rattle.things.proofs.run_count.Goals as goal

pub loop-k-init : goal.loop-k-init
loop-k-init c = counting_whole _ _

pub loop-k-preserved : goal.loop-k-preserved
loop-k-preserved c = search (counting_again, rules)

pub returns : goal.returns
returns c = search (counting_done, rules)
