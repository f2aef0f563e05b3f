-- `run_count` counts all runs. The loop's invariant: the runs so far with those of the edges left are all.
use Rattle.things.proofs.Laws.{Counting}
use Rattle.things.proofs.run_count.Given as goal

abbrev pub invariant-loop-k : goal.invariant-loop-k
invariant-loop-k l = Counting l.image l.ts l.k l.total
