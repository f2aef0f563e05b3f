-- `thread` threads the runs one after the other. The invariant: the first k are threaded.
use Rattle.flush.specs.Threads.{Threaded}
use Rattle.flush.proofs.link.thread.Given as goal

abbrev pub invariant-loop-k : goal.invariant-loop-k
invariant-loop-k l =
    Threaded l.initial.scratch l.scratch l.heads l.base l.k
