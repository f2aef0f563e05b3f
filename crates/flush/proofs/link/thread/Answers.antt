-- `thread` threads the runs one after the other. The invariant: the first k are threaded.
use borrow.Author.Rules.{rules}
use Prim.Native.Nat.{◌-◌}
use Rattle.flush.proofs.Linking.{threaded_all}
use Rattle.flush.proofs.link.thread.Goals as goal

pub loop-k-preserved : goal.loop-k-preserved
loop-k-preserved c = c.thread_run.ensures _ c.loop-k.invariant

pub returns : goal.returns
returns c = threaded_all _ _ _ _ _ _ (search rules) c.loop-k-test.false c.loop-k.invariant
