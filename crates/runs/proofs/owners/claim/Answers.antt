-- `claim` claims each column. The invariant: what is left to claim makes of the owners what all makes of the first.
use borrow.Author.Rules.{rules}
use Prim.Native.Nat.{◌-◌}
use Rattle.ground.proofs.Turns.{turns_again, turns_done}
use Rattle.runs.specs.Kept.{claim_column}
use Rattle.runs.proofs.owners.claim.Goals as goal

pub loop-x-preserved : goal.loop-x-preserved
loop-x-preserved c = turns_again _ _ _ _ _ _ (search rules) c.loop-x.invariant c.claim_column.ensures

pub returns : goal.returns
returns c = turns_done _ _ _ _ _ c.loop-x-test.false c.loop-x.invariant
