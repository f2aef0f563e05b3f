-- `raise` raises the weight of each column. The invariant: what is left to raise makes of the cover what all makes of the first. The measure: how many
-- columns are left.
use borrow.Author.Rules.{rules}
use Prim.Native.Nat.{◌-◌}
use Rattle.ground.proofs.Turns.{turns_again, turns_done}
use Rattle.runs.proofs.Covering.{raise_here}
use Rattle.runs.proofs.cover.raise.Goals as goal

pub loop-x-preserved : goal.loop-x-preserved
loop-x-preserved c = turns_again _ _ _ _ _ _ (search rules) c.loop-x.invariant (raise_here _ _ _ _ c.heavier.ensures)

pub returns : goal.returns
returns c = turns_done _ _ _ _ _ c.loop-x-test.false c.loop-x.invariant
