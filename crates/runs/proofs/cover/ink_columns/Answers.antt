-- `ink_columns` inks each column with its weight. The invariant: what is left to ink makes of the row what all makes of the first. The measure: how many
-- columns are left.
use borrow.Author.Rules.{rules}
use Prim.Native.Nat.{◌-◌}
use Rattle.ground.proofs.Turns.{turns_again, turns_done}
use Rattle.runs.specs.Runs.{ink_column}
use Rattle.runs.proofs.cover.ink_columns.Goals as goal

pub loop-x-preserved : goal.loop-x-preserved
loop-x-preserved c = turns_again _ _ _ _ _ _ (search rules) c.loop-x.invariant c.ink_column.ensures

pub returns : goal.returns
returns c = turns_done _ _ _ _ _ c.loop-x-test.false c.loop-x.invariant
