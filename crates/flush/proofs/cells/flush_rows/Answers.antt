-- `flush_rows` puts the runs of each row into its cells. The invariant: the rows left make of the cells what all rows make of the first.
use borrow.Author.Rules.{rules}
use Prim.Native.Nat.{◌-◌}
use Rattle.ground.proofs.Turns.{turns_again, turns_done}
use Rattle.flush.proofs.Linking.{row_threads}
use Rattle.flush.proofs.cells.flush_rows.Goals as goal

pub flush_row-requires-clause-head_value : goal.flush_row-requires-clause-head_value
flush_row-requires-clause-head_value c = row_threads _ _ _ _ _ _ c.requires.n_in_bounds.2 (search rules) (search rules) c.number-head.ensures.0

pub loop-y-preserved : goal.loop-y-preserved
loop-y-preserved c = turns_again _ _ _ _ _ _ (search rules) c.loop-y.invariant c.flush_row.ensures

pub returns : goal.returns
returns c = turns_done _ _ _ _ _ c.loop-y-test.false c.loop-y.invariant
