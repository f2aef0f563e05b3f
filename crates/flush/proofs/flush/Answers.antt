-- `flush` puts the runs into the rows of a window, block after block. The invariant: the rows left make of the cells and of the colours what all rows make of
-- the first ones, by runs that say the same. The measure: how many rows are left.
use borrow.Author.Rules.{rules}
use Prim.Native.Nat.{◌-◌}
use Rattle.window.specs.Window.{plane_of}
use Rattle.flush.specs.Rows.{cells_at, colours_at}
use Rattle.flush.proofs.Linking.{same_refl, same_trans}
use Rattle.flush.proofs.Windows.{same_room, rows_again, window_done, window_stays}
use Rattle.flush.proofs.flush.Goals as goal

pub returns-then-kept-eq0-clause-stamps_after : goal.returns-then-kept-eq0-clause-stamps_after
returns-then-kept-eq0-clause-stamps_after c = window_stays _ _ _ _ _ _ _ _ (search rules)

pub loop-base-init : goal.loop-base-init
loop-base-init c = (search rules, search rules, search rules, search rules, search rules, same_refl _, search rules, search rules)

pub flush_block-requires-clause-room : goal.flush_block-requires-clause-room
flush_block-requires-clause-room c = (
  search rules,
  same_room _ _ _ _ _ c.loop-base.invariant.3 c.requires.0.others,
  search rules,
  search rules,
)

pub loop-base-preserved : goal.loop-base-preserved
loop-base-preserved c = (
  search rules,
  search rules,
  search rules,
  search rules,
  search rules,
  same_trans _ _ _ c.flush_block.ensures.same_runs c.loop-base.invariant.5,
  rows_again _ _ c.loop-base.invariant.5 _ (cells_at c.args.v c.args.ranges.now) _ _ _ _ _ _
      (search rules) (search rules) c.loop-base.invariant.6 c.flush_block.ensures.cells_after,
  rows_again _ _ c.loop-base.invariant.5 _ (λ runs. colours_at c.args.v runs (plane_of c.args.lent c.args.stamps.now)) _ _ _ _ _ _
      (search rules) (search rules) c.loop-base.invariant.7 c.flush_block.ensures.colours_after,
)

pub returns-clause-stamps_after : goal.returns-clause-stamps_after
returns-clause-stamps_after c = window_done _ _ _ _ _ _ _ _ _ _ c.loop-base-test.false c.loop-base.invariant.6 c.loop-base.invariant.7
