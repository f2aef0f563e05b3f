-- `flush_block` threads the runs of a block of rows, and puts them into the cells and the colours.
use borrow.Author.Rules.{rules}
use Rattle.window.specs.Window.{plane_of}
use Rattle.flush.specs.Rows.{cells_at, colours_at}
use Rattle.flush.proofs.Linking.{thread_begin, threads}
use Rattle.flush.proofs.Windows.{rows_same}
use Rattle.flush.proofs.flush_block.Goals as goal

pub thread-requires-clause-threaded : goal.thread-requires-clause-threaded
thread-requires-clause-threaded c = thread_begin _ 1024 _

pub flush_rows-requires-clause-n_in_bounds : goal.flush_rows-requires-clause-n_in_bounds
flush_rows-requires-clause-n_in_bounds c = (search rules, search rules, threads _ _ _ _ _ c.thread.ensures)

pub colour_lent-requires-clause-n_in_bounds : goal.colour_lent-requires-clause-n_in_bounds
colour_lent-requires-clause-n_in_bounds c = (search rules, search rules, threads _ _ _ _ _ c.thread.ensures)

pub returns-clause-cells_after : goal.returns-clause-cells_after
returns-clause-cells_after c = rows_same _ _ c.thread.ensures.same _ (cells_at c.args.v c.args.ranges.now) _ _ _ _ c.flush_rows.ensures

pub returns-clause-colours_after : goal.returns-clause-colours_after
returns-clause-colours_after c = rows_same _ _ c.thread.ensures.same _ (λ runs. colours_at c.args.v runs (plane_of c.args.lent c.args.stamps.now)) _ _ _ _ c.colour_lent.ensures

pub returns-clause-same_runs : goal.returns-clause-same_runs
returns-clause-same_runs c = c.thread.ensures.same
