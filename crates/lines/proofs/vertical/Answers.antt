-- `vertical` is the writes of a line down a column.
use borrow.Author.Rules.{rules}
use Rattle.lines.proofs.Inked.{vertical_done, vertical_missed}
use Rattle.lines.proofs.vertical.Goals as goal

pub returns-else-low-end : goal.returns-else-low-end
returns-else-low-end c = vertical_missed _ c.args.tint c.args.arms c.args.dashed c.args.line _ _ _ _ c.min-before.ensures c.max-high.ensures _ _ _ (search rules)

pub returns-else-high-before-gt1 : goal.returns-else-high-before-gt1
returns-else-high-before-gt1 c = vertical_missed _ c.args.tint c.args.arms c.args.dashed c.args.line _ _ _ _ c.min-before.ensures c.max-high.ensures _ _ _ (search rules)

pub returns-else-first-high : goal.returns-else-first-high
returns-else-first-high c = vertical_missed _ c.args.tint c.args.arms c.args.dashed c.args.line _ _ _ _ c.min-before.ensures c.max-high.ensures _ _ _ (search rules)

pub returns-then-low-end : goal.returns-then-low-end
returns-then-low-end c =
    vertical_done _ _ _ _ _ _ _ _ _ c.min-before.ensures c.max-high.ensures _ _ _ _ _ _ c.vertical_rows.ensures.cells_after
    (c.vertical_rows.ensures.colours_after, c.vertical_rows.ensures.stamps_after)
