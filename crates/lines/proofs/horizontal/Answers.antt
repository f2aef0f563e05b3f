-- `horizontal` is the writes of a line along a row.
use borrow.Author.Rules.{rules}
use mathlib.Core.Path.{sym, ◌∙◌}
use Rattle.lines.proofs.Inked.{horizontal_done, horizontal_none, horizontal_missed}
use Rattle.lines.proofs.horizontal.Goals as goal

pub returns-else-high-before-gt1 : goal.returns-else-high-before-gt1
returns-else-high-before-gt1 c = horizontal_none _ c.args.tint c.args.arms c.args.dashed c.args.line _ _ _ _ c.min-before.ensures c.max-high.ensures _ _ _ (search rules)

pub returns-else-has : goal.returns-else-has
returns-else-has c =
    horizontal_missed _ c.args.tint c.args.arms c.args.dashed c.args.line _ _ _ _ c.min-before.ensures c.max-high.ensures _ _ _
    (sym c.has.ensures ∙ c.if-has.false)

pub returns-then-high-before-gt1 : goal.returns-then-high-before-gt1
returns-then-high-before-gt1 c =
    horizontal_done _ _ _ _ _ _ _ _ _ c.min-before.ensures c.max-high.ensures _ _ _ _ _ _ c.horizontal_row.ensures.cells_after
    (c.horizontal_row.ensures.colours_after, c.horizontal_row.ensures.stamps_after)
