-- `empty_continuation` empties the continuation of the wide lead at a column, where there is one.
use Rattle.canvas.proofs.Laws.{emptied, no_continuation_next, no_lead_here, last_column}
use Rattle.canvas.proofs.row.empty_continuation.Goals as goal

pub returns-then-is_continuation : goal.returns-then-is_continuation
returns-then-is_continuation c = emptied _ _ _ _ _ c.is_wide_lead.ensures c.is_continuation.ensures c.if-is_wide_lead.true c.if-is_continuation.true

pub returns-else-is_continuation : goal.returns-else-is_continuation
returns-else-is_continuation c = no_continuation_next _ _ _ _ c.is_continuation.ensures c.if-is_continuation.false

pub returns-else-is_wide_lead : goal.returns-else-is_wide_lead
returns-else-is_wide_lead c = no_lead_here _ _ _ _ c.is_wide_lead.ensures c.if-is_wide_lead.false

pub returns-else-next-row : goal.returns-else-next-row
returns-else-next-row c = last_column _ _ _ c.if-next-row.false
