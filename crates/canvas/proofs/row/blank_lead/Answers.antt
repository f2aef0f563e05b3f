-- `blank_lead` turns the lead of the continuation at a column into a space, where there is one.
use borrow.Author.Rules.{rules}
use Rattle.canvas.proofs.Laws.{blanked, no_lead_before, no_continuation_here, first_column}
use Rattle.canvas.proofs.row.blank_lead.Goals as goal

pub returns-then-is_wide_lead : goal.returns-then-is_wide_lead
returns-then-is_wide_lead c = blanked _ _ _ _ _ _ c.text.ensures (search rules) c.is_continuation.ensures c.is_wide_lead.ensures c.if-is_continuation.true c.if-is_wide_lead.true

pub returns-else-is_wide_lead : goal.returns-else-is_wide_lead
returns-else-is_wide_lead c = no_lead_before _ _ _ _ c.is_wide_lead.ensures c.if-is_wide_lead.false

pub returns-else-is_continuation : goal.returns-else-is_continuation
returns-else-is_continuation c = no_continuation_here _ _ _ _ c.is_continuation.ensures c.if-is_continuation.false

pub returns-else-x-gt0 : goal.returns-else-x-gt0
returns-else-x-gt0 c = first_column _ _ _ c.if-x-gt0.false
