-- `span_bounds` gives where a span's words begin and end, and the empty part where the span leaves its table or the table the image.
use borrow.Author.Rules.{rules}
use Rattle.image.proofs.Laws.{bounds_inside, span_outside, table_outside}
use Rattle.image.proofs.span_bounds.Goals as goal

pub returns-then-table_end-length : goal.returns-then-table_end-length
returns-then-table_end-length c =
    bounds_inside _ _ _ _ _ _ _ c.number-start.ensures.0 c.number-count.ensures.0
    c.record_at.ensures.0 c.record_at-then-table_end-length.ensures.0 (search rules) (search rules)

pub returns-else-table_end-length : goal.returns-else-table_end-length
returns-else-table_end-length c = table_outside _ _ _ (search rules)

pub returns-else-start-count : goal.returns-else-start-count
returns-else-start-count c = span_outside _ _ _ (search rules)
