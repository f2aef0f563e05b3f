-- `field_in_or` is the field in this kind's table, or else the later one.
use borrow.Author.Rules.{rules}
use Rattle.layout.proofs.Laws.{in_this, no_words, past_end}
use Rattle.layout.proofs.field_in_or.Goals as goal

pub returns-then-table-gt0 : goal.returns-then-table-gt0
returns-then-table-gt0 c = in_this _ _ _ _ _ (search rules) (search rules) c.field_in.ensures

pub returns-else-table-gt0 : goal.returns-else-table-gt0
returns-else-table-gt0 c = no_words _ _ _ _ (search rules)

pub returns-else-place-table_end : goal.returns-else-place-table_end
returns-else-place-table_end c = past_end _ _ _ _ (search rules)
