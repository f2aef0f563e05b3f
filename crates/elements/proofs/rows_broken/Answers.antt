-- `rows_broken` tells whether element k's rows are out of order.
use borrow.Author.Rules.{rules}
use Rattle.elements.proofs.Laws.{rows_turned, rows_alone, rows_after}
use Rattle.elements.proofs.rows_broken.Goals as goal

pub returns-then-field_inside-first : goal.returns-then-field_inside-first
returns-then-field_inside-first c = search (rows_turned, rules)

pub returns-then-k-eq0 : goal.returns-then-k-eq0
returns-then-k-eq0 c = search (rows_alone, rules)

pub returns : goal.returns
returns c = search (rows_after, rules)
