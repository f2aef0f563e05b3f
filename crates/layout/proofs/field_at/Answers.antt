-- `field_at` is the header's word, or the field of the first table whose end lies past the place.
use borrow.Author.Rules.{rules}
use Rattle.layout.proofs.Laws.{in_header, past_header}
use Rattle.layout.proofs.field_at.Goals as goal

pub returns-then-place-lt-HEADER_SIZE : goal.returns-then-place-lt-HEADER_SIZE
returns-then-place-lt-HEADER_SIZE c = in_header _ _ (search rules)

pub returns : goal.returns
returns c =
    past_header _ _ _ _ _ _ _ (search rules) c.field_in_or.ensures c.field_in_or-edges.ensures
    c.field_in_or-subgraphs.ensures c.field_in_or-labels.ensures (search rules)
