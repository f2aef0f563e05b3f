-- `element` is what an element of an image lists.
use Rattle.finding.proofs.element.Goals as goal

pub returns : goal.returns
returns c = rw (c.element_at.ensures, c.tables_of-ts.ensures.value)
