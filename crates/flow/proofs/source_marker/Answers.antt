-- `source_marker` gives the marker at the source, swapped where the edge is reversed.
use Rattle.flow.proofs.source_marker.Goals as goal

pub returns-then-e : goal.returns-then-e
returns-then-e c = rw c.if-e.true

pub returns-else-e : goal.returns-else-e
returns-else-e c = rw c.if-e.false
