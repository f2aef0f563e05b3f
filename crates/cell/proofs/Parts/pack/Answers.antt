-- `Parts::pack` gives the packing of each kind of parts.
use Rattle.cell.specs.OneCell.{pack}
use Rattle.cell.proofs.Parts.pack.Goals as goal

pub returns-in-Empty : goal.returns-in-Empty
unfolding pack
returns-in-Empty c = rw c.in-Empty.is

pub returns-in-Text : goal.returns-in-Text
unfolding pack
returns-in-Text c = rw c.in-Text.is

pub returns-in-Continuation : goal.returns-in-Continuation
unfolding pack
returns-in-Continuation c = rw c.in-Continuation.is

pub returns-in-Stroke : goal.returns-in-Stroke
unfolding pack
returns-in-Stroke c = rw (c.in-Stroke.is, c.pack.ensures.0)

pub returns-in-Marker : goal.returns-in-Marker
unfolding pack
returns-in-Marker c = rw (c.in-Marker.is, c.pack_marker.ensures.0)
