-- `edge_span` is the span of an edge's label, and one of no glyphs where it has none.
use Rattle.glyph_owner.specs.Owner.{edge_span}
use Rattle.glyph_owner.proofs.edge_span.Goals as goal

pub returns : goal.returns
unfolding edge_span
returns c = rw (← c.edge_at-edge.ensures, c.unwrap_or.ensures)
