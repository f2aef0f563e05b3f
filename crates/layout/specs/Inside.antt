-- For the proofs alone: what is known of a table that lies whole in its image, so that every word of its records is there.
use Rattle.std.specs.Prelude.{ℕ, ◌≤◌, List, ◌≡◌, length}
use Rattle.layout.specs.declared.Table.{Table}
use Rattle.layout.specs.declared.Tables.{Tables}
use Rattle.layout.specs.Layout.{node_size, edge_size, subgraph_size, label_size, element_size, point_size, glyph_size, range_size}
use Rattle.layout.specs.Tables.{table_end}
use Rattle.layout.specs.Small.{Small}

-- a table whose records have `size` words each
pub record Inside (image : List ℕ) (size : ℕ) (table : Table) : Type 0 where
  pub small : Small table
  pub sized : table.size ≡ size
  pub ends : table_end table ≤ length image

pub record AllInside (image : List ℕ) (ts : Tables) : Type 0 where
  pub nodes : Inside image node_size ts.nodes
  pub edges : Inside image edge_size ts.edges
  pub subgraphs : Inside image subgraph_size ts.subgraphs
  pub labels : Inside image label_size ts.labels
  pub elements : Inside image element_size ts.elements
  pub points : Inside image point_size ts.points
  pub glyphs : Inside image glyph_size ts.glyphs
  pub ranges : Inside image range_size ts.ranges
