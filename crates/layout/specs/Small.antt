-- For the proofs alone: what is known of a table whose count is a word of 32 bits, so that no sum of 64 bits wraps.
use Rattle.std.specs.Prelude.{ℕ, ◌+◌, ◌≤◌, ◌<◌, ◌≡◌}
use Rattle.layout.specs.declared.Table.{Table}
use Rattle.layout.specs.declared.Tables.{Tables}
use Rattle.layout.specs.Tables.{table_after}

pub record Small (table : Table) : Type 0 where
  pub start : table.start < 0x10000000000
  pub count : table.count < 0x100000000
  pub size : table.size ≤ 16

-- a table that follows another
pub record Follows (before : Table) (count size : ℕ) (table : Table) : Type 0 where
  pub is : table ≡ table_after before count size
  pub near : table.start ≤ before.start + 0x1000000000
  pub few : table.count < 0x100000000
  pub long : table.size ≡ size

pub record AllSmall (ts : Tables) : Type 0 where
  pub nodes : Small ts.nodes
  pub edges : Small ts.edges
  pub subgraphs : Small ts.subgraphs
  pub labels : Small ts.labels
  pub elements : Small ts.elements
  pub points : Small ts.points
  pub glyphs : Small ts.glyphs
  pub ranges : Small ts.ranges
