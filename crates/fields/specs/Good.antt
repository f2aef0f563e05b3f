-- Code 4 in words: every record of every table is good.
use Rattle.std.specs.Prelude.{ℕ, ◌<◌, List}
use Rattle.layout.specs.declared.RecordKind.TheVariants as kind
use Rattle.layout.specs.declared.Tables.{Tables}
use Rattle.layout.specs.Tables.{field}
use Rattle.records.specs.Good.{RecordGood}

pub record RecordsGood (image : List ℕ) (ts : Tables) : Type 0 where
  pub nodes : (k : ℕ) → k < ts.nodes.count → RecordGood kind.Node ts (field image ts.nodes k)
  pub edges : (k : ℕ) → k < ts.edges.count → RecordGood kind.Edge ts (field image ts.edges k)
  pub subgraphs : (k : ℕ) → k < ts.subgraphs.count → RecordGood kind.Subgraph ts (field image ts.subgraphs k)
  pub labels : (k : ℕ) → k < ts.labels.count → RecordGood kind.PlacedLabel ts (field image ts.labels k)
  pub elements : (k : ℕ) → k < ts.elements.count → RecordGood kind.Element ts (field image ts.elements k)
  pub points : (k : ℕ) → k < ts.points.count → RecordGood kind.Point ts (field image ts.points k)
  pub glyphs : (k : ℕ) → k < ts.glyphs.count → RecordGood kind.Glyph ts (field image ts.glyphs k)
  pub ranges : (k : ℕ) → k < ts.ranges.count → RecordGood kind.Range ts (field image ts.ranges k)
