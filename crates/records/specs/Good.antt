-- The rules in words: what document 01 allows in each record. `w` gives the record's word at an offset.
use Rattle.std.specs.Prelude.{ℕ, ◌+◌, ◌%◌, ◌≤◌, ◌<◌, true, false, ◌⊎◌, ◌≡◌}
use Rattle.layout.specs.declared.RecordKind.{RecordKind}
use Rattle.layout.specs.declared.RecordKind.TheVariants as kind
use Rattle.layout.specs.declared.Tables.{Tables}
use Rattle.layout.specs.Layout.{max_coordinate, max_scalar, first_surrogate, last_surrogate}
use Rattle.layout.specs.Layout.{node_x, node_y, node_width, node_height, node_label_start, node_label_count, node_flags, node_loop_x, node_loop_y, node_spare, self_loop}
use Rattle.layout.specs.Layout.{edge_from_x, edge_from_y, edge_to_x, edge_to_y, edge_flags, edge_a, edge_b, edge_c, edge_label_start, edge_label_count, edge_spare, label_present}
use Rattle.layout.specs.Layout.{path_direct, path_corner, path_side_channel, path_multi_segment, path_orthogonal, path_spline}
use Rattle.layout.specs.Layout.{subgraph_x, subgraph_y, subgraph_width, subgraph_height, subgraph_label_start, subgraph_label_count, subgraph_flags, subgraph_spare}
use Rattle.layout.specs.Layout.{label_edge, label_x, label_y, label_flags, label_spare, element_kind, element_index, element_first_row, element_last_row}
use Rattle.layout.specs.Layout.{point_x, point_y, glyph_value, range_first, range_last, range_width}
use Rattle.layout.specs.Tables.{flag}
use Rattle.image.specs.declared.ElementKind.TheVariants as thing
use Rattle.image.specs.Records.{element_kind_of, element_kind_number}
use Rattle.edge_rules.specs.Edge.{path_number, weight_number}
use Rattle.records.specs.Records.{thing_count}

-- "loop x, loop y (both 0 without the bit)"
pub record LoopGood (flags n : ℕ) : Type 0 where
  pub present : flag flags self_loop ≡ true → n ≤ max_coordinate
  pub absent : flag flags self_loop ≡ false → n ≡ 0

pub record NodeGood (glyphs : ℕ) (w : ℕ → ℕ) : Type 0 where
  pub x : w node_x ≤ max_coordinate
  pub y : w node_y ≤ max_coordinate
  pub width : w node_width ≤ max_coordinate
  pub height : w node_height ≤ max_coordinate
  pub label : w node_label_start + w node_label_count ≤ glyphs
  pub spare : w node_flags % node_spare ≡ 0
  pub loop_x : LoopGood (w node_flags) (w node_loop_x)
  pub loop_y : LoopGood (w node_flags) (w node_loop_y)

-- "path 3 bits (0 Direct, .., 5 Spline) .. weight 2 (1 Dashed, 2 Light, 3 Double)"
pub record EdgeFlagsGood (flags : ℕ) : Type 0 where
  pub path : path_number flags ≤ path_spline
  pub weight : 0 < weight_number flags
  pub spare : flags % edge_spare ≡ 0

-- "Corner: a bend. SideChannel: channel, span start, span end. MultiSegment: first point, count, start offset. Orthogonal: first point, count. Unused a, b,
-- c are 0."
pub record PathGood (points path a b c : ℕ) : Type 0 where
  pub direct : path ≡ path_direct → (a ≡ 0) × (b ≡ 0) × (c ≡ 0)
  pub corner : path ≡ path_corner → (a ≤ max_coordinate) × (b ≡ 0) × (c ≡ 0)
  pub side_channel : path ≡ path_side_channel → (a ≤ max_coordinate) × (b ≤ max_coordinate) × (c ≤ max_coordinate)
  pub multi_segment : path ≡ path_multi_segment → (a + b ≤ points) × (c ≤ max_coordinate)
  pub orthogonal : path ≡ path_orthogonal → (a + b ≤ points) × (c ≡ 0)
  pub spline : path ≡ path_spline → (a ≡ 0) × (b ≡ 0) × (c ≡ 0)

-- "label present 1 (else start and count 0)"
pub record LabelGood (glyphs flags start count : ℕ) : Type 0 where
  pub present : flag flags label_present ≡ true → start + count ≤ glyphs
  pub absent : flag flags label_present ≡ false → (start ≡ 0) × (count ≡ 0)

pub record EdgeGood (points glyphs : ℕ) (w : ℕ → ℕ) : Type 0 where
  pub from_x : w edge_from_x ≤ max_coordinate
  pub from_y : w edge_from_y ≤ max_coordinate
  pub to_x : w edge_to_x ≤ max_coordinate
  pub to_y : w edge_to_y ≤ max_coordinate
  pub flags : EdgeFlagsGood (w edge_flags)
  pub through : PathGood points (path_number (w edge_flags)) (w edge_a) (w edge_b) (w edge_c)
  pub label : LabelGood glyphs (w edge_flags) (w edge_label_start) (w edge_label_count)

pub record SubgraphGood (glyphs : ℕ) (w : ℕ → ℕ) : Type 0 where
  pub x : w subgraph_x ≤ max_coordinate
  pub y : w subgraph_y ≤ max_coordinate
  pub width : w subgraph_width ≤ max_coordinate
  pub height : w subgraph_height ≤ max_coordinate
  pub label : w subgraph_label_start + w subgraph_label_count ≤ glyphs
  pub spare : w subgraph_flags % subgraph_spare ≡ 0

pub record PlacedLabelGood (edges : ℕ) (w : ℕ → ℕ) : Type 0 where
  pub edge : w label_edge < edges
  pub x : w label_x ≤ max_coordinate
  pub y : w label_y ≤ max_coordinate
  pub spare : w label_flags % label_spare ≡ 0

pub record ElementGood (nodes edges subgraphs : ℕ) (w : ℕ → ℕ) : Type 0 where
  pub kind : w element_kind ≤ element_kind_number thing.Subgraph
  pub index : w element_index < thing_count nodes edges subgraphs (element_kind_of (w element_kind))
  pub first_row : w element_first_row ≤ max_coordinate
  pub last_row : w element_last_row ≤ max_coordinate

pub record PointGood (w : ℕ → ℕ) : Type 0 where
  pub x : w point_x ≤ max_coordinate
  pub y : w point_y ≤ max_coordinate

-- "a Unicode scalar value": one up to 10FFFF that is no surrogate

abbrev pub Scalar : ℕ → Type 0
Scalar n = (n < first_surrogate) ⊎ ((last_surrogate < n) × (n ≤ max_scalar))

pub record GlyphGood (w : ℕ → ℕ) : Type 0 where
  pub value : Scalar (w glyph_value)

-- "first, last (each to 10FFFF), width 0 or 2"

abbrev pub Width : ℕ → Type 0
Width n = (n ≡ 0) ⊎ (n ≡ 2)

pub record RangeWordsGood (w : ℕ → ℕ) : Type 0 where
  pub first : w range_first ≤ max_scalar
  pub last : w range_last ≤ max_scalar
  pub width : Width (w range_width)

-- a record of any kind
abbrev pub RecordGood : RecordKind → Tables → (ℕ → ℕ) → Type 0
RecordGood kind.Node ts = NodeGood ts.glyphs.count
RecordGood kind.Edge ts = EdgeGood ts.points.count ts.glyphs.count
RecordGood kind.Subgraph ts = SubgraphGood ts.glyphs.count
RecordGood kind.PlacedLabel ts = PlacedLabelGood ts.edges.count
RecordGood kind.Element ts = ElementGood ts.nodes.count ts.edges.count ts.subgraphs.count
RecordGood kind.Point ts = PointGood
RecordGood kind.Glyph ts = GlyphGood
RecordGood kind.Range ts = RangeWordsGood
