-- The header and each record by its fields. Every reading is of any words: a word past the end reads 0.
use Rattle.std.specs.Prelude.{ℕ, Bool, cond, List, eqb, Option}
use Rattle.std.specs.Bool.{then_some}
use Rattle.cell.specs.OneCell.{weight_of}
use Rattle.layout.specs.declared.Table.{Table}
use Rattle.layout.specs.declared.Tables.{Tables}
use Rattle.layout.specs.Layout.{header_width, header_height, header_runs, header_flags, avoid_node_rows, show_dummies}
use Rattle.layout.specs.Layout.{node_x, node_y, node_width, node_height, node_label_start, node_label_count, node_flags, node_loop_x, node_loop_y}
use Rattle.layout.specs.Layout.{node_kind_step, node_kinds, self_loop}
use Rattle.layout.specs.Layout.{edge_from_x, edge_from_y, edge_to_x, edge_to_y, edge_flags, edge_a, edge_b, edge_c}
use Rattle.layout.specs.Layout.{edge_label_start, edge_label_count, edge_colour, edge_label_colour}
use Rattle.layout.specs.Layout.{path_step, paths, flow_x, reversed, start_marker, end_marker, weight_step, weights, label_present}
use Rattle.layout.specs.Layout.{path_corner, path_side_channel, path_multi_segment, path_orthogonal, path_spline}
use Rattle.layout.specs.Layout.{subgraph_x, subgraph_y, subgraph_width, subgraph_height, subgraph_label_start, subgraph_label_count}
use Rattle.layout.specs.Layout.{subgraph_flags, subgraph_colour, border_step, borders, inside_bottom}
use Rattle.layout.specs.Layout.{label_edge, label_x, label_y, label_flags, placeable, row_has_node}
use Rattle.layout.specs.Layout.{element_kind, element_index, element_first_row, element_last_row}
use Rattle.layout.specs.Tables.{word, bits, flag, field}
use Rattle.image.specs.declared.LabelPolicy.{LabelPolicy}
use Rattle.image.specs.declared.LabelPolicy.TheVariants.{Geometric, AvoidNodeRows}
use Rattle.image.specs.declared.Header.{Header}
use Rattle.image.specs.declared.Span.{Span}
use Rattle.image.specs.declared.NodeKind.{NodeKind}
use Rattle.image.specs.declared.NodeKind.TheVariants.{Simple, Boxed, Blank, Dummy}
use Rattle.image.specs.declared.Point.{Point}
use Rattle.image.specs.declared.Node.{Node}
use Rattle.image.specs.declared.Path.{Path}
use Rattle.image.specs.declared.Path.TheVariants.{Direct, Corner, SideChannel, MultiSegment, Orthogonal, Spline}
use Rattle.image.specs.declared.FlowAxis.{FlowAxis}
use Rattle.image.specs.declared.FlowAxis.TheVariants.{Y, X}
use Rattle.image.specs.declared.Edge.{Edge}
use Rattle.image.specs.declared.LabelPosition.{LabelPosition}
use Rattle.image.specs.declared.LabelPosition.TheVariants.{InsideTop, InsideBottom}
use Rattle.image.specs.declared.Subgraph.{Subgraph}
use Rattle.image.specs.declared.PlacedLabel.{PlacedLabel}
use Rattle.image.specs.declared.ElementKind.{ElementKind}
use Rattle.image.specs.declared.ElementKind.TheVariants as kind
use Rattle.image.specs.declared.Element.{Element}

-- "Header, 12 words: width, height, run capacity, flags (label policy 1 bit: 0 Geometric, 1 AvoidNodeRows; show dummies 1 bit), then counts"

abbrev pub policy_of : Bool → LabelPolicy
policy_of avoid = cond avoid AvoidNodeRows Geometric

unfoldable pub header_of : List ℕ → Header
header_of image = record {
  width = word image header_width;
  height = word image header_height;
  run_capacity = word image header_runs;
  policy = policy_of (flag (word image header_flags) avoid_node_rows);
  show_dummies = flag (word image header_flags) show_dummies;
}

-- a span as two fields of record k: start and count
abbrev pub span_at : List ℕ → Table → ℕ → ℕ → ℕ → Span
span_at image table k start count = record { start = field image table k start; count = field image table k count }

-- "node, 9: x, y, width, height, label start, label count, flags (kind 2 bits: 0 simple, 1 boxed, 2 blank, 3 dummy; self-loop 1 bit), loop x, loop y
-- (both 0 without the bit)"

unfoldable pub node_kind_of : ℕ → NodeKind
node_kind_of n = cond (eqb n 0) Simple (cond (eqb n 1) Boxed (cond (eqb n 2) Blank Dummy))

unfoldable pub self_loop_of : Bool → ℕ → ℕ → Option Point
self_loop_of present x y = then_some present (record { x = x; y = y })

unfoldable pub node_at : List ℕ → Table → ℕ → Node
node_at image nodes k = record {
  x = field image nodes k node_x;
  y = field image nodes k node_y;
  width = field image nodes k node_width;
  height = field image nodes k node_height;
  label = span_at image nodes k node_label_start node_label_count;
  kind = node_kind_of (bits (field image nodes k node_flags) node_kind_step node_kinds);
  self_loop =
      self_loop_of (flag (field image nodes k node_flags) self_loop) (field image nodes k node_loop_x)
      (field image nodes k node_loop_y);
}

-- "Corner: a bend. SideChannel: channel, span start, span end. MultiSegment: first point, count, start offset. Orthogonal: first point, count." A number
-- that is no path's reads as Direct.
unfoldable pub path_of : ℕ → ℕ → ℕ → ℕ → Path
path_of number a b c =
    cond (eqb number path_corner) (Corner a)
    (cond (eqb number path_side_channel) (SideChannel a b c)
    (cond (eqb number path_multi_segment) (MultiSegment (record { start = a; count = b }) c)
    (cond (eqb number path_orthogonal) (Orthogonal (record { start = a; count = b }))
    (cond (eqb number path_spline) Spline Direct))))

-- "flow axis 1 (0 Y, 1 X)"
abbrev pub axis_of : Bool → FlowAxis
axis_of across = cond across X Y

-- "label present 1 (else start and count 0)"
unfoldable pub edge_label_of : Bool → Span → Option Span
edge_label_of present span = then_some present span

-- "edge, 12: from x, from y, to x, to y, flags, a, b, c, label start, label count, colour, label colour. Flags: path 3 bits, flow axis 1 (0 Y, 1 X),
-- reversed 1, start marker 1, end marker 1, weight 2 (1 Dashed, 2 Light, 3 Double), label present 1"
unfoldable pub edge_at : List ℕ → Table → ℕ → Edge
edge_at image edges k = record {
  from_x = field image edges k edge_from_x;
  from_y = field image edges k edge_from_y;
  to_x = field image edges k edge_to_x;
  to_y = field image edges k edge_to_y;
  path =
      path_of (bits (field image edges k edge_flags) path_step paths) (field image edges k edge_a)
      (field image edges k edge_b) (field image edges k edge_c);
  flow_axis = axis_of (flag (field image edges k edge_flags) flow_x);
  reversed = flag (field image edges k edge_flags) reversed;
  start_marker = flag (field image edges k edge_flags) start_marker;
  end_marker = flag (field image edges k edge_flags) end_marker;
  weight = weight_of (bits (field image edges k edge_flags) weight_step weights);
  label =
      edge_label_of (flag (field image edges k edge_flags) label_present)
      (span_at image edges k edge_label_start edge_label_count);
  colour = field image edges k edge_colour;
  label_colour = field image edges k edge_label_colour;
}

-- "subgraph, 8: x, y, width, height, label start, label count, flags (border 2 bits, 0 none, else as edge weight; label position 1 bit, 0 InsideTop,
-- 1 InsideBottom), colour (0 keeps what is there)"

abbrev pub position_of : Bool → LabelPosition
position_of bottom = cond bottom InsideBottom InsideTop

unfoldable pub subgraph_at : List ℕ → Table → ℕ → Subgraph
subgraph_at image subgraphs k = record {
  x = field image subgraphs k subgraph_x;
  y = field image subgraphs k subgraph_y;
  width = field image subgraphs k subgraph_width;
  height = field image subgraphs k subgraph_height;
  label = span_at image subgraphs k subgraph_label_start subgraph_label_count;
  border = weight_of (bits (field image subgraphs k subgraph_flags) border_step borders);
  position = position_of (flag (field image subgraphs k subgraph_flags) inside_bottom);
  colour = field image subgraphs k subgraph_colour;
}

-- "placed label, 4: edge, x, y, flags (placeable, row has node)"
unfoldable pub placed_label_at : List ℕ → Table → ℕ → PlacedLabel
placed_label_at image labels k = record {
  edge = field image labels k label_edge;
  x = field image labels k label_x;
  y = field image labels k label_y;
  placeable = flag (field image labels k label_flags) placeable;
  row_has_node = flag (field image labels k label_flags) row_has_node;
}

-- "element, 4: kind (0 Node, 1 Edge, 2 Subgraph), index, first row, last row"

unfoldable pub element_kind_of : ℕ → ElementKind
element_kind_of n = cond (eqb n 0) kind.Node (cond (eqb n 1) kind.Edge kind.Subgraph)

abbrev pub element_kind_number : ElementKind → ℕ
element_kind_number kind.Node = 0
element_kind_number kind.Edge = 1
element_kind_number kind.Subgraph = 2

-- the things of a kind
abbrev pub thing_table : ElementKind → Tables → Table
thing_table kind.Node ts = ts.nodes
thing_table kind.Edge ts = ts.edges
thing_table kind.Subgraph ts = ts.subgraphs

unfoldable pub element_at : List ℕ → Table → ℕ → Element
element_at image elements k = record {
  kind = element_kind_of (field image elements k element_kind);
  index = field image elements k element_index;
  first_row = field image elements k element_first_row;
  last_row = field image elements k element_last_row;
}
