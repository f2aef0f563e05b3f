-- "The sheet image" in numbers: each by its name, in the order of document 01.
use Rattle.std.specs.Prelude.{ℕ}

-- "Header, 12 words": width, height, run capacity, flags, then the counts of the eight tables in their order

abbrev pub header_width : ℕ
header_width = 0

abbrev pub header_height : ℕ
header_height = 1

abbrev pub header_runs : ℕ
header_runs = 2

abbrev pub header_flags : ℕ
header_flags = 3

abbrev pub header_nodes : ℕ
header_nodes = 4

abbrev pub header_edges : ℕ
header_edges = 5

abbrev pub header_subgraphs : ℕ
header_subgraphs = 6

abbrev pub header_labels : ℕ
header_labels = 7

abbrev pub header_elements : ℕ
header_elements = 8

abbrev pub header_points : ℕ
header_points = 9

abbrev pub header_glyphs : ℕ
header_glyphs = 10

abbrev pub header_ranges : ℕ
header_ranges = 11

abbrev pub header_size : ℕ
header_size = 12

-- the most that each header word may be: "width (0..1,024), height (0..32,767), run capacity (0..16,384) .. counts: nodes, edges, subgraphs, placed
-- labels (each to 1,024), elements (3,072), points (8,192), glyphs (16,384), width ranges (1,024)"

abbrev pub max_width : ℕ
max_width = 1024

abbrev pub max_height : ℕ
max_height = 32767

abbrev pub max_runs : ℕ
max_runs = 16384

abbrev pub max_things : ℕ
max_things = 1024

abbrev pub max_elements : ℕ
max_elements = 3072

abbrev pub max_points : ℕ
max_points = 8192

abbrev pub max_glyphs : ℕ
max_glyphs = 16384

abbrev pub max_ranges : ℕ
max_ranges = 1024

-- "Coordinates, extents, rows and offsets are at most 32,767."

abbrev pub max_coordinate : ℕ
max_coordinate = 32767

-- "a Unicode scalar value": to 10FFFF, and no surrogate

abbrev pub max_scalar : ℕ
max_scalar = 0x10FFFF

abbrev pub first_surrogate : ℕ
first_surrogate = 0xD800

abbrev pub last_surrogate : ℕ
last_surrogate = 0xDFFF

-- The words of each record, in the order of its fields.

-- "node, 9"

abbrev pub node_x : ℕ
node_x = 0

abbrev pub node_y : ℕ
node_y = 1

abbrev pub node_width : ℕ
node_width = 2

abbrev pub node_height : ℕ
node_height = 3

abbrev pub node_label_start : ℕ
node_label_start = 4

abbrev pub node_label_count : ℕ
node_label_count = 5

abbrev pub node_flags : ℕ
node_flags = 6

abbrev pub node_loop_x : ℕ
node_loop_x = 7

abbrev pub node_loop_y : ℕ
node_loop_y = 8

abbrev pub node_size : ℕ
node_size = 9

-- "edge, 12"

abbrev pub edge_from_x : ℕ
edge_from_x = 0

abbrev pub edge_from_y : ℕ
edge_from_y = 1

abbrev pub edge_to_x : ℕ
edge_to_x = 2

abbrev pub edge_to_y : ℕ
edge_to_y = 3

abbrev pub edge_flags : ℕ
edge_flags = 4

abbrev pub edge_a : ℕ
edge_a = 5

abbrev pub edge_b : ℕ
edge_b = 6

abbrev pub edge_c : ℕ
edge_c = 7

abbrev pub edge_label_start : ℕ
edge_label_start = 8

abbrev pub edge_label_count : ℕ
edge_label_count = 9

abbrev pub edge_colour : ℕ
edge_colour = 10

abbrev pub edge_label_colour : ℕ
edge_label_colour = 11

abbrev pub edge_size : ℕ
edge_size = 12

-- "subgraph, 8"

abbrev pub subgraph_x : ℕ
subgraph_x = 0

abbrev pub subgraph_y : ℕ
subgraph_y = 1

abbrev pub subgraph_width : ℕ
subgraph_width = 2

abbrev pub subgraph_height : ℕ
subgraph_height = 3

abbrev pub subgraph_label_start : ℕ
subgraph_label_start = 4

abbrev pub subgraph_label_count : ℕ
subgraph_label_count = 5

abbrev pub subgraph_flags : ℕ
subgraph_flags = 6

abbrev pub subgraph_colour : ℕ
subgraph_colour = 7

abbrev pub subgraph_size : ℕ
subgraph_size = 8

-- "placed label, 4"

abbrev pub label_edge : ℕ
label_edge = 0

abbrev pub label_x : ℕ
label_x = 1

abbrev pub label_y : ℕ
label_y = 2

abbrev pub label_flags : ℕ
label_flags = 3

abbrev pub label_size : ℕ
label_size = 4

-- "element, 4"

abbrev pub element_kind : ℕ
element_kind = 0

abbrev pub element_index : ℕ
element_index = 1

abbrev pub element_first_row : ℕ
element_first_row = 2

abbrev pub element_last_row : ℕ
element_last_row = 3

abbrev pub element_size : ℕ
element_size = 4

-- how many kinds there are: "0 Node, 1 Edge, 2 Subgraph"
abbrev pub element_kinds : ℕ
element_kinds = 3

-- "point, 2: x, y. Glyph, 1"

abbrev pub point_x : ℕ
point_x = 0

abbrev pub point_y : ℕ
point_y = 1

abbrev pub point_size : ℕ
point_size = 2

abbrev pub glyph_value : ℕ
glyph_value = 0

abbrev pub glyph_size : ℕ
glyph_size = 1

-- "Width range, 3: first, last, width"

abbrev pub range_first : ℕ
range_first = 0

abbrev pub range_last : ℕ
range_last = 1

abbrev pub range_width : ℕ
range_width = 2

abbrev pub range_size : ℕ
range_size = 3

-- "Flag fields are packed from bit 31 down": a flag of one bit by the value of that bit; a number of more bits by the value of its lowest bit, its step,
-- and by how many values its bits have; "spare bits are 0": the bits below the value that ends in Spare.

-- header flags: "label policy 1 bit: 0 Geometric, 1 AvoidNodeRows; show dummies 1 bit"

abbrev pub avoid_node_rows : ℕ
avoid_node_rows = 0x80000000

abbrev pub show_dummies : ℕ
show_dummies = 0x40000000

abbrev pub header_spare : ℕ
header_spare = 0x40000000

-- node flags: "kind 2 bits: 0 simple, 1 boxed, 2 blank, 3 dummy; self-loop 1 bit"

abbrev pub node_kind_step : ℕ
node_kind_step = 0x40000000

abbrev pub node_kinds : ℕ
node_kinds = 4

abbrev pub self_loop : ℕ
self_loop = 0x20000000

abbrev pub node_spare : ℕ
node_spare = 0x20000000

-- edge flags: "path 3 bits .. flow axis 1 (0 Y, 1 X), reversed 1, start marker 1, end marker 1, weight 2 (1 Dashed, 2 Light, 3 Double), label present
-- 1"

abbrev pub path_step : ℕ
path_step = 0x20000000

abbrev pub paths : ℕ
paths = 8

abbrev pub flow_x : ℕ
flow_x = 0x10000000

abbrev pub reversed : ℕ
reversed = 0x08000000

abbrev pub start_marker : ℕ
start_marker = 0x04000000

abbrev pub end_marker : ℕ
end_marker = 0x02000000

abbrev pub weight_step : ℕ
weight_step = 0x00800000

abbrev pub weights : ℕ
weights = 4

abbrev pub label_present : ℕ
label_present = 0x00400000

abbrev pub edge_spare : ℕ
edge_spare = 0x00400000

-- "0 Direct, 1 Corner, 2 SideChannel, 3 MultiSegment, 4 Orthogonal, 5 Spline"

abbrev pub path_direct : ℕ
path_direct = 0

abbrev pub path_corner : ℕ
path_corner = 1

abbrev pub path_side_channel : ℕ
path_side_channel = 2

abbrev pub path_multi_segment : ℕ
path_multi_segment = 3

abbrev pub path_orthogonal : ℕ
path_orthogonal = 4

abbrev pub path_spline : ℕ
path_spline = 5

-- subgraph flags: "border 2 bits, 0 none, else as edge weight; label position 1 bit, 0 InsideTop, 1 InsideBottom"

abbrev pub border_step : ℕ
border_step = 0x40000000

abbrev pub borders : ℕ
borders = 4

abbrev pub inside_bottom : ℕ
inside_bottom = 0x20000000

abbrev pub subgraph_spare : ℕ
subgraph_spare = 0x20000000

-- placed label flags: "placeable, row has node"

abbrev pub placeable : ℕ
placeable = 0x80000000

abbrev pub row_has_node : ℕ
row_has_node = 0x40000000

abbrev pub label_spare : ℕ
label_spare = 0x40000000
