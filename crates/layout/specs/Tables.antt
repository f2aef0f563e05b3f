-- The words of an image and where its tables stand. Every reading is of any words: a word past the end reads 0.
use Rattle.std.specs.Prelude.{ℕ, ◌+◌, ◌*◌, ◌/◌, ◌%◌, Bool, List, get_or, eqb}
use Rattle.layout.specs.declared.Table.{Table}
use Rattle.layout.specs.declared.Tables.{Tables}
use Rattle.layout.specs.Layout.{header_nodes, header_edges, header_subgraphs, header_labels, header_elements, header_points, header_glyphs, header_ranges, header_size}
use Rattle.layout.specs.Layout.{node_size, edge_size, subgraph_size, label_size, element_size, point_size, glyph_size, range_size}

abbrev pub word : List ℕ → ℕ → ℕ
word image place = get_or image place 0

-- "Flag fields are packed from bit 31 down": the number that stands at the bits from this step up, and the flag at the bit of this value

abbrev pub bits : ℕ → ℕ → ℕ → ℕ
bits flags step values = flags / step % values

abbrev pub flag : ℕ → ℕ → Bool
flag flags bit = eqb (bits flags bit 2) 1

-- "Tables follow in that order": each begins where the one before it, and the first where the header, ends; its count stands in the header.

abbrev pub table_end : Table → ℕ
table_end table = table.start + table.count * table.size

abbrev pub table_after : Table → ℕ → ℕ → Table
table_after before count size = record { start = table_end before; count = count; size = size }

abbrev pub header : Table
header = record { start = 0; count = 1; size = header_size }

abbrev pub node_table : List ℕ → Table
node_table image = table_after header (word image header_nodes) node_size

abbrev pub edge_table : List ℕ → Table
edge_table image = table_after (node_table image) (word image header_edges) edge_size

abbrev pub subgraph_table : List ℕ → Table
subgraph_table image = table_after (edge_table image) (word image header_subgraphs) subgraph_size

abbrev pub label_table : List ℕ → Table
label_table image = table_after (subgraph_table image) (word image header_labels) label_size

abbrev pub element_table : List ℕ → Table
element_table image = table_after (label_table image) (word image header_elements) element_size

abbrev pub point_table : List ℕ → Table
point_table image = table_after (element_table image) (word image header_points) point_size

abbrev pub glyph_table : List ℕ → Table
glyph_table image = table_after (point_table image) (word image header_glyphs) glyph_size

abbrev pub range_table : List ℕ → Table
range_table image = table_after (glyph_table image) (word image header_ranges) range_size

unfoldable pub tables_of : List ℕ → Tables
tables_of image = record {
  nodes = node_table image;
  edges = edge_table image;
  subgraphs = subgraph_table image;
  labels = label_table image;
  elements = element_table image;
  points = point_table image;
  glyphs = glyph_table image;
  ranges = range_table image;
}

-- the length of "header plus tables"
unfoldable pub wanted_length : List ℕ → ℕ
wanted_length image = table_end (range_table image)

-- where record k begins: its "first word"
abbrev pub record_at : Table → ℕ → ℕ
record_at table k = table.start + k * table.size

-- where a field of record k stands, and what stands there

abbrev pub place_of : Table → ℕ → ℕ → ℕ
place_of table k offset = record_at table k + offset

abbrev pub field : List ℕ → Table → ℕ → ℕ → ℕ
field image table k offset = word image (place_of table k offset)
