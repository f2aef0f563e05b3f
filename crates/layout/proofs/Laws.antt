-- Laws over plain values, which the functions' proofs and the theorems cite.
use Prim.Native.Nat.{ℕ, ◌*◌, ◌≤◌, ◌<◌}
use native.Mathlib.Nat.{mul-le-mul, mul-le-mul_right}
use native.Mathlib.Omega.{arith}
use mathlib.Core.Path.{◌≡◌}
use mathlib.Core.Bool.{and-false}
use mathlib.Core.List.{List}
use borrow.Author.Tests.{lt-ltb, le-ltb}
use Rattle.layout.specs.declared.Table.{Table}
use Rattle.layout.specs.declared.Tables.{Tables}
use Rattle.layout.specs.declared.RecordKind.{RecordKind}
use Rattle.layout.specs.declared.FieldName.{FieldName}
use Rattle.layout.specs.declared.FieldName.TheVariants.{Header}
use Rattle.layout.specs.declared.RecordKind.TheVariants as kind
use Rattle.layout.specs.Layout.{header_nodes, header_edges, header_subgraphs, header_labels, header_elements, header_points, header_glyphs, header_ranges, header_size}
use Rattle.layout.specs.Layout.{node_size, edge_size, subgraph_size, label_size, element_size, point_size, glyph_size, range_size}
use Rattle.layout.specs.Tables.{word, table_end, record_at, header, tables_of}
use Rattle.layout.specs.Fields.{field_in, field_in_or, field_past_labels, field_at}
use Rattle.layout.specs.Small.{Follows, AllSmall}

-- a number of 32 bits times a record's length
pub product_small : (k size : ℕ) → k < 0x100000000 → size ≤ 16 → k * size < 0x1000000000
product_small k size h p =
    let q : k * size ≤ 0xFFFFFFFF * 16 = mul-le-mul {n₂ = 0xFFFFFFFF} {m₂ = 16} (omega arith) p in
    omega arith

-- a record of a table begins, and the last ends, no later than the table ends
pub record_inside : (t : Table) (k : ℕ) → k ≤ t.count → record_at t k ≤ table_end t
record_inside t k h = omega (arith, mul-le-mul_right t.size h)

-- the tables, each after the one before it, are the image's, and each is small
pub tables_follow :
    (image : List ℕ) (nodes edges subgraphs labels elements points glyphs ranges : Table) →
    Follows header (word image header_nodes) node_size nodes →
    Follows nodes (word image header_edges) edge_size edges →
    Follows edges (word image header_subgraphs) subgraph_size subgraphs →
    Follows subgraphs (word image header_labels) label_size labels →
    Follows labels (word image header_elements) element_size elements →
    Follows elements (word image header_points) point_size points →
    Follows points (word image header_glyphs) glyph_size glyphs →
    Follows glyphs (word image header_ranges) range_size ranges →
    (tables : Tables) →
    tables
    ≡ record {
      nodes = nodes;
      edges = edges;
      subgraphs = subgraphs;
      labels = labels;
      elements = elements;
      points = points;
      glyphs = glyphs;
      ranges = ranges;
    } →
    (tables ≡ tables_of image) × AllSmall tables
unfolding tables_of
tables_follow image nodes edges subgraphs labels elements points glyphs ranges f0 f1 f2 f3 f4 f5 f6 f7 tables e =
    rw e (
      cc,
      record {
        nodes = record { start = omega arith; count = omega arith; size = omega arith };
        edges = record { start = omega arith; count = omega arith; size = omega arith };
        subgraphs = record { start = omega arith; count = omega arith; size = omega arith };
        labels = record { start = omega arith; count = omega arith; size = omega arith };
        elements = record { start = omega arith; count = omega arith; size = omega arith };
        points = record { start = omega arith; count = omega arith; size = omega arith };
        glyphs = record { start = omega arith; count = omega arith; size = omega arith };
        ranges = record { start = omega arith; count = omega arith; size = omega arith };
      },
    )

-- a word of the header
pub in_header : (ts : Tables) (place : ℕ) → place < header_size → Header place ≡ field_at ts place
unfolding field_at
in_header ts place h = rw (lt-ltb _ _ h)

-- past the header, a word of a table
pub past_header :
    (ts : Tables) (place : ℕ) (r edges subgraphs labels later : FieldName) →
    header_size ≤ place →
    r ≡ field_in_or kind.Node ts.nodes place edges →
    edges ≡ field_in_or kind.Edge ts.edges place subgraphs →
    subgraphs ≡ field_in_or kind.Subgraph ts.subgraphs place labels →
    labels ≡ field_in_or kind.PlacedLabel ts.labels place later →
    later ≡ field_past_labels ts place →
    r ≡ field_at ts place
unfolding field_at
past_header ts place r edges subgraphs labels later h e f p q t = rw (le-ltb _ _ h, e, f, p, q, t)

-- a place lies in the table; the table has no words; the place lies past the table's end
module _ (kind : RecordKind) (t : Table) (place : ℕ) (later : FieldName) where
  pub in_this : (r : FieldName) → place < table_end t → 0 < t.size → r ≡ field_in kind t place → r ≡ field_in_or kind t place later
  unfolding field_in_or
  in_this r p q h = rw (lt-ltb _ _ p, lt-ltb _ _ q) h

  pub no_words : t.size ≤ 0 → later ≡ field_in_or kind t place later
  unfolding field_in_or
  no_words q = simp (le-ltb _ _ q, and-false)

  pub past_end : table_end t ≤ place → later ≡ field_in_or kind t place later
  unfolding field_in_or
  past_end p = rw (le-ltb _ _ p)
