-- Which word of which record stands at a place of an image: the header's words, then the tables in their order.
use Rattle.std.specs.Prelude.{ℕ, ◌-◌, ◌/◌, ◌%◌, cond, ◌&&◌, ltb}
use Rattle.layout.specs.declared.Table.{Table}
use Rattle.layout.specs.declared.Tables.{Tables}
use Rattle.layout.specs.declared.RecordKind.{RecordKind}
use Rattle.layout.specs.declared.RecordKind.TheVariants as kind
use Rattle.layout.specs.declared.FieldName.{FieldName}
use Rattle.layout.specs.declared.FieldName.TheVariants.{Header, Record, Past}
use Rattle.layout.specs.Layout.{header_size}
use Rattle.layout.specs.Tables.{table_end}

-- the table of a kind of record
abbrev pub table_of : RecordKind → Tables → Table
table_of kind.Node ts = ts.nodes
table_of kind.Edge ts = ts.edges
table_of kind.Subgraph ts = ts.subgraphs
table_of kind.PlacedLabel ts = ts.labels
table_of kind.Element ts = ts.elements
table_of kind.Point ts = ts.points
table_of kind.Glyph ts = ts.glyphs
table_of kind.Range ts = ts.ranges

-- the record and the field at a place that lies in its table
abbrev pub field_in : RecordKind → Table → ℕ → FieldName
field_in kind table place = Record kind ((place - table.start) / table.size) ((place - table.start) % table.size)

-- a place before the end of a kind's table is in it, or else where the tables after it say
unfoldable pub field_in_or : RecordKind → Table → ℕ → FieldName → FieldName
field_in_or kind table place later =
    cond (ltb place (table_end table) && ltb 0 table.size) (field_in kind table place) later

-- a place past the placed labels
unfoldable pub field_past_labels : Tables → ℕ → FieldName
field_past_labels ts place =
    field_in_or kind.Element ts.elements place
    (field_in_or kind.Point ts.points place
    (field_in_or kind.Glyph ts.glyphs place (field_in_or kind.Range ts.ranges place Past)))

unfoldable pub field_at : Tables → ℕ → FieldName
field_at ts place =
    cond (ltb place header_size) (Header place)
    (field_in_or kind.Node ts.nodes place
    (field_in_or kind.Edge ts.edges place
    (field_in_or kind.Subgraph ts.subgraphs place
    (field_in_or kind.PlacedLabel ts.labels place (field_past_labels ts place)))))
