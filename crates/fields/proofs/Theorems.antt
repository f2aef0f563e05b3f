-- What it means that no word of a record is refused.
use Prim.Native.Nat.{ℕ, ◌<◌}
use mathlib.Core.List.{List, ◌++◌}
use mathlib.Core.Logic.{◌↔◌}
use mathlib.Core.Path.{◌≡◌}
use Rattle.std.specs.Prelude.{None}
use Rattle.ground.specs.Judged.{first_bad}
use Rattle.layout.specs.declared.RecordKind.{RecordKind}
use Rattle.layout.specs.declared.RecordKind.TheVariants as kind
use Rattle.layout.specs.declared.Tables.{Tables}
use Rattle.layout.specs.Tables.{field}
use Rattle.layout.specs.Fields.{table_of}
use Rattle.records.specs.Records.{record_rules}
use Rattle.records.specs.Good.{RecordGood}
use Rattle.records.proofs.Theorems.{record_kept}
use Rattle.fields.specs.Tables.{kind_judged, first_kinds, last_kinds, records_judged}
use Rattle.fields.specs.Good.{RecordsGood}
use Rattle.fields.proofs.Kept.{table_kept, kept_table, none_all, all_none}

-- nothing is found in the table of each kind
in_all : (image : List ℕ) (ts : Tables) → first_bad (records_judged image ts) ≡ None → (kind : RecordKind) → first_bad (kind_judged image ts kind) ≡ None
unfolding records_judged
in_all image ts h kind.Node = (none_all (kind_judged image ts) _ h).0
in_all image ts h kind.Edge = (none_all (kind_judged image ts) _ h).1.0
in_all image ts h kind.Subgraph = (none_all (kind_judged image ts) _ h).1.1.0
in_all image ts h kind.PlacedLabel = (none_all (kind_judged image ts) _ h).1.1.1.0
in_all image ts h kind.Element = (none_all (kind_judged image ts) _ h).1.1.1.1.0
in_all image ts h kind.Point = (none_all (kind_judged image ts) _ h).1.1.1.1.1.0
in_all image ts h kind.Glyph = (none_all (kind_judged image ts) _ h).1.1.1.1.1.1.0
in_all image ts h kind.Range = (none_all (kind_judged image ts) _ h).1.1.1.1.1.1.1.0

-- the records of the table of a kind are good
abbrev KindGood : List ℕ → Tables → RecordKind → Type 0
KindGood image ts kind = (k : ℕ) → k < (table_of kind ts).count → RecordGood kind ts (field image (table_of kind ts) k)

kind_good : (image : List ℕ) (ts : Tables) → RecordsGood image ts → (kind : RecordKind) → KindGood image ts kind
kind_good image ts g kind.Node = g.nodes
kind_good image ts g kind.Edge = g.edges
kind_good image ts g kind.Subgraph = g.subgraphs
kind_good image ts g kind.PlacedLabel = g.labels
kind_good image ts g kind.Element = g.elements
kind_good image ts g kind.Point = g.points
kind_good image ts g kind.Glyph = g.glyphs
kind_good image ts g kind.Range = g.ranges

good_kinds : (image : List ℕ) (ts : Tables) → ((kind : RecordKind) → KindGood image ts kind) → RecordsGood image ts
good_kinds image ts g = record {
  nodes = g kind.Node;
  edges = g kind.Edge;
  subgraphs = g kind.Subgraph;
  labels = g kind.PlacedLabel;
  elements = g kind.Element;
  points = g kind.Point;
  glyphs = g kind.Glyph;
  ranges = g kind.Range;
}

none_in : (image : List ℕ) (ts : Tables) → RecordsGood image ts → (kind : RecordKind) → first_bad (kind_judged image ts kind) ≡ None
none_in image ts g kind =
    kept_table image (table_of kind ts) (record_rules kind ts) (λ k p. (record_kept kind ts _).1 (kind_good image ts g kind k p))

-- No word of a record is refused exactly when every record is good.
pub records_iff : (image : List ℕ) (ts : Tables) → (first_bad (records_judged image ts) ≡ None) ↔ RecordsGood image ts
unfolding records_judged
records_iff image ts = (
  λ h. good_kinds image ts
      (λ kind k p. (record_kept kind ts _).0 (table_kept image (table_of kind ts) (record_rules kind ts) (in_all image ts h kind) k p)),
  λ g. all_none (kind_judged image ts) (first_kinds ++ last_kinds) (search (none_in image ts g, tt) depth 10),
)
