-- What it means that each word of a record keeps its rule, and that a record has as many rules as words.
use Prim.Native.Nat.{ℕ}
use mathlib.Core.List.{List}
use mathlib.Core.Logic.{◌↔◌}
use mathlib.Core.Path.{◌≡◌, refl}
use lib.ListN.{length}
use borrow.Author.Tests.{leb-true, ltb-true, eqb-true, le-leb, lt-ltb, eq-eqb}
use Rattle.layout.specs.declared.RecordKind.{RecordKind}
use Rattle.layout.specs.declared.RecordKind.TheVariants as kind
use Rattle.layout.specs.declared.Tables.{Tables}
use Rattle.layout.specs.Tables.{tables_of}
use Rattle.layout.specs.Fields.{table_of}
use Rattle.image.specs.declared.ElementKind.{ElementKind}
use Rattle.image.specs.declared.ElementKind.TheVariants as thing
use Rattle.image.specs.Records.{thing_table}
use Rattle.header.proofs.Kept.{Kept}
use Rattle.edge_rules.specs.Edge.{edge_rules}
use Rattle.records.specs.Records.{node_rules, subgraph_rules, placed_label_rules, element_rules, point_rules, glyph_rules, range_rules, record_rules, thing_count}
use Rattle.records.specs.Good.{RecordGood}
use Rattle.records.proofs.Kept.{loop_kept, kept_loop, flags_kept, kept_flags, path_kept, kept_a, kept_b, kept_c, label_kept, kept_start, kept_count, scalar_kept, kept_scalar, width_kept, kept_width}

-- from a test that holds to the fact, and back
ruleset facts = (leb-true, ltb-true, eqb-true, loop_kept, flags_kept, path_kept, label_kept, scalar_kept, width_kept)

ruleset tests = (tt, refl, le-leb, lt-ltb, eq-eqb, kept_loop, kept_flags, kept_a, kept_b, kept_c, kept_start, kept_count, kept_scalar, kept_width)

-- Every word of a record keeps its rule exactly when the record is good.
pub record_kept : (kind : RecordKind) (ts : Tables) (w : ℕ → ℕ) → Kept (record_rules kind ts w) ↔ RecordGood kind ts w
unfolding node_rules edge_rules subgraph_rules placed_label_rules element_rules point_rules glyph_rules range_rules
record_kept kind.Node ts w = (λ h. search facts, λ g. search tests depth 16)
record_kept kind.Edge ts w = (λ h. search facts, λ g. search tests depth 16)
record_kept kind.Subgraph ts w = (λ h. search facts, λ g. search tests depth 16)
record_kept kind.PlacedLabel ts w = (λ h. search facts, λ g. search tests depth 16)
record_kept kind.Element ts w = (λ h. search facts, λ g. search tests depth 16)
record_kept kind.Point ts w = (λ h. search facts, λ g. search tests depth 16)
record_kept kind.Glyph ts w = (λ h. search facts, λ g. search tests depth 16)
record_kept kind.Range ts w = (λ h. search facts, λ g. search tests depth 16)

-- A record has as many rules as words.
pub rules_are_words :
    (kind : RecordKind) (image : List ℕ) (ts : Tables) (w : ℕ → ℕ) → length (record_rules kind ts w) ≡ (table_of kind (tables_of image)).size
unfolding node_rules edge_rules subgraph_rules placed_label_rules element_rules point_rules glyph_rules range_rules tables_of
rules_are_words kind.Node image ts w = refl
rules_are_words kind.Edge image ts w = refl
rules_are_words kind.Subgraph image ts w = refl
rules_are_words kind.PlacedLabel image ts w = refl
rules_are_words kind.Element image ts w = refl
rules_are_words kind.Point image ts w = refl
rules_are_words kind.Glyph image ts w = refl
rules_are_words kind.Range image ts w = refl

-- The table that an element's index stays in is its kind's.
pub thing_count_lem : (kind : ElementKind) (ts : Tables) → thing_count ts.nodes.count ts.edges.count ts.subgraphs.count kind ≡ (thing_table kind ts).count
thing_count_lem thing.Node ts = refl
thing_count_lem thing.Edge ts = refl
thing_count_lem thing.Subgraph ts = refl
