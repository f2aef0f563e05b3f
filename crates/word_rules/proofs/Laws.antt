-- Laws over plain values, which the functions' proofs cite: an edge's field, and a field of a record of any kind.
use Prim.Native.Nat.{ℕ}
use mathlib.Core.List.{List}
use mathlib.Core.Path.{◌≡◌}
use Rattle.layout.specs.declared.RecordKind.{RecordKind}
use Rattle.layout.specs.declared.RecordKind.TheVariants as kind
use Rattle.layout.specs.declared.Table.{Table}
use Rattle.layout.specs.declared.Tables.{Tables}
use Rattle.layout.specs.Layout.{edge_flags, edge_a, edge_b, edge_c, edge_label_start, edge_label_count, element_kind}
use Rattle.layout.specs.Fields.{table_of}
use Rattle.layout.specs.Tables.{tables_of, record_at}
use Rattle.header.specs.InTurn.{words_at}
use Rattle.edge_rules.specs.Edge.{path_number}
use Rattle.word_rules.specs.declared.WordRule.{WordRule}
use Rattle.word_rules.specs.declared.PathRules.{PathRules}
use Rattle.word_rules.specs.Rules.{node_rule, path_rules, label_start_rule, label_count_rule, edge_path_rules, edge_rule, subgraph_rule, placed_label_rule, element_rule, range_rule, word_rule}

-- an edge's a, b and c, and its label

module _ (points glyphs : ℕ) (w : ℕ → ℕ) (field flags : ℕ) (e : flags ≡ w edge_flags) where
  module _ (count path : ℕ) (rules : PathRules) (f : count ≡ w edge_b) (g : path ≡ path_number flags) (h : rules ≡ path_rules points path count) where
    rules_here : rules ≡ edge_path_rules points w
    rules_here = rw (h, g, e, f)

    pub rule_a : field ≡ edge_a → rules.a ≡ edge_rule points glyphs w field
    unfolding edge_rule
    rule_a z = rw (rules_here, z)

    pub rule_b : field ≡ edge_b → rules.b ≡ edge_rule points glyphs w field
    unfolding edge_rule
    rule_b z = rw (rules_here, z)

    pub rule_c : field ≡ edge_c → rules.c ≡ edge_rule points glyphs w field
    unfolding edge_rule
    rule_c z = rw (rules_here, z)

  pub rule_start : (letters : ℕ) (r : WordRule) → letters ≡ w edge_label_count → r ≡ label_start_rule glyphs flags letters → field ≡ edge_label_start → r ≡ edge_rule points glyphs w field
  unfolding edge_rule
  rule_start letters r f g z = rw (g, f, e, z)

  pub rule_count : (r : WordRule) → r ≡ label_count_rule flags → field ≡ edge_label_count → r ≡ edge_rule points glyphs w field
  unfolding edge_rule
  rule_count r g z = rw (g, e, z)

-- A field of a record, by the tables and the place as the code has them.

abbrev Ruled : List ℕ → RecordKind → ℕ → ℕ → WordRule → Type 0
Ruled image kd k field r =
    r ≡ word_rule kd (tables_of image) (words_at image (record_at (table_of kd (tables_of image)) k)) field

module _ (image : List ℕ) (ts : Tables) (table : Table) (k at field : ℕ) (r : WordRule) (kd : RecordKind) (t : ts ≡ tables_of image) (s : table ≡ table_of kd ts) (q : at ≡ record_at table k) where
  of_record : r ≡ word_rule kd ts (words_at image at) field → Ruled image kd k field r
  of_record p = rw (← t, ← s, ← q) p

  pub of_node : kd ≡ kind.Node → r ≡ node_rule ts.glyphs.count (words_at image at) field → Ruled image kd k field r
  unfolding word_rule
  of_node e p = of_record (rw e p)

  pub of_edge : kd ≡ kind.Edge → r ≡ edge_rule ts.points.count ts.glyphs.count (words_at image at) field → Ruled image kd k field r
  unfolding word_rule
  of_edge e p = of_record (rw e p)

  pub of_subgraph : kd ≡ kind.Subgraph → r ≡ subgraph_rule ts.glyphs.count (words_at image at) field → Ruled image kd k field r
  unfolding word_rule
  of_subgraph e p = of_record (rw e p)

  pub of_label : kd ≡ kind.PlacedLabel → r ≡ placed_label_rule ts.edges.count field → Ruled image kd k field r
  unfolding word_rule
  of_label e p = of_record (rw e p)

  pub of_element :
      (number : ℕ) → kd ≡ kind.Element → number ≡ words_at image at element_kind →
      r ≡ element_rule number ts.nodes.count ts.edges.count ts.subgraphs.count field → Ruled image kd k field r
  unfolding word_rule
  of_element number e n p = of_record (rw (e, ← n) p)

  pub of_range : kd ≡ kind.Range → r ≡ range_rule field → Ruled image kd k field r
  unfolding word_rule
  of_range e p = of_record (rw e p)
