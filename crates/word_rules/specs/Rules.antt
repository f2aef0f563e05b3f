-- What one word of a record may hold, by its field: the rules of `records` and of `edge_rules` one by one, each with the numbers of the image that decide it
-- (`rules-agree` of the proofs). `w` gives the record's word at an offset.
use Rattle.std.specs.Prelude.{ℕ, Bool, cond, eqb, ltb}
use Rattle.layout.specs.declared.RecordKind.{RecordKind}
use Rattle.layout.specs.declared.RecordKind.TheVariants as kind
use Rattle.layout.specs.declared.Tables.{Tables}
use Rattle.layout.specs.Layout.{node_label_start, node_label_count, node_flags, node_loop_x, node_loop_y, node_spare, self_loop}
use Rattle.layout.specs.Layout.{edge_flags, edge_a, edge_b, edge_c, edge_label_start, edge_label_count, edge_colour, edge_label_colour, label_present}
use Rattle.layout.specs.Layout.{path_corner, path_side_channel, path_multi_segment, path_orthogonal}
use Rattle.layout.specs.Layout.{subgraph_label_start, subgraph_label_count, subgraph_flags, subgraph_colour, subgraph_spare}
use Rattle.layout.specs.Layout.{label_edge, label_flags, label_spare, element_kind, element_index, max_scalar, range_width}
use Rattle.layout.specs.Tables.{flag}
use Rattle.image.specs.declared.ElementKind.{ElementKind}
use Rattle.image.specs.declared.ElementKind.TheVariants as thing
use Rattle.image.specs.Records.{element_kind_of, element_kind_number}
use Rattle.header.specs.Words.{any, at_most, within, is_zero, clear, inside}
use Rattle.edge_rules.specs.Edge.{path_number, edge_flags_good}
use Rattle.records.specs.Records.{scalar_good, width_good}
use Rattle.word_rules.specs.declared.WordRule.{WordRule}
use Rattle.word_rules.specs.declared.WordRule.TheVariants.{Any, Within, Zero, Below, Span, Flags, EdgeFlags, Kind, Scalar, RangeEnd, Width}
use Rattle.word_rules.specs.declared.PathRules.{PathRules}

-- a number keeps a rule
unfoldable pub keeps : WordRule → ℕ → Bool
keeps Any n = any
keeps Within n = within n
keeps Zero n = is_zero n
keeps (Below of held) n = ltb n held
keeps (Span of count held) n = inside n count held
keeps (Flags spare) n = clear n spare
keeps EdgeFlags n = edge_flags_good n
keeps Kind n = at_most n (element_kind_number thing.Subgraph)
keeps Scalar n = scalar_good n
keeps RangeEnd n = at_most n max_scalar
keeps Width n = width_good n

-- "loop x, loop y (both 0 without the bit)"
abbrev pub loop_rule : ℕ → WordRule
loop_rule flags = cond (flag flags self_loop) Within Zero

unfoldable pub node_rule : ℕ → (ℕ → ℕ) → ℕ → WordRule
node_rule glyphs w field =
    cond (eqb field node_label_start) (Span kind.Glyph (w node_label_count) glyphs)
    (cond (eqb field node_label_count) Any
    (cond (eqb field node_flags) (Flags node_spare)
    (cond (eqb field node_loop_x) (loop_rule (w node_flags)) (cond (eqb field node_loop_y) (loop_rule (w node_flags)) Within))))

-- "Corner: a bend. SideChannel: channel, span start, span end. MultiSegment: first point, count, start offset. Orthogonal: first point, count. Unused a, b,
-- c are 0."

abbrev pub three_rules : WordRule → WordRule → WordRule → PathRules
three_rules a b c = record { a = a; b = b; c = c }

unfoldable pub path_rules : ℕ → ℕ → ℕ → PathRules
path_rules points path count =
    cond (eqb path path_corner) (three_rules Within Zero Zero)
    (cond (eqb path path_side_channel) (three_rules Within Within Within)
    (cond (eqb path path_multi_segment) (three_rules (Span kind.Point count points) Any Within)
    (cond (eqb path path_orthogonal) (three_rules (Span kind.Point count points) Any Zero) (three_rules Zero Zero Zero))))

abbrev pub edge_path_rules : ℕ → (ℕ → ℕ) → PathRules
edge_path_rules points w = path_rules points (path_number (w edge_flags)) (w edge_b)

-- "label present 1 (else start and count 0)"

abbrev pub label_start_rule : ℕ → ℕ → ℕ → WordRule
label_start_rule glyphs flags count = cond (flag flags label_present) (Span kind.Glyph count glyphs) Zero

abbrev pub label_count_rule : ℕ → WordRule
label_count_rule flags = cond (flag flags label_present) Any Zero

unfoldable pub edge_rule : ℕ → ℕ → (ℕ → ℕ) → ℕ → WordRule
edge_rule points glyphs w field =
    cond (eqb field edge_flags) EdgeFlags
    (cond (eqb field edge_a) (edge_path_rules points w).a
    (cond (eqb field edge_b) (edge_path_rules points w).b
    (cond (eqb field edge_c) (edge_path_rules points w).c
    (cond (eqb field edge_label_start) (label_start_rule glyphs (w edge_flags) (w edge_label_count))
    (cond (eqb field edge_label_count) (label_count_rule (w edge_flags))
    (cond (eqb field edge_colour) Any (cond (eqb field edge_label_colour) Any Within)))))))

unfoldable pub subgraph_rule : ℕ → (ℕ → ℕ) → ℕ → WordRule
subgraph_rule glyphs w field =
    cond (eqb field subgraph_label_start) (Span kind.Glyph (w subgraph_label_count) glyphs)
    (cond (eqb field subgraph_label_count) Any
    (cond (eqb field subgraph_flags) (Flags subgraph_spare) (cond (eqb field subgraph_colour) Any Within)))

unfoldable pub placed_label_rule : ℕ → ℕ → WordRule
placed_label_rule edges field =
    cond (eqb field label_edge) (Below kind.Edge edges) (cond (eqb field label_flags) (Flags label_spare) Within)

-- the index of an element that lists a thing of a kind
unfoldable pub index_rule : ElementKind → ℕ → ℕ → ℕ → WordRule
index_rule thing.Node nodes edges subgraphs = Below kind.Node nodes
index_rule thing.Edge nodes edges subgraphs = Below kind.Edge edges
index_rule thing.Subgraph nodes edges subgraphs = Below kind.Subgraph subgraphs

unfoldable pub element_rule : ℕ → ℕ → ℕ → ℕ → ℕ → WordRule
element_rule number nodes edges subgraphs field =
    cond (eqb field element_kind) Kind
    (cond (eqb field element_index) (index_rule (element_kind_of number) nodes edges subgraphs) Within)

unfoldable pub range_rule : ℕ → WordRule
range_rule field = cond (eqb field range_width) Width RangeEnd

-- the rule of a field of a record of any kind
unfoldable pub word_rule : RecordKind → Tables → (ℕ → ℕ) → ℕ → WordRule
word_rule kind.Node ts w field = node_rule ts.glyphs.count w field
word_rule kind.Edge ts w field = edge_rule ts.points.count ts.glyphs.count w field
word_rule kind.Subgraph ts w field = subgraph_rule ts.glyphs.count w field
word_rule kind.PlacedLabel ts w field = placed_label_rule ts.edges.count field
word_rule kind.Element ts w field =
    element_rule (w element_kind) ts.nodes.count ts.edges.count ts.subgraphs.count field
word_rule kind.Point ts w field = Within
word_rule kind.Glyph ts w field = Scalar
word_rule kind.Range ts w field = range_rule field
