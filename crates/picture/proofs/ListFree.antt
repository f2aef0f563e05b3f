-- Two images that differ only in element list and run capacity have one picture.
use Rattle.std.specs.Prelude.{Option, Some, None}
use native.Mathlib.Omega.{arith}
use Prim.Native.Nat.{ℕ, ◌+◌, ◌*◌, ◌≤◌, ◌<◌}
use mathlib.Core.List.{List}
use mathlib.Core.Path.{◌≡◌, refl, sym, ap, ap₂, ◌∙◌}
use lib.ListN.{length, drop}
use lib.Seq.{drop-drop}
use borrow.Author.Tests.{le-leb}
use Rattle.ground.specs.Each.{numbers, each}
use Rattle.layout.specs.declared.Table.{Table}
use Rattle.layout.specs.declared.Tables.{Tables}
use Rattle.layout.specs.Layout.{header_runs, header_nodes, header_edges, header_subgraphs, header_labels, header_elements, header_points, header_glyphs, header_ranges, header_size}
use Rattle.layout.specs.Layout.{header_width, header_flags, node_size, edge_size, subgraph_size, label_size, point_size, glyph_size}
use Rattle.layout.specs.Tables.{word, table_end, record_at, field, tables_of, wanted_length}
use Rattle.layout.specs.Tables.{node_table, edge_table, subgraph_table, label_table, element_table, point_table, glyph_table, range_table}
use Rattle.layout.proofs.Laws.{record_inside}
use Rattle.image.specs.declared.Span.{Span}
use Rattle.image.specs.declared.Node.{Node}
use Rattle.image.specs.declared.Edge.{Edge}
use Rattle.image.specs.declared.Subgraph.{Subgraph}
use Rattle.image.specs.declared.PlacedLabel.{PlacedLabel}
use Rattle.image.specs.Records.{header_of, node_at, edge_at, subgraph_at, placed_label_at}
use Rattle.image.specs.Spans.{span_words, path_span}
use Rattle.path.specs.Pieces.{pieces, edge_spots}
use Rattle.frame.specs.Subgraphs.{border_spots, subgraph_label_spots}
use Rattle.frame.specs.Nodes.{node_spots}
use Rattle.things.specs.Things.{ranges_of, edge_points, label_glyphs}
use Rattle.window.specs.Writes.{tinted, keep_tint, colour_tint, stamp_tint}
use Rattle.runs.specs.Pieces.{piece_runs}
use Rattle.refusals.specs.Accepted.{Keeps}
use Rattle.picture.specs.Writes.{border_tint, border_writes, edge_writes, runs_of_edge, edge_label_glyphs, writes_of_label, placed_label_writes, node_writes, subgraph_label_writes}
use Rattle.picture.specs.Writes.{borders, edges, runs, placed_labels, nodes, subgraph_labels}
use Rattle.picture.specs.Picture.{width, row_painted, picture_row}
use Rattle.picture.proofs.Statements.{OnlyListing}
use Rattle.picture.proofs.Rows.{each_between}

-- What a picture reads of an image, the same in both.
record Same (a b : List ℕ) (ts us : Tables) : Type 0 where
  wide : width a ≡ width b
  policy : (header_of a).policy ≡ (header_of b).policy
  dummies : (header_of a).show_dummies ≡ (header_of b).show_dummies
  ranges : ranges_of a ts ≡ ranges_of b us
  glyphs : (span : Span) → label_glyphs a ts span ≡ label_glyphs b us span
  points : (span : Span) → span_words a ts.points span ≡ span_words b us.points span
  node_count : ts.nodes.count ≡ us.nodes.count
  edge_count : ts.edges.count ≡ us.edges.count
  subgraph_count : ts.subgraphs.count ≡ us.subgraphs.count
  label_count : ts.labels.count ≡ us.labels.count
  node : (k : ℕ) → k < ts.nodes.count → node_at a ts.nodes k ≡ node_at b us.nodes k
  edge : (k : ℕ) → k < ts.edges.count → edge_at a ts.edges k ≡ edge_at b us.edges k
  subgraph : (k : ℕ) → k < ts.subgraphs.count → subgraph_at a ts.subgraphs k ≡ subgraph_at b us.subgraphs k
  placed : (k : ℕ) → k < ts.labels.count → placed_label_at a ts.labels k ≡ placed_label_at b us.labels k
  named : (k : ℕ) → k < ts.labels.count → (placed_label_at a ts.labels k).edge < ts.edges.count

-- as many things, and each makes the same
each_same : {B : Type 0} (f g : ℕ → List B) (n m : ℕ) → n ≡ m → ((k : ℕ) → k < n → f k ≡ g k) → each (numbers 0 n) f ≡ each (numbers 0 m) g
each_same f g n m e h = each_between f g 0 n (λ k p q. h k (omega arith)) ∙ ap (λ (i : ℕ). each (numbers 0 i) g) e

module _ (a b : List ℕ) (ts us : Tables) (s : Same a b ts us) where
  borders_same : borders a ts ≡ borders b us
  unfolding border_writes
  borders_same =
      each_same (border_writes a ts) (border_writes b us) _ _ s.subgraph_count
      (λ k h. ap (λ (t : Subgraph). tinted (border_tint t) (border_spots t)) (s.subgraph k h))

  points_same : (k : ℕ) → k < ts.edges.count → edge_points a ts k ≡ edge_points b us k
  points_same k h =
      ap (λ (e : Edge). span_words a ts.points (path_span e.path)) (s.edge k h)
      ∙ s.points (path_span (edge_at b us.edges k).path)

  edges_same : edges a ts ≡ edges b us
  unfolding edge_writes
  edges_same =
      each_same (edge_writes a ts) (edge_writes b us) _ _ s.edge_count
      (λ k h. ap₂ (λ (e : Edge) (points : List ℕ). tinted (stamp_tint e.colour (k + 1)) (edge_spots e points)) (s.edge k h) (points_same k h))

  runs_same : runs a ts ≡ runs b us
  unfolding runs_of_edge
  runs_same =
      each_same (runs_of_edge a ts) (runs_of_edge b us) _ _ s.edge_count
      (λ k h. ap₂ (λ (e : Edge) (points : List ℕ). each (pieces e points) (piece_runs e (k + 1))) (s.edge k h) (points_same k h))

  label_same : (l : Option Span) → edge_label_glyphs a ts l ≡ edge_label_glyphs b us l
  label_same None = refl
  label_same (Some span) = s.glyphs span

  of_label_same : (p : PlacedLabel) (e : Edge) → writes_of_label a ts p e ≡ writes_of_label b us p e
  of_label_same p e = rw (s.policy, s.ranges, label_same e.label)

  placed_labels_same : placed_labels a ts ≡ placed_labels b us
  unfolding placed_label_writes
  placed_labels_same =
      each_same (placed_label_writes a ts) (placed_label_writes b us) _ _ s.label_count
      (λ k h.
      ap (writes_of_label a ts (placed_label_at a ts.labels k)) (s.edge (placed_label_at a ts.labels k).edge (s.named k h))
      ∙ ap (λ (p : PlacedLabel). writes_of_label a ts p (edge_at b us.edges p.edge)) (s.placed k h)
      ∙ of_label_same (placed_label_at b us.labels k) (edge_at b us.edges (placed_label_at b us.labels k).edge))

  nodes_same : nodes a ts ≡ nodes b us
  unfolding node_writes
  nodes_same =
      each_same (node_writes a ts) (node_writes b us) _ _ s.node_count
      (λ k h.
      ap (λ (n : Node). tinted (colour_tint 0) (node_spots (ranges_of a ts) (header_of a).show_dummies n (label_glyphs a ts n.label))) (s.node k h)
      ∙ rw (s.ranges, s.dummies, s.glyphs (node_at b us.nodes k).label))

  subgraph_labels_same : subgraph_labels a ts ≡ subgraph_labels b us
  unfolding subgraph_label_writes
  subgraph_labels_same =
      each_same (subgraph_label_writes a ts) (subgraph_label_writes b us) _ _ s.subgraph_count
      (λ k h.
      ap (λ (t : Subgraph). tinted keep_tint (subgraph_label_spots (ranges_of a ts) t (label_glyphs a ts t.label))) (s.subgraph k h)
      ∙ rw (s.ranges, s.glyphs (subgraph_at b us.subgraphs k).label))

  picture_same : (y : ℕ) → row_painted a ts y ≡ row_painted b us y
  unfolding row_painted
  picture_same y =
      rw (s.ranges, s.wide, borders_same, edges_same, runs_same, placed_labels_same, nodes_same, subgraph_labels_same)

-- Records that are the same word by word.

module _ (a b : List ℕ) (t : Table) (k : ℕ) where
  abbrev SameFields : ℕ → Type 0
  SameFields n = (d : ℕ) → d < n → field a t k d ≡ field b t k d

  node_read : SameFields node_size → node_at a t k ≡ node_at b t k
  unfolding node_at
  node_read h =
      rw (
        h 0 (omega arith),
        h 1 (omega arith),
        h 2 (omega arith),
        h 3 (omega arith),
        h 4 (omega arith),
        h 5 (omega arith),
        h 6 (omega arith),
        h 7 (omega arith),
        h 8 (omega arith),
      )

  edge_read : SameFields edge_size → edge_at a t k ≡ edge_at b t k
  unfolding edge_at
  edge_read h =
      rw (
        h 0 (omega arith),
        h 1 (omega arith),
        h 2 (omega arith),
        h 3 (omega arith),
        h 4 (omega arith),
        h 5 (omega arith),
        h 6 (omega arith),
        h 7 (omega arith),
        h 8 (omega arith),
        h 9 (omega arith),
        h 10 (omega arith),
        h 11 (omega arith),
      )

  subgraph_read : SameFields subgraph_size → subgraph_at a t k ≡ subgraph_at b t k
  unfolding subgraph_at
  subgraph_read h =
      rw (
        h 0 (omega arith),
        h 1 (omega arith),
        h 2 (omega arith),
        h 3 (omega arith),
        h 4 (omega arith),
        h 5 (omega arith),
        h 6 (omega arith),
        h 7 (omega arith),
      )

  label_read : SameFields label_size → placed_label_at a t k ≡ placed_label_at b t k
  unfolding placed_label_at
  label_read h = rw (h 0 (omega arith), h 1 (omega arith), h 2 (omega arith), h 3 (omega arith))

-- a span whose words are the same, in tables that lie whole in their images
span_read :
    (a b : List ℕ) (t u : Table) (span : Span) →
    t.count ≡ u.count → t.size ≡ u.size → table_end t ≤ length a → table_end u ≤ length b →
    drop (record_at t span.start) a ≡ drop (record_at u span.start) b →
    span_words a t span ≡ span_words b u span
unfolding span_words
span_read a b t u span counts sizes fits fits' words =
    rw (le-leb _ _ fits, le-leb _ _ fits', counts, words, sizes)

module _ (a b : List ℕ) (o : OnlyListing a b) (ka : Keeps a) (kb : Keeps b) where
  header_word : (i : ℕ) → i < header_size → (i ≡ header_runs → ⊥) → (i ≡ header_elements → ⊥) → word a i ≡ word b i
  header_word i h n m = o.before i (omega arith) n m

  nodes_count : word a header_nodes ≡ word b header_nodes
  nodes_count = header_word header_nodes (omega arith) (λ e. omega arith) (λ e. omega arith)

  edges_count : word a header_edges ≡ word b header_edges
  edges_count = header_word header_edges (omega arith) (λ e. omega arith) (λ e. omega arith)

  subgraphs_count : word a header_subgraphs ≡ word b header_subgraphs
  subgraphs_count = header_word header_subgraphs (omega arith) (λ e. omega arith) (λ e. omega arith)

  labels_count : word a header_labels ≡ word b header_labels
  labels_count = header_word header_labels (omega arith) (λ e. omega arith) (λ e. omega arith)

  points_count : word a header_points ≡ word b header_points
  points_count = header_word header_points (omega arith) (λ e. omega arith) (λ e. omega arith)

  glyphs_count : word a header_glyphs ≡ word b header_glyphs
  glyphs_count = header_word header_glyphs (omega arith) (λ e. omega arith) (λ e. omega arith)

  ranges_count : word a header_ranges ≡ word b header_ranges
  ranges_count = header_word header_ranges (omega arith) (λ e. omega arith) (λ e. omega arith)

  -- a record of a table before the elements
  fields_same :
      (t : Table) (k : ℕ) → header_size ≤ t.start → table_end t ≤ (element_table a).start → k < t.count →
      (d : ℕ) → d < t.size → field a t k d ≡ field b t k d
  fields_same t k low high h d p =
      o.before (record_at t k + d) (omega (arith, record_inside t (k + 1) (omega arith))) (λ e. omega arith) (λ e. omega arith)

  -- so many words on from the elements' end
  past_elements : (off : ℕ) → drop (table_end (element_table a) + off) a ≡ drop (table_end (element_table b) + off) b
  past_elements off =
      sym (drop-drop off (table_end (element_table a)) a) ∙ ap (drop off) o.after ∙ drop-drop off (table_end (element_table b)) b

  -- so a record of a table after the elements, as far on in both
  records_same :
      (t u : Table) (k off : ℕ) → record_at t k ≡ table_end (element_table a) + off → record_at u k ≡ table_end (element_table b) + off →
      drop (record_at t k) a ≡ drop (record_at u k) b
  records_same t u k off e f = rw (e, f) (past_elements off)

  named_edge : (k : ℕ) → k < (tables_of a).labels.count → (placed_label_at a (tables_of a).labels k).edge < (tables_of a).edges.count
  unfolding placed_label_at
  named_edge k h = (ka.tables.fields.labels k h).edge

  whole : length a ≡ table_end (range_table a)
  unfolding wanted_length
  whole = ka.whole

  whole' : length b ≡ table_end (range_table b)
  unfolding wanted_length
  whole' = kb.whole

  same : Same a b (tables_of a) (tables_of b)
  unfolding header_of tables_of
  same = record {
    wide = header_word header_width (omega arith) (λ e. omega arith) (λ e. omega arith);
    policy = rw (header_word header_flags (omega arith) (λ e. omega arith) (λ e. omega arith));
    dummies = rw (header_word header_flags (omega arith) (λ e. omega arith) (λ e. omega arith));
    ranges =
        span_read a b (range_table a) (range_table b) (record { start = 0; count = word a header_ranges }) ranges_count refl (omega (arith, whole))
        (omega (arith, whole'))
        (records_same (range_table a) (range_table b) 0 (word a header_points * point_size + word a header_glyphs * glyph_size) (omega arith)
        (omega (arith, points_count, glyphs_count)))
        ∙ rw ranges_count;
    glyphs = λ span.
        span_read a b (glyph_table a) (glyph_table b) span glyphs_count refl (omega (arith, whole)) (omega (arith, whole'))
        (records_same (glyph_table a) (glyph_table b) span.start (word a header_points * point_size + span.start * glyph_size) (omega arith)
        (omega (arith, points_count)));
    points = λ span.
        span_read a b (point_table a) (point_table b) span points_count refl (omega (arith, whole)) (omega (arith, whole'))
        (records_same (point_table a) (point_table b) span.start (span.start * point_size) (omega arith) (omega arith));
    node_count = nodes_count;
    edge_count = edges_count;
    subgraph_count = subgraphs_count;
    label_count = labels_count;
    node = λ k h. node_read a b (node_table a) k (fields_same (node_table a) k (omega arith) (omega arith) h) ∙ rw nodes_count;
    edge = λ k h. edge_read a b (edge_table a) k (fields_same (edge_table a) k (omega arith) (omega arith) h) ∙ rw (nodes_count, edges_count);
    subgraph = λ k h. subgraph_read a b (subgraph_table a) k (fields_same (subgraph_table a) k (omega arith) (omega arith) h)
        ∙ rw (nodes_count, edges_count, subgraphs_count);
    placed = λ k h. label_read a b (label_table a) k (fields_same (label_table a) k (omega arith) (omega arith) h)
        ∙ rw (nodes_count, edges_count, subgraphs_count, labels_count);
    named = named_edge;
  }

  pub one_picture : (y : ℕ) → picture_row a y ≡ picture_row b y
  one_picture y = picture_same a b (tables_of a) (tables_of b) same y
