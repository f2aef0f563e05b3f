-- What each thing of an image writes, by its index: ink with its colour and stamp, and the runs of an edge, which wait.
use Rattle.std.specs.Prelude.{ℕ, ◌+◌, cond, List, [], eqb, Option, Some, None}
use Rattle.ground.specs.Each.{numbers, each}
use Rattle.layout.specs.declared.Tables.{Tables}
use Rattle.image.specs.declared.Edge.{Edge}
use Rattle.image.specs.declared.Span.{Span}
use Rattle.image.specs.declared.PlacedLabel.{PlacedLabel}
use Rattle.image.specs.declared.Subgraph.{Subgraph}
use Rattle.image.specs.Records.{header_of, node_at, edge_at, subgraph_at, placed_label_at}
use Rattle.path.specs.Pieces.{pieces, edge_spots}
use Rattle.frame.specs.Subgraphs.{border_spots, subgraph_label_spots}
use Rattle.frame.specs.Nodes.{node_spots}
use Rattle.frame.specs.PlacedLabels.{placed_label_spots}
use Rattle.things.specs.Things.{ranges_of, edge_points, label_glyphs}
use Rattle.window.specs.declared.Tint.{Tint}
use Rattle.window.specs.Writes.{Write, tinted, keep_tint, colour_tint, stamp_tint}
use Rattle.runs.specs.declared.Run as waiting
use Rattle.runs.specs.Pieces.{piece_runs}

-- a subgraph's border: "colour (0 keeps what is there)"

abbrev pub border_tint : Subgraph → Tint
border_tint s = cond (eqb s.colour 0) keep_tint (colour_tint s.colour)

unfoldable pub border_writes : List ℕ → Tables → ℕ → List Write
border_writes image ts k = tinted (border_tint (subgraph_at image ts.subgraphs k)) (border_spots (subgraph_at image ts.subgraphs k))

-- "Strokes and markers of an edge write its colour and stamp its index + 1"
unfoldable pub edge_writes : List ℕ → Tables → ℕ → List Write
edge_writes image ts k =
    tinted (stamp_tint (edge_at image ts.edges k).colour (k + 1)) (edge_spots (edge_at image ts.edges k) (edge_points image ts k))

-- "Runs wait": those of edge k
unfoldable pub runs_of_edge : List ℕ → Tables → ℕ → List waiting.Run
runs_of_edge image ts k =
    each (pieces (edge_at image ts.edges k) (edge_points image ts k)) (piece_runs (edge_at image ts.edges k) (k + 1))

-- "Placed labels, label colour": the glyphs are those of its edge's label

abbrev pub edge_label_glyphs : List ℕ → Tables → Option Span → List ℕ
edge_label_glyphs image ts None = []
edge_label_glyphs image ts (Some span) = label_glyphs image ts span

abbrev pub writes_of_label : List ℕ → Tables → PlacedLabel → Edge → List Write
writes_of_label image ts p e =
    tinted (colour_tint e.label_colour)
    (placed_label_spots (header_of image).policy (ranges_of image ts) p e.label (edge_label_glyphs image ts e.label))

unfoldable pub placed_label_writes : List ℕ → Tables → ℕ → List Write
placed_label_writes image ts k =
    writes_of_label image ts (placed_label_at image ts.labels k) (edge_at image ts.edges (placed_label_at image ts.labels k).edge)

-- "Nodes, colour 0."
unfoldable pub node_writes : List ℕ → Tables → ℕ → List Write
node_writes image ts k =
    tinted (colour_tint 0)
    (node_spots (ranges_of image ts) (header_of image).show_dummies (node_at image ts.nodes k)
    (label_glyphs image ts (node_at image ts.nodes k).label))

-- a subgraph's label: "Its painting writes no colour."
unfoldable pub subgraph_label_writes : List ℕ → Tables → ℕ → List Write
subgraph_label_writes image ts k =
    tinted keep_tint
    (subgraph_label_spots (ranges_of image ts) (subgraph_at image ts.subgraphs k)
    (label_glyphs image ts (subgraph_at image ts.subgraphs k).label))

-- "Each group goes by index."

abbrev pub borders : List ℕ → Tables → List Write
borders image ts = each (numbers 0 ts.subgraphs.count) (border_writes image ts)

abbrev pub edges : List ℕ → Tables → List Write
edges image ts = each (numbers 0 ts.edges.count) (edge_writes image ts)

abbrev pub runs : List ℕ → Tables → List waiting.Run
runs image ts = each (numbers 0 ts.edges.count) (runs_of_edge image ts)

abbrev pub placed_labels : List ℕ → Tables → List Write
placed_labels image ts = each (numbers 0 ts.labels.count) (placed_label_writes image ts)

abbrev pub nodes : List ℕ → Tables → List Write
nodes image ts = each (numbers 0 ts.nodes.count) (node_writes image ts)

abbrev pub subgraph_labels : List ℕ → Tables → List Write
subgraph_labels image ts = each (numbers 0 ts.subgraphs.count) (subgraph_label_writes image ts)
