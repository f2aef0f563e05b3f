-- Laws over plain values, which the functions' proofs cite: what each thing touches, and the runs edge by edge.
use Rattle.std.specs.Prelude.{Option}
use native.Mathlib.Omega.{arith}
use Prim.Native.Nat.{ℕ, ◌+◌, ◌-◌, ◌*◌, ◌≤◌, ◌<◌}
use mathlib.Core.Bool.{Bool}
use mathlib.Core.List.{List}
use mathlib.Core.Path.{◌≡◌, ◌∙◌}
use Rattle.ground.specs.Each.{numbers}
use Rattle.ground.proofs.Each.{numbers_step, numbers_done, numbers_whole}
use Rattle.layout.specs.declared.Tables.{Tables}
use Rattle.layout.specs.Layout.{header_width, header_height}
use Rattle.layout.specs.Tables.{word}
use Rattle.layout.specs.Small.{AllSmall}
use Rattle.image.specs.declared.ElementKind.{ElementKind}
use Rattle.image.specs.declared.ElementKind.TheVariants as kind
use Rattle.image.specs.declared.Header.{Header}
use Rattle.image.specs.declared.Node.{Node}
use Rattle.image.specs.declared.Edge.{Edge}
use Rattle.image.specs.declared.Subgraph.{Subgraph}
use Rattle.image.specs.Records.{header_of, node_at, edge_at, subgraph_at}
use Rattle.image.specs.Spans.{span_words, points_of, table_words}
use Rattle.rows.specs.declared.Rows.{Rows}
use Rattle.rows.specs.declared.Window.{Window}
use Rattle.frame.specs.Computed.{node_rows, subgraph_rows}
use Rattle.frame.proofs.Theorems.{node_rows_lem, subgraph_rows_lem}
use Rattle.flow.specs.declared.Reach.{Reach}
use Rattle.path.specs.Touched.{EdgeReached}
use Rattle.path.proofs.Few.{edge_few}
use Rattle.things.specs.Things.{sheet_of, ranges_of, label_glyphs, thing_touches, edge_runs_at, total, run_count}
use Rattle.things.specs.Computed.{Touched, EdgeReach}

-- The sheet's window, and whether dummies are shown, as the code reads them.

pub sheet_read :
    (image : List ℕ) (width height columns rows : ℕ) → width ≡ word image header_width → columns ≡ width → height ≡ word image header_height → rows ≡ height →
    record { width = columns; first = 0; rows = rows } ≡ sheet_of image
sheet_read image width height columns rows p q s t = rw (q, p, t, s)

pub shown : (image : List ℕ) (h : Header) → h ≡ header_of image → h.show_dummies ≡ (header_of image).show_dummies
shown image h e = rw e

-- The rows that each thing touches, as the code finds them.

module _ (image : List ℕ) (ts : Tables) (k : ℕ) (sheet : Window) (touched : Option Rows) (p : sheet ≡ sheet_of image) where
  pub node_touched :
      (show : Bool) (n : Node) → show ≡ (header_of image).show_dummies → n ≡ node_at image ts.nodes k → touched ≡ node_rows sheet show n →
      Touched kind.Node image ts k touched
  unfolding thing_touches
  node_touched show n q e t = record {
    rows = λ b. t ∙ rw (p, q, e) (node_rows_lem (sheet_of image) (ranges_of image ts) (header_of image).show_dummies (node_at image ts.nodes k) (label_glyphs image ts (node_at image ts.nodes k).label) b);
  }

  pub subgraph_touched :
      (s : Subgraph) (ranges glyphs : List ℕ) → s ≡ subgraph_at image ts.subgraphs k → ranges ≡ table_words image ts.ranges → glyphs ≡ span_words image ts.glyphs s.label →
      touched ≡ subgraph_rows sheet ranges s glyphs → Touched kind.Subgraph image ts k touched
  unfolding thing_touches
  subgraph_touched s ranges glyphs e r g t = record {
    rows = λ b. t ∙ rw (g, r, e, p) (subgraph_rows_lem (sheet_of image) (ranges_of image ts) (subgraph_at image ts.subgraphs k) (label_glyphs image ts (subgraph_at image ts.subgraphs k).label));
  }

pub edge_reaches :
    (image : List ℕ) (ts : Tables) (k : ℕ) (sheet : Window) (e : Edge) (points : List ℕ) (r : Reach) →
    AllSmall ts → sheet ≡ sheet_of image → e ≡ edge_at image ts.edges k → points ≡ points_of image ts.points e.path → EdgeReached sheet e points r → EdgeReach image ts k r
unfolding thing_touches
edge_reaches image ts k sheet e points r small p q s x = record {
  touched = record { rows = λ b. x.rows ∙ rw (s, q, p) };
  runs = x.runs ∙ rw (s, q, p);
  few = rw (x.runs, s, q, p) (edge_few (sheet_of image) (edge_at image ts.edges k) image ts.points small.points);
}

-- the kind that a thing is of
pub of_kind :
    (kind own : ElementKind) (image : List ℕ) (ts : Tables) (k : ℕ) (touched : Option Rows) → kind ≡ own → Touched own image ts k touched → Touched kind image ts k touched
of_kind kind own image ts k touched e t = rw e t

-- The runs edge by edge: those of the edges before k, and those from it on.

module _ (image : List ℕ) (ts : Tables) where
  pub record Counting (k runs : ℕ) : Type 0 where
    pub counted : runs + total (numbers k (ts.edges.count - k)) (edge_runs_at image ts) ≡ run_count image ts
    pub few : runs ≤ k * 0x10000000000

  pub counting_whole : Counting 0 0
  unfolding run_count
  counting_whole = record {
    counted =
        let e : 0 + total (numbers 0 (ts.edges.count - 0)) (edge_runs_at image ts) ≡ total (numbers 0 (ts.edges.count - 0)) (edge_runs_at image ts) = omega arith in
        e ∙ rw (numbers_whole ts.edges.count);
    few = omega arith;
  }

  pub counting_again :
      (k runs : ℕ) (r : Reach) → k < ts.edges.count → Counting k runs → EdgeReach image ts k r → Counting (k + 1) (runs + r.runs)
  unfolding total
  counting_again k runs r h w x = record {
    counted =
        let e = rw (numbers_step k ts.edges.count h) at w.counted in
        omega (arith, e, x.runs);
    few = omega (arith, w.few, x.few);
  }

  pub counting_done : (k runs : ℕ) → ts.edges.count ≤ k → Counting k runs → runs ≡ run_count image ts
  unfolding total
  counting_done k runs h w = let e = rw (numbers_done k ts.edges.count h) at w.counted in omega arith
