-- What holds of an edge: the rows that the code answers are the first and the last row of the window that it touches, and the runs are its runs there.
use Prim.Native.Nat.{ℕ}
use mathlib.Core.List.{List}
use mathlib.Core.Path.{◌≡◌, sym, ◌∙◌, ap}
use Rattle.image.specs.declared.Edge.{Edge}
use Rattle.image.specs.declared.Path.{Path}
use Rattle.rows.specs.declared.Window.{Window}
use Rattle.rows.specs.Window.{FirstAndLast}
use Rattle.rows.proofs.Windows.{touched_first_last}
use Rattle.flow.specs.declared.Reach.{Reach}
use Rattle.flow.specs.Reach.{reach_of}
use Rattle.flow.proofs.Theorems.{reach_rows, reach_runs}
use Rattle.path.specs.Pieces.{pieces_of, pieces}
use Rattle.path.specs.Touched.{edge_touches, edge_runs, EdgeReached}

-- What the pieces of an edge reach is what it touches, and its runs.
pub pieces_reached :
    (window : Window) (e : Edge) (points : List ℕ) (r : Reach) (path : Path) →
    e.path ≡ path →
    r ≡ reach_of window (pieces_of path e points) →
    EdgeReached window e points r
unfolding edge_touches edge_runs
pieces_reached window e points r path p h =
    let all : r ≡ reach_of window (pieces e points) = h ∙ ap (λ (q : Path). reach_of window (pieces_of q e points)) (sym p) in
    record {
      rows = ap (λ (x : Reach). x.rows) all ∙ reach_rows window e (pieces e points);
      runs = ap (λ (x : Reach). x.runs) all ∙ reach_runs window (pieces e points);
    }

-- The rows answered, in words: the first and the last row of the window that the edge touches; none where it touches none.
pub edge_rows :
    (window : Window) (e : Edge) (points : List ℕ) (r : Reach) →
    EdgeReached window e points r →
    FirstAndLast window.first window.rows (edge_touches e points) r.rows
edge_rows window e points r h = rw h.rows (touched_first_last (edge_touches e points) window)
