-- Drawing an edge: along its axis, and by its path.
use Prim.Native.Nat.{ℕ, ◌≤◌}
use mathlib.Core.List.{List}
use mathlib.Core.Path.{◌≡◌}
use Rattle.image.specs.declared.Edge.{Edge}
use Rattle.image.specs.declared.FlowAxis.{FlowAxis}
use Rattle.image.specs.declared.FlowAxis.TheVariants as axes
use Rattle.image.specs.declared.Path.{Path}
use Rattle.flow.specs.declared.Piece.{Piece}
use Rattle.path.specs.Pieces.{direct_on, corner_on, side_on, pieces_of}
use Rattle.x_flow.specs.XFlow.{corner_x, side_x}
use Rattle.window.specs.Writes.{Canvas}
use Rattle.runs.specs.Kept.{run_room}
use Rattle.draw.specs.declared.Pen.{Pen}
use Rattle.draw.specs.Drawn.{Inked, Drawing, Drawn}
use Rattle.draw.proofs.Laws.{only_inked}

-- Along the axis, and by the path: of which the code knows what it is.

module _ (pen : Pen) (ranges : List ℕ) (e : Edge) where
  abbrev Done : List Piece → Canvas → Canvas → List ℕ → ℕ → Type 0
  Done ps a b scratch kept = Drawn pen ranges ps (record { canvas = a; scratch = scratch; kept = kept }) (record { canvas = b; scratch = scratch; kept = kept })

  module _ (axis one : FlowAxis) (h : axis ≡ one) where
    pub direct_along : (a b : Canvas) → Inked pen ranges (direct_on one e) a b → Inked pen ranges (direct_on axis e) a b
    direct_along a b d = rw h d

    pub corner_along : (a b : Drawing) (bend : ℕ) → Drawn pen ranges (corner_on one e bend) a b → Drawn pen ranges (corner_on axis e bend) a b
    corner_along a b bend d = rw h d

    pub side_along : (a b : Drawing) (channel start end : ℕ) → Drawn pen ranges (side_on one e channel start end) a b → Drawn pen ranges (side_on axis e channel start end) a b
    side_along a b channel start end d = rw h d

  module _ (axis : FlowAxis) (h : axis ≡ axes.X) (a b : Canvas) (scratch : List ℕ) (kept : ℕ) (room : kept ≤ run_room scratch) where
    pub corner_across : (bend : ℕ) → Inked pen ranges (corner_x e bend) a b → Done (corner_on axis e bend) a b scratch kept
    unfolding corner_on
    corner_across bend i = rw h (only_inked pen ranges (corner_x e bend) a b scratch kept i room)

    pub side_across : (channel start end : ℕ) → Inked pen ranges (side_x e channel start end) a b → Done (side_on axis e channel start end) a b scratch kept
    unfolding side_on
    side_across channel start end i = rw h (only_inked pen ranges (side_x e channel start end) a b scratch kept i room)

  module _ (points : List ℕ) (path one : Path) (h : path ≡ one) where
    pub path_drawn : (a b : Drawing) → Drawn pen ranges (pieces_of one e points) a b → Drawn pen ranges (pieces_of path e points) a b
    path_drawn a b d = rw h d

    pub path_inked : (a b : Canvas) (scratch : List ℕ) (kept : ℕ) → kept ≤ run_room scratch → Inked pen ranges (pieces_of one e points) a b → Done (pieces_of path e points) a b scratch kept
    path_inked a b scratch kept room i = rw h (only_inked pen ranges (pieces_of one e points) a b scratch kept i room)
