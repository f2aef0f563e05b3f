-- Drawing an Orthogonal path: a leg's bend is a cell and its interior a line, and its legs are drawn one by one along the walk.
use Rattle.std.specs.Prelude.{Option, Some, None}
use native.Mathlib.Omega.{arith}
use Prim.Native.Nat.{ℕ, ◌+◌, ◌-◌}
use mathlib.Core.Bool.{◌&&◌}
use mathlib.Core.List.{List, [], ◌∷◌}
use mathlib.Core.Path.{◌≡◌, ap}
use lib.Dec.{eqb}
use lib.ListN.{length}
use Rattle.ground.specs.Each.{numbers, each}
use Rattle.ground.proofs.Each.{cond_holds, each_step, each_done, numbers_whole}
use Rattle.cell.specs.declared.Weight.{Weight}
use Rattle.image.specs.declared.Edge.{Edge}
use Rattle.flow.specs.declared.Piece.{Piece}
use Rattle.orthogonal.specs.declared.PathLeg.{PathLeg}
use Rattle.orthogonal.specs.declared.Cursor.{Cursor}
use Rattle.orthogonal.specs.declared.EndMark.{EndMark}
use Rattle.orthogonal.specs.declared.EndMarks.{EndMarks}
use Rattle.orthogonal.specs.Points.{stops, leg_count}
use Rattle.orthogonal.specs.Orthogonal.{column_line, row_line, leg_line, mark_or, bend_piece, leg_bend_piece, leg_pieces, path_leg, source_mark, target_mark, end_marks, pieces_along, orthogonal_pieces}
use Rattle.orthogonal.specs.Walk.{begin_walk, step_of}
use Rattle.orthogonal.proofs.Walked.{Stands, walk_begins, walk_goes, walk_ends}
use Rattle.window.specs.declared.Lent.{Lent}
use Rattle.window.specs.declared.Lent.TheVariants as lent
use Rattle.window.specs.Writes.{Canvas}
use Rattle.window.specs.Window.{canvas_of, LentRoom, Ready}
use Rattle.draw.specs.declared.Pen.{Pen}
use Rattle.draw.specs.Drawn.{Inked, LinePiece, CellPiece}
use Rattle.draw.proofs.Laws.{inked_then, inked_none, ready_then}

-- A leg's bend is a cell, its interior a line.

mark_is_cell : (mark : Option EndMark) (x y : ℕ) (p : Piece) → CellPiece p → CellPiece (mark_or mark x y p)
unfolding mark_or CellPiece
mark_is_cell None x y p h = h
mark_is_cell (Some m) x y p h = cond_holds CellPiece (eqb m.x x && eqb m.y y) tt h

pub bend_is_cell : (w : Weight) (target source : Option EndMark) (leg : PathLeg) (p : Piece) → p ≡ leg_bend_piece w target source leg → CellPiece p
unfolding leg_bend_piece bend_piece CellPiece
bend_is_cell w target source leg p h =
    rw h
    (cond_holds CellPiece leg.first tt
    (mark_is_cell target leg.from.x leg.from.y _ (mark_is_cell source leg.from.x leg.from.y _ tt)))

pub interior_is_line : (target source : Option EndMark) (leg : PathLeg) (p : Piece) → p ≡ leg_line target source leg → LinePiece p
unfolding leg_line column_line row_line LinePiece
interior_is_line target source leg p h =
    rw h
    (cond_holds LinePiece (eqb leg.from.x leg.to.x) tt (cond_holds LinePiece (eqb leg.from.y leg.to.y) tt tt))

-- drawn one after the other, they are the leg's pieces
pub leg_inked :
    (pen : Pen) (ranges : List ℕ) (target source : Option EndMark) (leg : PathLeg) (w : Weight) (bend line : Piece) (a b c : Canvas) →
    bend ≡ leg_bend_piece w target source leg →
    line ≡ leg_line target source leg →
    Inked pen ranges (bend ∷ []) a b →
    Inked pen ranges (line ∷ []) b c →
    Inked pen ranges (leg_pieces w target source leg) a c
unfolding leg_pieces
leg_inked pen ranges target source leg w bend line a b c s t one two = inked_then pen ranges _ _ a b c (rw s at one) (rw t at two)

-- planes of the same lengths are as ready to be painted in
pub ready_same :
    (pen : Pen) (cells colours stamps cells' colours' stamps' : List ℕ) →
    length cells' ≡ length cells →
    length colours' ≡ length colours →
    length stamps' ≡ length stamps →
    Ready pen.lent pen.window cells colours stamps →
    Ready pen.lent pen.window cells' colours' stamps'
unfolding LentRoom
ready_same pen cells colours stamps cells' colours' stamps' p q r ready = record {
  small = ready.small;
  room = rw p ready.room;
  others = rooms pen.lent ready.others;
}
  where
    rooms : (l : Lent) → LentRoom l pen.window colours stamps → LentRoom l pen.window colours' stamps'
    rooms lent.Cells h = tt
    rooms lent.All h = (rw q h.0, rw r h.1)

-- The legs of the path.

module _ (pen : Pen) (ranges : List ℕ) (e : Edge) (points : List ℕ) (start : Canvas) where
  abbrev legs : ℕ
  legs = leg_count (stops e points)

  abbrev pieces_at : ℕ → List Piece
  pieces_at k = leg_pieces e.weight (target_mark e (stops e points)) (source_mark e (stops e points)) (path_leg (stops e points) k)

  -- the pieces of the legs from k on
  abbrev legs_from : ℕ → List Piece
  legs_from k = each (numbers k (legs - k)) pieces_at

  -- The walk stands before leg k, these are the path's arrows, drawing can go on, and whatever the legs from k on make of this, all of them make of the start.
  pub record WalkInked (target source : Option EndMark) (c : Cursor) (cells colours stamps : List ℕ) : Type 0 where
    pub k : ℕ
    pub stands : Stands e points k c
    pub target_is : target ≡ target_mark e (stops e points)
    pub source_is : source ≡ source_mark e (stops e points)
    pub ready : Ready pen.lent pen.window cells colours stamps
    pub all :
        (z : Canvas) →
        Inked pen ranges (legs_from k) (canvas_of pen.lent cells colours stamps) z →
        Inked pen ranges (each (numbers 0 legs) pieces_at) start z

  module _ (cells colours stamps : List ℕ) where
    pub walk_inked_begins :
        (marks : EndMarks) (c : Cursor) →
        marks ≡ end_marks e (stops e points) →
        c ≡ begin_walk e points →
        canvas_of pen.lent cells colours stamps ≡ start →
        Ready pen.lent pen.window cells colours stamps →
        WalkInked marks.target marks.source c cells colours stamps
    unfolding end_marks
    walk_inked_begins marks c m b s r = record {
      k = 0;
      stands = rw b (walk_begins e points);
      target_is = ap (λ (x : EndMarks). x.target) m;
      source_is = ap (λ (x : EndMarks). x.source) m;
      ready = r;
      all = λ z d. rw (numbers_whole legs, s) at d;
    }

    module _ (target source : Option EndMark) (c : Cursor) (walk : WalkInked target source c cells colours stamps) where
      pub walk_inked_turns :
          (leg : PathLeg) (past : Cursor) (w : Weight) (cells' colours' stamps' : List ℕ) →
          step_of e points c ≡ Some (leg, past) →
          w ≡ e.weight →
          Inked pen ranges (leg_pieces w target source leg) (canvas_of pen.lent cells colours stamps) (canvas_of pen.lent cells' colours' stamps') →
          WalkInked target source past cells' colours' stamps'
      walk_inked_turns leg past w cells' colours' stamps' s h d =
          let g = walk_goes e points walk.k c walk.stands leg past s in
          let same : leg_pieces w target source leg ≡ pieces_at walk.k = rw (h, g.1, walk.target_is, walk.source_is) in
          record {
            k = walk.k + 1;
            stands = g.2;
            target_is = walk.target_is;
            source_is = walk.source_is;
            ready = ready_then pen ranges (leg_pieces w target source leg) cells colours stamps cells' colours' stamps' d walk.ready;
            all =
                λ z rest.
                walk.all z
                (rw (each_step pieces_at walk.k legs g.0)
                (inked_then pen ranges (pieces_at walk.k) (legs_from (walk.k + 1)) (canvas_of pen.lent cells colours stamps) (canvas_of pen.lent cells' colours' stamps') z (rw same at d) rest));
          }

      pub walk_inked_ends :
          step_of e points c ≡ None →
          Inked pen ranges (orthogonal_pieces e points) start (canvas_of pen.lent cells colours stamps)
      unfolding pieces_along
      walk_inked_ends s =
          let n = walk_ends e points walk.k c walk.stands s in
          walk.all (canvas_of pen.lent cells colours stamps)
          (rw (each_done pieces_at walk.k legs (omega arith)) (inked_none pen ranges (canvas_of pen.lent cells colours stamps)))
