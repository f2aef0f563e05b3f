-- The rows and runs that the code finds are those of the definitions: the first and the last row that a piece, or a list of pieces, touches, and its runs.
use Rattle.std.specs.Prelude.{Option, None, Some}
use Prim.Native.Nat.{ℕ}
use mathlib.Core.Path.{◌≡◌, refl, sym, ◌∙◌}
use mathlib.Core.Bool.{Bool, true, false, cond, ◌&&◌, or-false}
use mathlib.Core.List.{List, [], ◌∷◌}
use lib.Dec.{eqb}
use Rattle.ground.specs.Each.{some}
use Rattle.ground.proofs.Each.{by_bool}
use Rattle.cell.specs.declared.Arms.{Arms}
use Rattle.cell.specs.OneCell.{horizontal, vertical}
use Rattle.image.specs.declared.Edge.{Edge}
use Rattle.rows.specs.declared.Window.{Window}
use Rattle.rows.specs.Spots.{stroke, Ink, inks, touches}
use Rattle.rows.specs.Window.{touched_rows}
use Rattle.rows.proofs.Windows.{touched_or, touched_same, touched_none, window_row}
use Rattle.rows.proofs.Spots.{rows_nil, rows_one, rows_down, rows_along_lem}
use Rattle.flow.specs.declared.Head.{Head}
use Rattle.flow.specs.declared.Line.{Line}
use Rattle.flow.specs.declared.Piece.{Piece}
use Rattle.flow.specs.declared.Piece.TheVariants.{Nothing, Vertical, Horizontal, Run, Stroke, Mark}
use Rattle.flow.specs.Pieces.{arrow_or, line_ink, piece_spots, piece_run_on, piece_touches, runs_in}
use Rattle.flow.specs.Reach.{has_inside, vertical_rows, horizontal_rows, piece_rows, piece_reach, join_reach, reach_of}

-- every cell of a line is inked

arrow_inks : (dashed : Bool) (h : Option Head) (n : ℕ) (otherwise : Ink) → inks [] otherwise ≡ true → inks [] (arrow_or dashed h n otherwise) ≡ true
unfolding inks
arrow_inks dashed None n otherwise i = i
arrow_inks dashed (Some h) n otherwise i = by_bool (eqb h.place n) (λ t. rw t) (λ t. rw t i)

line_inks : (dashed : Bool) (l : Line) (arms : Arms) (n : ℕ) → inks [] (line_ink dashed l arms n) ≡ true
unfolding inks
line_inks dashed l arms n = arrow_inks dashed l.winner n _ (arrow_inks dashed l.other n (stroke arms) refl)

-- a row, where a test holds besides
row_if_lem : (window : Window) (test : Bool) (row : ℕ) → cond test (touched_rows window (λ y. eqb row y)) None ≡ touched_rows window (λ y. test && eqb row y)
row_if_lem window true row = refl
row_if_lem window false row = sym (touched_none window _ (λ y i j. refl))

-- what is no run touches by its spots alone
module _ (window : Window) (e : Edge) (p : Piece) where
  by_spots : ((y : ℕ) → piece_run_on y p ≡ false) → touched_rows window (piece_touches e p) ≡ touched_rows window (touches [] (piece_spots e p))
  unfolding piece_touches
  by_spots h = touched_same window _ _ (λ y i j. rw (h y) (or-false _))

-- a run touches its row
run_rows :
    (window : Window) (e : Edge) (row first last : ℕ) →
    touched_rows window (λ y. eqb row y) ≡ touched_rows window (piece_touches e (Run row first last))
unfolding piece_touches piece_spots touches some
run_rows window e row first last = refl

-- The rows of a piece are the first and the last that it touches, whatever the edge.
pub piece_rows_lem : (window : Window) (e : Edge) (p : Piece) → piece_rows window p ≡ touched_rows window (piece_touches e p)
unfolding piece_rows piece_spots vertical_rows horizontal_rows inks
piece_rows_lem window e Nothing = sym (by_spots window e Nothing (λ y. refl) ∙ rows_nil window [])
piece_rows_lem window e (Vertical l) =
    sym
    (by_spots window e (Vertical l) (λ y. refl)
    ∙ rows_down window [] l.lane l.from l.to _ (line_inks e.reversed l (vertical e.weight)))
piece_rows_lem window e (Horizontal l) =
    rw (window_row window l.lane)
    (row_if_lem window (has_inside l.from l.to) l.lane
    ∙ sym
    (by_spots window e (Horizontal l) (λ y. refl)
    ∙ rows_along_lem window [] l.lane l.from l.to _ (line_inks e.reversed l (horizontal e.weight))))
piece_rows_lem window e (Run row first last) = window_row window row ∙ run_rows window e row first last
piece_rows_lem window e (Stroke x y arms) =
    sym (by_spots window e (Stroke x y arms) (λ y. refl) ∙ rows_one window [] x y _ refl)
piece_rows_lem window e (Mark x y dir) = sym (by_spots window e (Mark x y dir) (λ y. refl) ∙ rows_one window [] x y _ refl)

-- The rows of pieces are the first and the last that some of them touches.
pub reach_rows :
    (window : Window) (e : Edge) (pieces : List Piece) →
    (reach_of window pieces).rows ≡ touched_rows window (λ y. some pieces (λ p. piece_touches e p y))
unfolding piece_reach join_reach reach_of some
reach_rows window e [] = sym (touched_none window _ (λ y i j. refl))
reach_rows window e (p ∷ rest) =
    rw (piece_rows_lem window e p, reach_rows window e rest) (sym (touched_or window (piece_touches e p) _))

-- The runs of pieces are theirs, summed.
pub reach_runs : (window : Window) (pieces : List Piece) → (reach_of window pieces).runs ≡ runs_in window pieces
unfolding piece_reach join_reach reach_of runs_in
reach_runs window [] = refl
reach_runs window (p ∷ rest) = rw (reach_runs window rest)
