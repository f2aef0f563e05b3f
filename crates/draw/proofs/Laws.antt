-- Drawing: pieces one after the other, what drawing needs still holds after it, each kind of piece, and pieces that touch no row of the window.
use Rattle.std.specs.Prelude.{Option, Some}
use native.Mathlib.Omega.{arith}
use Prim.Native.Nat.{ℕ, ◌+◌, ◌-◌, ◌≤◌, ◌<◌}
use mir.Val.{Fits}
use mir.Syntax.{w32}
use mathlib.Core.Bool.{Bool, true, false, and-true}
use mathlib.Core.List.{List, [], ◌∷◌, ◌++◌, map-append, append-nil}
use mathlib.Core.Path.{◌≡◌, refl, sym, ap, ◌∙◌}
use lib.Dec.{eqb}
use borrow.Author.Tests.{eq-eqb}
use Rattle.ground.specs.Each.{each, some}
use Rattle.ground.proofs.Each.{each_append, or_left, or_right, or_neither}
use Rattle.glyph.specs.Width.{bisect, width_of}
use Rattle.cell.specs.declared.Arms.{Arms}
use Rattle.cell.specs.declared.Dir.{Dir}
use Rattle.cell.specs.declared.MarkerKind.TheVariants as kind
use Rattle.cell.specs.OneCell.{weight_number, horizontal, vertical}
use Rattle.image.specs.declared.Edge.{Edge}
use Rattle.flow.specs.declared.Line.{Line}
use Rattle.lines.specs.Lines.{down_spots, across_spots}
use Rattle.window.specs.declared.Lent.{Lent}
use Rattle.window.specs.declared.Tint.{Tint}
use Rattle.rows.specs.declared.Window.{Window}
use Rattle.rows.specs.Window.{in_window}
use Rattle.rows.specs.Spots.{at, Ink, stroke, marker, glyph, Spot, inks, spot_touches, touches}
use Rattle.rows.proofs.Windows.{clash}
use Rattle.flow.specs.declared.Piece.{Piece}
use Rattle.flow.specs.declared.Piece.TheVariants.{Nothing, Vertical, Horizontal, Run, Stroke, Mark}
use Rattle.flow.specs.Pieces.{piece_spots, piece_run_on, piece_touches}
use Rattle.flow.specs.Bounds.{bound, SmallCoordinate}
use Rattle.window.specs.Writes.{Write, Canvas, tinted, stamp_tint}
use Rattle.window.specs.Window.{ink_window, canvas_of, Ready}
use Rattle.window.proofs.Laws.{from_first, before_end}
use Rattle.window.proofs.Rows.{by_window}
use Rattle.window.proofs.Theorems.{ink_none, ink_append, ready_after, untouched}
use Rattle.runs.specs.Pieces.{piece_runs}
use Rattle.runs.specs.Kept.{run_room, Kept, runs_within}
use Rattle.runs.proofs.Keeping.{kept_none, kept_then}
use Rattle.runs.proofs.Within.{within_append}
use Rattle.draw.specs.declared.Pen.{Pen}
use Rattle.draw.specs.Drawn.{edge_of, pen_of, pieces_writes, pieces_runs, Inked, Drawing, drawing, Drawn, Drawable, NoRow, LinePiece, CellPiece, RunPiece}

-- Pieces one after the other.
module _ (pen : Pen) (ranges : List ℕ) where
  writes_append : (ps qs : List Piece) → pieces_writes pen (ps ++ qs) ≡ pieces_writes pen ps ++ pieces_writes pen qs
  writes_append ps qs =
      ap (tinted (stamp_tint pen.colour pen.number)) (each_append (piece_spots (edge_of pen)) ps qs)
      ∙ map-append _ (each ps (piece_spots (edge_of pen))) (each qs (piece_spots (edge_of pen)))

  ink_then :
      (ps qs : List Piece) (a b c : Canvas) →
      b ≡ ink_window pen.window ranges (pieces_writes pen ps) a →
      c ≡ ink_window pen.window ranges (pieces_writes pen qs) b →
      c ≡ ink_window pen.window ranges (pieces_writes pen (ps ++ qs)) a
  ink_then ps qs a b c p q =
      q
      ∙ ap (ink_window pen.window ranges (pieces_writes pen qs)) p
      ∙ sym (ink_append pen.window ranges (pieces_writes pen ps) (pieces_writes pen qs) a)
      ∙ ap (λ (ws : List Write). ink_window pen.window ranges ws a) (sym (writes_append ps qs))

  pub inked_then :
      (ps qs : List Piece) (a b c : Canvas) →
      Inked pen ranges ps a b →
      Inked pen ranges qs b c →
      Inked pen ranges (ps ++ qs) a c
  inked_then ps qs a b c p q = record {
    inked = ink_then ps qs a b c p.inked q.inked;
    runless = rw (each_append (piece_runs (edge_of pen) pen.number) ps qs, p.runless) q.runless;
  }

  pub inked_none : (a : Canvas) → Inked pen ranges [] a a
  unfolding each
  inked_none a = record { inked = sym (ink_none pen.window ranges a); runless = refl }

  pub drawn_then :
      (ps qs : List Piece) (a b c : Drawing) →
      Drawn pen ranges ps a b →
      Drawn pen ranges qs b c →
      Drawn pen ranges (ps ++ qs) a c
  drawn_then ps qs a b c p q = record {
    inked = ink_then ps qs a.canvas b.canvas c.canvas p.inked q.inked;
    runs =
        rw (each_append (piece_runs (edge_of pen) pen.number) ps qs, within_append pen.window (pieces_runs pen ps) (pieces_runs pen qs))
        (kept_then p.runs q.runs);
  }

  -- no pieces
  pub drawn_none : (a : Drawing) → a.kept ≤ run_room a.scratch → Drawn pen ranges [] a a
  unfolding each runs_within
  drawn_none a h = record { inked = sym (ink_none pen.window ranges a.canvas); runs = kept_none a.scratch a.kept h }

  -- pieces none of which is a run: the scratch stays
  pub only_inked :
      (ps : List Piece) (a b : Canvas) (scratch : List ℕ) (kept : ℕ) →
      Inked pen ranges ps a b → kept ≤ run_room scratch →
      Drawn pen ranges ps (record { canvas = a; scratch = scratch; kept = kept }) (record { canvas = b; scratch = scratch; kept = kept })
  unfolding runs_within
  only_inked ps a b scratch kept i h = record { inked = i.inked; runs = rw i.runless (kept_none scratch kept h) }

-- What drawing needs still holds after it.

pub ready_then :
    (pen : Pen) (ranges : List ℕ) (ps : List Piece) (cells colours stamps cells' colours' stamps' : List ℕ) →
    Inked pen ranges ps (canvas_of pen.lent cells colours stamps) (canvas_of pen.lent cells' colours' stamps') →
    Ready pen.lent pen.window cells colours stamps →
    Ready pen.lent pen.window cells' colours' stamps'
ready_then pen ranges ps cells colours stamps cells' colours' stamps' i r =
    ready_after pen.lent pen.window ranges (pieces_writes pen ps) cells colours stamps cells' colours' stamps' i.inked r

pub drawable_after :
    (pen : Pen) (ranges : List ℕ) (ps : List Piece) (cells colours stamps scratch : List ℕ) (kept : ℕ) (cells' colours' stamps' scratch' : List ℕ) (kept' : ℕ) →
    Drawn pen ranges ps (drawing pen cells colours stamps scratch kept) (drawing pen cells' colours' stamps' scratch' kept') →
    Drawable pen cells colours stamps scratch kept →
    Drawable pen cells' colours' stamps' scratch' kept'
drawable_after pen ranges ps cells colours stamps scratch kept cells' colours' stamps' scratch' kept' d a = record {
  ready = ready_after pen.lent pen.window ranges (pieces_writes pen ps) cells colours stamps cells' colours' stamps' d.inked a.ready;
  room = let l = d.runs.long in rw l d.runs.room;
}

-- Pieces that touch no row of the window draw nothing.

-- under no width ranges all ink is ink
all_inks : (ink : Ink) → inks [] ink ≡ true
unfolding inks width_of bisect
all_inks (stroke arms) = refl
all_inks (marker kind dir dashed) = refl
all_inks (glyph ch) = refl

-- so that what touches no row under none touches none under any
under_any : (ranges : List ℕ) (spots : List Spot) (y : ℕ) → touches [] spots y ≡ false → touches ranges spots y ≡ false
unfolding touches some
under_any ranges [] y h = refl
under_any ranges (s ∷ rest) y h =
    let off : eqb s.y y ≡ false = sym (and-true (eqb s.y y)) ∙ (rw (all_inks s.ink) at (or_left (spot_touches [] y s) _ h)) in
    let here : spot_touches ranges y s ≡ false = rw off in
    or_neither here (under_any ranges rest y (or_right (spot_touches [] y s) _ h))

-- no run on a row of the window
no_runs :
    (v : Window) (e : Edge) (number : ℕ) (p : Piece) →
    ((y : ℕ) → v.first ≤ y → y < v.first + v.rows → piece_run_on y p ≡ false) →
    runs_within v (piece_runs e number p) ≡ []
unfolding piece_runs runs_within
no_runs v e number Nothing h = refl
no_runs v e number (Vertical l) h = refl
no_runs v e number (Horizontal l) h = refl
no_runs v e number (Run row first last) h =
    by_window v row
    (λ p q. let t : eqb row row ≡ true = eq-eqb row row refl in clash t (h row p q))
    (λ out. rw out)
no_runs v e number (Stroke x y arms) h = refl
no_runs v e number (Mark x y dir) h = refl

module _ (pen : Pen) (ranges : List ℕ) where
  -- one piece
  untouched_piece : (p : Piece) (a : Drawing) → NoRow pen.window (edge_of pen) (p ∷ []) → a.kept ≤ run_room a.scratch → Drawn pen ranges (p ∷ []) a a
  unfolding piece_touches some each
  untouched_piece p a h room =
      let v = pen.window in
      let e = edge_of pen in
      let at : (y : ℕ) → v.first ≤ y → y < v.first + v.rows → piece_touches e p y ≡ false = λ y f l. or_left (piece_touches e p y) false (h y f l) in
      let spots : each (p ∷ []) (piece_spots e) ≡ piece_spots e p = append-nil (piece_spots e p) in
      let none : runs_within v (piece_runs e pen.number p) ≡ [] = no_runs v e pen.number p (λ y f l. or_right (touches [] (piece_spots e p) y) _ (at y f l)) in
      record {
        inked =
            sym (ap (λ (s : List Spot). ink_window v ranges (tinted (stamp_tint pen.colour pen.number) s) a.canvas) spots
            ∙ untouched v ranges (stamp_tint pen.colour pen.number) (piece_spots e p) a.canvas
            (λ y f l. under_any ranges (piece_spots e p) y (or_left (touches [] (piece_spots e p) y) _ (at y f l))));
        runs = rw (append-nil (piece_runs e pen.number p), none) (kept_none a.scratch a.kept room);
      }

  -- many
  pub untouched_pieces : (ps : List Piece) (a : Drawing) → NoRow pen.window (edge_of pen) ps → a.kept ≤ run_room a.scratch → Drawn pen ranges ps a a
  unfolding some
  untouched_pieces [] a h room = drawn_none pen ranges a room
  untouched_pieces (p ∷ rest) a h room =
      drawn_then pen ranges (p ∷ []) rest a a a
      (untouched_piece p a (λ y f l. or_neither (or_left (piece_touches (edge_of pen) p y) _ (h y f l)) refl) room)
      (untouched_pieces rest a (λ y f l. or_right (piece_touches (edge_of pen) p y) _ (h y f l)) room)

-- A run: on a row of the window, on any other, and none at all.

module _ (v : Window) (row : ℕ) (has : Bool) (tested : has ≡ in_window v row) where
  pub row_small : has ≡ true → v.first + v.rows ≤ 0xFFFFFFFF → Fits w32 row
  row_small t small =
      let h : in_window v row ≡ true = sym tested ∙ t in
      let l : row - v.first < v.rows = before_end v row h in
      let f : v.first ≤ row = from_first v row h in
      record { fits = omega arith }

pub first_small : (p : Piece) (row first last : ℕ) → p ≡ Run row first last → RunPiece p → Fits w32 first
unfolding RunPiece
first_small p row first last is s = let c : RunPiece (Run row first last) = rw is at s in record { fits = c.0 }

pub last_small : (p : Piece) (row first last : ℕ) → p ≡ Run row first last → RunPiece p → Fits w32 last
unfolding RunPiece
last_small p row first last is s = let c : RunPiece (Run row first last) = rw is at s in record { fits = c.1 }

module _ (pen : Pen) (p : Piece) (before : List ℕ) (kept : ℕ) where
  abbrev KeptNow : List ℕ → ℕ → Type 0
  KeptNow after m = Kept before kept (runs_within pen.window (pieces_runs pen (p ∷ []))) after m

  module _ (row first last : ℕ) (is : p ≡ Run row first last) (has : Bool) (tested : has ≡ in_window pen.window row) where
    pub run_kept :
        (weight : ℕ) (after : List ℕ) (m : ℕ) → has ≡ true → weight ≡ weight_number pen.weight →
        Kept before kept (record { row = row; first = first; last = last; weight = weight; number = pen.number; colour = pen.colour } ∷ []) after m →
        KeptNow after m
    unfolding piece_runs runs_within each
    run_kept weight after m t w k = let h : in_window pen.window row ≡ true = sym tested ∙ t in rw (is, h, ← w) k

    pub run_elsewhere : has ≡ false → kept ≤ run_room before → KeptNow before kept
    unfolding piece_runs runs_within each
    run_elsewhere f h = let o : in_window pen.window row ≡ false = sym tested ∙ f in rw (is, o) (kept_none before kept h)

  -- any piece but a run
  pub run_none : ((row first last : ℕ) → p ≡ Run row first last → ⊥) → RunPiece p → kept ≤ run_room before → KeptNow before kept
  unfolding RunPiece piece_runs runs_within each
  run_none n r h = by_kind p r n
    where
      by_kind : (q : Piece) → RunPiece q → ((row first last : ℕ) → q ≡ Run row first last → ⊥) → Kept before kept (runs_within pen.window (pieces_runs pen (q ∷ []))) before kept
      by_kind Nothing s m = kept_none before kept h
      by_kind (Run row first last) s m = absurd (m row first last refl)
      by_kind (Vertical l) s m = absurd s
      by_kind (Horizontal l) s m = absurd s
      by_kind (Stroke x y arms) s m = absurd s
      by_kind (Mark x y dir) s m = absurd s

-- with what the canvas is: drawn
pub run_drawn :
    (pen : Pen) (ranges : List ℕ) (p : Piece) (a : Canvas) (scratch : List ℕ) (kept : ℕ) (scratch' : List ℕ) (kept' : ℕ) →
    RunPiece p →
    Kept scratch kept (runs_within pen.window (pieces_runs pen (p ∷ []))) scratch' kept' →
    Drawn pen ranges (p ∷ []) (record { canvas = a; scratch = scratch; kept = kept }) (record { canvas = a; scratch = scratch'; kept = kept' })
unfolding RunPiece piece_spots each
run_drawn pen ranges p a scratch kept scratch' kept' r k = record { inked = by_kind p r; runs = k }
  where
    by_kind : (q : Piece) → RunPiece q → a ≡ ink_window pen.window ranges (pieces_writes pen (q ∷ [])) a
    by_kind Nothing s = sym (ink_none pen.window ranges a)
    by_kind (Run row first last) s = sym (ink_none pen.window ranges a)
    by_kind (Vertical l) s = absurd s
    by_kind (Horizontal l) s = absurd s
    by_kind (Stroke x y arms) s = absurd s
    by_kind (Mark x y dir) s = absurd s

-- Each kind of piece.

module _ (pen : Pen) (ranges : List ℕ) (p : Piece) (cells colours stamps cells' colours' stamps' : List ℕ) (tint : Tint) where
  abbrev Done : Type 0
  Done = Inked pen ranges (p ∷ []) (canvas_of pen.lent cells colours stamps) (canvas_of pen.lent cells' colours' stamps')

  abbrev Spotted : List Spot → Type 0
  Spotted spots =
      canvas_of pen.lent cells' colours' stamps' ≡ ink_window pen.window ranges (tinted tint spots) (canvas_of pen.lent cells colours stamps)

  -- the edge's colour and number go with the ink
  abbrev Told : Type 0
  Told = tint ≡ stamp_tint pen.colour pen.number

  done : (spots : List Spot) → Spotted spots → Told → piece_spots (edge_of pen) p ≡ spots → piece_runs (edge_of pen) pen.number p ≡ [] → Done
  unfolding each
  done spots i told s r = record {
    inked =
        (rw told at i)
        ∙ ap (λ (l : List Spot). ink_window pen.window ranges (tinted (stamp_tint pen.colour pen.number) l) (canvas_of pen.lent cells colours stamps)) (sym s ∙ sym (append-nil (piece_spots (edge_of pen) p)));
    runless = rw (append-nil (piece_runs (edge_of pen) pen.number p)) r;
  }

  pub inked_vertical : (l : Line) (arms : Arms) → p ≡ Vertical l → arms ≡ vertical pen.weight → Spotted (down_spots pen.dashed l arms) → Told → Done
  unfolding piece_spots piece_runs
  inked_vertical l arms is so i told = done (down_spots pen.dashed l arms) i told (rw (is, so)) (rw is)

  pub inked_horizontal : (l : Line) (arms : Arms) → p ≡ Horizontal l → arms ≡ horizontal pen.weight → Spotted (across_spots pen.dashed l arms) → Told → Done
  unfolding piece_spots piece_runs
  inked_horizontal l arms is so i told = done (across_spots pen.dashed l arms) i told (rw (is, so)) (rw is)

  pub inked_stroke : (x y : ℕ) (arms : Arms) → p ≡ Stroke x y arms → Spotted (at x y (stroke arms) ∷ []) → Told → Done
  unfolding piece_spots piece_runs
  inked_stroke x y arms is i told = done (at x y (stroke arms) ∷ []) i told (rw is) (rw is)

  pub inked_mark : (x y : ℕ) (dir : Dir) → p ≡ Mark x y dir → Spotted (at x y (marker kind.Arrow dir pen.dashed) ∷ []) → Told → Done
  unfolding piece_spots piece_runs
  inked_mark x y dir is i told = done (at x y (marker kind.Arrow dir pen.dashed) ∷ []) i told (rw is) (rw is)

-- what is left is nothing

nothing_inked : (pen : Pen) (ranges : List ℕ) (a : Canvas) → Inked pen ranges (Nothing ∷ []) a a
unfolding piece_spots piece_runs each
nothing_inked pen ranges a = record { inked = sym (ink_none pen.window ranges a); runless = refl }

pub no_line : (pen : Pen) (ranges : List ℕ) (p : Piece) (a : Canvas) → ((l : Line) → p ≡ Vertical l → ⊥) → ((l : Line) → p ≡ Horizontal l → ⊥) → LinePiece p → Inked pen ranges (p ∷ []) a a
unfolding LinePiece
no_line pen ranges Nothing a k m s = nothing_inked pen ranges a
no_line pen ranges (Vertical l) a k m s = absurd (k l refl)
no_line pen ranges (Horizontal l) a k m s = absurd (m l refl)
no_line pen ranges (Run row first last) a k m s = absurd s
no_line pen ranges (Stroke x y arms) a k m s = absurd s
no_line pen ranges (Mark x y dir) a k m s = absurd s

pub no_cell : (pen : Pen) (ranges : List ℕ) (p : Piece) (a : Canvas) → ((x y : ℕ) (arms : Arms) → p ≡ Stroke x y arms → ⊥) → ((x y : ℕ) (dir : Dir) → p ≡ Mark x y dir → ⊥) → CellPiece p → Inked pen ranges (p ∷ []) a a
unfolding CellPiece
no_cell pen ranges Nothing a k m s = nothing_inked pen ranges a
no_cell pen ranges (Vertical l) a k m s = absurd s
no_cell pen ranges (Horizontal l) a k m s = absurd s
no_cell pen ranges (Run row first last) a k m s = absurd s
no_cell pen ranges (Stroke x y arms) a k m s = absurd (k x y arms refl)
no_cell pen ranges (Mark x y dir) a k m s = absurd (m x y dir refl)

-- The pen of an edge has its ink.

pub same_spots : (lent : Lent) (v : Window) (number : ℕ) (e : Edge) (p : Piece) → piece_spots (edge_of (pen_of lent v number e)) p ≡ piece_spots e p
unfolding piece_spots
same_spots lent v number e Nothing = refl
same_spots lent v number e (Vertical l) = refl
same_spots lent v number e (Horizontal l) = refl
same_spots lent v number e (Run row first last) = refl
same_spots lent v number e (Stroke x y arms) = refl
same_spots lent v number e (Mark x y dir) = refl

pub same_runs : (lent : Lent) (v : Window) (number : ℕ) (e : Edge) (p : Piece) → piece_runs (edge_of (pen_of lent v number e)) number p ≡ piece_runs e number p
unfolding piece_runs
same_runs lent v number e Nothing = refl
same_runs lent v number e (Vertical l) = refl
same_runs lent v number e (Horizontal l) = refl
same_runs lent v number e (Run row first last) = refl
same_runs lent v number e (Stroke x y arms) = refl
same_runs lent v number e (Mark x y dir) = refl

-- the row or column of a corner is small
pub corner_small : (corner : Option ℕ) (n : ℕ) → corner ≡ Some n → SmallCoordinate corner → n < bound
corner_small corner n is small = rw is at small
