-- What is drawn of an X flow: which pieces are lines and which are cells, and what all that is drawn comes to.
use Rattle.std.specs.Prelude.{Option, Some, None}
use Prim.Native.Nat.{ℕ}
use mathlib.Core.Bool.{Bool, false, not}
use mathlib.Core.List.{List, [], ◌∷◌}
use mathlib.Core.Path.{◌≡◌}
use lib.Dec.{eqb}
use borrow.Author.Tests.{eq-eqb, ne_eqb}
use Rattle.ground.proofs.Each.{cond_holds}
use Rattle.cell.specs.declared.Weight.{Weight}
use Rattle.image.specs.declared.Edge.{Edge}
use Rattle.flow.specs.declared.Bend.{Bend}
use Rattle.flow.specs.declared.Leg.{Leg}
use Rattle.flow.specs.declared.Piece.{Piece}
use Rattle.flow.specs.Flow.{target_marker, corner_bend, leg_bend}
use Rattle.x_flow.specs.XFlow.{sign_x, direct_x, cross_line_x, cross_first_x, cross_last_x, corner_arrow_x, trunk_x, own_start_x, tail_x, bent_x, corner_x, channel_line_x, side_x}
use Rattle.x_flow.specs.XFlow.{straight_line_x, straight_x, corner_column, crossing_x, leg_x}
use Rattle.window.specs.Writes.{Canvas}
use Rattle.draw.specs.declared.Pen.{Pen}
use Rattle.draw.specs.Drawn.{Inked, LinePiece, CellPiece}
use Rattle.draw.proofs.Laws.{inked_then, inked_none}

-- Each piece is a line or a cell.

module _ (p : Piece) where
  pub direct_is_line : (e : Edge) → p ≡ direct_x e → LinePiece p
  unfolding LinePiece direct_x
  direct_is_line e is = rw is tt

  pub crossing_is_line : (column y1 y2 : ℕ) → p ≡ cross_line_x column y1 y2 → LinePiece p
  unfolding LinePiece cross_line_x
  crossing_is_line column y1 y2 is = rw is tt

  pub first_is_cell : (w : Weight) (s arrow : Bool) (column y1 y2 : ℕ) → p ≡ cross_first_x w s arrow column y1 y2 → CellPiece p
  unfolding CellPiece cross_first_x
  first_is_cell w s arrow column y1 y2 is = rw is (cond_holds CellPiece (eqb y1 y2) tt (cond_holds CellPiece arrow tt tt))

  pub last_is_cell : (w : Weight) (s : Bool) (column y1 y2 : ℕ) → p ≡ cross_last_x w s column y1 y2 → CellPiece p
  unfolding CellPiece cross_last_x
  last_is_cell w s column y1 y2 is = rw is (cond_holds CellPiece (eqb y1 y2) tt tt)

  pub trunk_is_line : (s : Bool) (v : Bend) → p ≡ trunk_x s v → LinePiece p
  unfolding LinePiece trunk_x
  trunk_is_line s v is = rw is (cond_holds LinePiece v.has_trunk tt tt)

  pub start_is_cell : (w : Weight) (strokes : Bool) (x y : ℕ) → p ≡ own_start_x w strokes x y → CellPiece p
  unfolding CellPiece own_start_x
  start_is_cell w strokes x y is = rw is (cond_holds CellPiece strokes tt tt)

  pub tail_is_line : (s arrow : Bool) (y from to : ℕ) → p ≡ tail_x s arrow y from to → LinePiece p
  unfolding LinePiece tail_x
  tail_is_line s arrow y from to is = rw is tt

  pub channel_is_line : (channel start end : ℕ) → p ≡ channel_line_x channel start end → LinePiece p
  unfolding LinePiece channel_line_x
  channel_is_line channel start end is = rw is tt

  pub straight_is_line : (e : Edge) (leg : Leg) → p ≡ straight_line_x e leg → LinePiece p
  unfolding LinePiece straight_line_x
  straight_is_line e leg is = rw is tt

module _ (pen : Pen) (ranges : List ℕ) (e : Edge) (a b : Canvas) where
  -- A Direct edge.

  pub direct_inked : (p : Piece) → p ≡ direct_x e → Inked pen ranges (p ∷ []) a b → Inked pen ranges (direct_x e ∷ []) a b
  direct_inked p is d = rw is at d

  -- A Corner, and a leg of a MultiSegment: straight, with a corner below 0, and bent.

  pub corner_inked :
      (bend : ℕ) (w : Weight) (s : Bool) (v : Bend) →
      w ≡ e.weight →
      s ≡ sign_x e →
      v ≡ corner_bend e bend →
      Inked pen ranges (bent_x w s v) a b →
      Inked pen ranges (corner_x e bend) a b
  unfolding corner_x
  corner_inked bend w s v h is so d = rw (h, is, so) at d

  pub straight_leg :
      (offset : ℕ) (leg : Leg) → leg.y1 ≡ leg.y2 →
      Inked pen ranges (straight_x e leg) a b →
      Inked pen ranges (leg_x e offset leg) a b
  unfolding leg_x
  straight_leg offset leg h d = rw (eq-eqb leg.y1 leg.y2 h) d

module _ (pen : Pen) (ranges : List ℕ) (e : Edge) (offset : ℕ) (leg : Leg) (corner : Option ℕ) (bends : leg.y1 ≡ leg.y2 → ⊥) (found : corner ≡ corner_column e offset leg) (a : Canvas) where
  pub below_leg : corner ≡ None → Inked pen ranges (leg_x e offset leg) a a
  unfolding leg_x crossing_x
  below_leg is = rw (ne_eqb leg.y1 leg.y2 bends, ← found, is) (inked_none pen ranges a)

  pub bent_leg :
      (b : Canvas) (column : ℕ) (w : Weight) (s : Bool) (v : Bend) →
      corner ≡ Some column →
      w ≡ e.weight →
      s ≡ sign_x e →
      v ≡ leg_bend e offset leg column →
      Inked pen ranges (bent_x w s v) a b →
      Inked pen ranges (leg_x e offset leg) a b
  unfolding leg_x crossing_x
  bent_leg b column w s v there h is so d = rw (ne_eqb leg.y1 leg.y2 bends, ← found, there) (rw (h, is, so) at d)

-- A straight leg, a crossing, a way that bends once, and a SideChannel: one piece after the other.

module _ (pen : Pen) (ranges : List ℕ) where
  -- the three pieces of a crossing
  abbrev crossing : Weight → Bool → Bool → ℕ → ℕ → ℕ → List Piece
  crossing w s arrow column y1 y2 = cross_line_x column y1 y2 ∷ cross_first_x w s arrow column y1 y2 ∷ cross_last_x w s column y1 y2 ∷ []

  module _ (a b c : Canvas) where
    pub straight_inked :
        (e : Edge) (leg : Leg) (start line : Piece) →
        start ≡ own_start_x e.weight (not leg.first) leg.x1 leg.y1 →
        line ≡ straight_line_x e leg →
        Inked pen ranges (start ∷ []) a b →
        Inked pen ranges (line ∷ []) b c →
        Inked pen ranges (straight_x e leg) a c
    unfolding straight_x
    straight_inked e leg start line s l one two = inked_then pen ranges _ _ a b c (rw s at one) (rw l at two)

    module _ (d : Canvas) where
      pub crossing_inked :
          (s arrow : Bool) (column y1 y2 : ℕ) (line turn end : Piece) →
          line ≡ cross_line_x column y1 y2 →
          turn ≡ cross_first_x pen.weight s arrow column y1 y2 →
          end ≡ cross_last_x pen.weight s column y1 y2 →
          Inked pen ranges (line ∷ []) a b →
          Inked pen ranges (turn ∷ []) b c →
          Inked pen ranges (end ∷ []) c d →
          Inked pen ranges (crossing pen.weight s arrow column y1 y2) a d
      crossing_inked s arrow column y1 y2 line turn end n t l one two three =
          inked_then pen ranges _ _ a b d (rw n at one)
          (inked_then pen ranges _ _ b c d (rw t at two) (rw l at three))

      pub bent_inked :
          (z : Canvas) (s arrow : Bool) (v : Bend) (trunk start tail : Piece) →
          trunk ≡ trunk_x s v →
          start ≡ own_start_x pen.weight v.strokes_start v.x1 v.y1 →
          arrow ≡ corner_arrow_x s v →
          tail ≡ tail_x s v.end_arrow v.y2 v.bend v.x2 →
          Inked pen ranges (trunk ∷ []) a b →
          Inked pen ranges (start ∷ []) b c →
          Inked pen ranges (crossing pen.weight s arrow v.bend v.y1 v.y2) c d →
          Inked pen ranges (tail ∷ []) d z →
          Inked pen ranges (bent_x pen.weight s v) a z
      unfolding bent_x
      bent_inked z s arrow v trunk start tail t o r l one two three four =
          inked_then pen ranges _ _ a b z (rw t at one)
          (inked_then pen ranges _ _ b c z (rw o at two)
          (inked_then pen ranges _ _ c d z (rw r at three) (rw l at four)))

      pub side_inked :
          (y z : Canvas) (e : Edge) (channel start end : ℕ) (w : Weight) (s turned arrow : Bool) (y1 x2 y2 row first last : ℕ) (v : Bend) (trunk line tail : Piece) →
          w ≡ e.weight →
          s ≡ sign_x e →
          y1 ≡ e.from_y →
          x2 ≡ e.to_x →
          y2 ≡ e.to_y →
          row ≡ channel →
          first ≡ start →
          last ≡ end →
          v ≡ corner_bend e start →
          trunk ≡ trunk_x s v →
          turned ≡ corner_arrow_x s v →
          line ≡ channel_line_x row first last →
          arrow ≡ target_marker e →
          tail ≡ tail_x s arrow y2 last x2 →
          Inked pen ranges (trunk ∷ []) a b →
          Inked pen ranges (crossing w s turned first y1 row) b c →
          Inked pen ranges (line ∷ []) c d →
          Inked pen ranges (crossing w s false last row y2) d y →
          Inked pen ranges (tail ∷ []) y z →
          Inked pen ranges (side_x e channel start end) a z
      unfolding side_x
      side_inked y z e channel start end w s turned arrow y1 x2 y2 row first last v trunk line tail h is p q r k f l bend t tu ln m tl one two three four five =
          inked_then pen ranges _ _ a b z (rw (t, is, bend) at one)
          (inked_then pen ranges _ _ b c z (rw (h, tu, is, bend, p, k, f) at two)
          (inked_then pen ranges _ _ c d z (rw (ln, k, f, l) at three)
          (inked_then pen ranges _ _ d y z (rw (h, is, k, l, r) at four)
          (rw (tl, is, m, q, r, l) at five))))
