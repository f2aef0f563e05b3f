-- What is drawn of a Y flow: from the pieces that the code makes and from what it calls.
use Rattle.std.specs.Prelude.{Option, Some, None}
use native.Mathlib.Omega.{arith}
use Prim.Native.Nat.{ℕ, ◌+◌, ◌≤◌, ◌<◌, min, max}
use mathlib.Core.Bool.{Bool, false, true, not}
use mathlib.Core.List.{List, [], ◌∷◌}
use mathlib.Core.Path.{◌≡◌, refl, sym, ◌∙◌}
use lib.Dec.{ltb, eqb}
use borrow.Author.Tests.{eq-eqb, ne_eqb, ltb-true, eqb-true}
use Rattle.ground.specs.Each.{some}
use Rattle.ground.proofs.Each.{by_bool, cond_holds, or_neither}
use Rattle.cell.specs.declared.Weight.{Weight}
use Rattle.image.specs.declared.Edge.{Edge}
use Rattle.rows.specs.Spots.{touches}
use Rattle.rows.specs.Window.{in_window}
use Rattle.flow.specs.declared.Bend.{Bend}
use Rattle.flow.specs.declared.Leg.{Leg}
use Rattle.flow.specs.declared.Piece.{Piece}
use Rattle.flow.specs.declared.Piece.TheVariants.{Nothing, Run, Stroke, Mark}
use Rattle.flow.specs.Flow.{target_marker, corner_bend, leg_bend}
use Rattle.flow.specs.Pieces.{piece_spots, piece_touches}
use Rattle.y_flow.specs.YFlow.{sign_y, direct_y, cross_run_y, cross_first_y, cross_last_y, corner_arrow_y, trunk_y, own_start_y, tail_y, bent_y, corner_y, channel_line_y, side_y}
use Rattle.y_flow.specs.YFlow.{straight_line_y, straight_y, corner_row, crossing_y, leg_y}
use Rattle.window.specs.Writes.{Canvas}
use Rattle.rows.proofs.Windows.{clash}
use Rattle.window.proofs.Rows.{within}
use Rattle.runs.specs.Kept.{run_room, Kept, runs_within}
use Rattle.draw.specs.declared.Pen.{Pen}
use Rattle.draw.specs.Drawn.{edge_of, pieces_runs, Inked, Drawing, Drawn, LinePiece, CellPiece, RunPiece}
use Rattle.draw.proofs.Laws.{inked_then, drawn_then, drawn_none, only_inked, run_drawn, untouched_pieces}

-- Of which kind each piece is.

module _ (p : Piece) where
  pub direct_line : (e : Edge) → p ≡ direct_y e → LinePiece p
  unfolding LinePiece direct_y
  direct_line e is = rw is tt

  pub cross_run : (row x1 x2 : ℕ) → p ≡ cross_run_y row x1 x2 → x1 < 0x100000000 → x2 < 0x100000000 → RunPiece p
  unfolding RunPiece cross_run_y
  cross_run row x1 x2 is l m =
      by_bool (ltb (min x1 x2 + 1) (max x1 x2))
      (λ t. rw (is, t) (omega (arith, ltb-true), omega arith))
      (λ t. rw (is, t) tt)

  pub first_cell : (w : Weight) (s arrow : Bool) (row x1 x2 : ℕ) → p ≡ cross_first_y w s arrow row x1 x2 → CellPiece p
  unfolding CellPiece cross_first_y
  first_cell w s arrow row x1 x2 is = rw is (cond_holds CellPiece (eqb x1 x2) tt (cond_holds CellPiece arrow tt tt))

  pub last_cell : (w : Weight) (s : Bool) (row x1 x2 : ℕ) → p ≡ cross_last_y w s row x1 x2 → CellPiece p
  unfolding CellPiece cross_last_y
  last_cell w s row x1 x2 is = rw is (cond_holds CellPiece (eqb x1 x2) tt tt)

  pub trunk_line : (s : Bool) (v : Bend) → p ≡ trunk_y s v → LinePiece p
  unfolding LinePiece trunk_y
  trunk_line s v is = rw is (cond_holds LinePiece v.has_trunk tt tt)

  pub start_cell : (w : Weight) (strokes : Bool) (x y : ℕ) → p ≡ own_start_y w strokes x y → CellPiece p
  unfolding CellPiece own_start_y
  start_cell w strokes x y is = rw is (cond_holds CellPiece strokes tt tt)

  pub tail_line : (s arrow : Bool) (x from to : ℕ) → p ≡ tail_y s arrow x from to → LinePiece p
  unfolding LinePiece tail_y
  tail_line s arrow x from to is = rw is tt

  pub channel_line : (channel start end : ℕ) → p ≡ channel_line_y channel start end → LinePiece p
  unfolding LinePiece channel_line_y
  channel_line channel start end is = rw is tt

  pub straight_line : (e : Edge) (leg : Leg) → p ≡ straight_line_y e leg → LinePiece p
  unfolding LinePiece straight_line_y
  straight_line e leg is = rw is tt

-- A crossing on a row that the window lacks touches no row of it.

module _ (e : Edge) (row y : ℕ) (off : eqb row y ≡ false) where
  abbrev Away : Piece → Type 0
  Away p = piece_touches e p y ≡ false

  nothing_away : Away Nothing
  unfolding piece_touches piece_spots touches some
  nothing_away = refl

  run_away : (first last : ℕ) → Away (Run row first last)
  unfolding piece_touches piece_spots touches some
  run_away first last = rw off

  stroke_away : (x : ℕ) (arms : _) → Away (Stroke x row arms)
  unfolding piece_touches piece_spots touches some
  stroke_away x arms = rw off

  mark_away : (x : ℕ) (dir : _) → Away (Mark x row dir)
  unfolding piece_touches piece_spots touches some
  mark_away x dir = rw off

  turns_away : (w : Weight) (s arrow : Bool) (x1 x2 : ℕ) → some (cross_run_y row x1 x2 ∷ cross_first_y w s arrow row x1 x2 ∷ cross_last_y w s row x1 x2 ∷ []) (λ p. piece_touches e p y) ≡ false
  unfolding cross_run_y cross_first_y cross_last_y some
  turns_away w s arrow x1 x2 =
      or_neither (cond_holds Away (ltb (min x1 x2 + 1) (max x1 x2)) (run_away _ _) nothing_away)
      (or_neither (cond_holds Away (eqb x1 x2) nothing_away (cond_holds Away arrow (mark_away _ _) (stroke_away _ _)))
      (or_neither (cond_holds Away (eqb x1 x2) nothing_away (stroke_away _ _)) refl))

-- The pen's weight is the edge's.
by_weight : (P : Weight → Type 0) (u w : Weight) → u ≡ w → P u → P w
by_weight P u w h p = rw h at p

-- One after the other.

module _ (pen : Pen) (ranges : List ℕ) where
  abbrev Done : List Piece → Canvas → List ℕ → ℕ → Canvas → List ℕ → ℕ → Type 0
  Done ps a scratch kept b scratch' kept' = Drawn pen ranges ps (record { canvas = a; scratch = scratch; kept = kept }) (record { canvas = b; scratch = scratch'; kept = kept' })

  abbrev turns : Bool → Bool → ℕ → ℕ → ℕ → List Piece
  turns s arrow row x1 x2 = cross_run_y row x1 x2 ∷ cross_first_y pen.weight s arrow row x1 x2 ∷ cross_last_y pen.weight s row x1 x2 ∷ []

  pub direct_drawn : (e : Edge) (p : Piece) (a b : Canvas) → p ≡ direct_y e → Inked pen ranges (p ∷ []) a b → Inked pen ranges (direct_y e ∷ []) a b
  direct_drawn e p a b is d = rw is at d

  -- what is kept after drawing has room
  kept_room : (ps : List Piece) (a b : Drawing) → Drawn pen ranges ps a b → b.kept ≤ run_room b.scratch
  kept_room ps a b d = let l = d.runs.long in rw l d.runs.room

  module _ (s arrow : Bool) (row x1 x2 : ℕ) where
    pub turns_drawn :
        (run turn end : Piece) (a b c : Canvas) (scratch : List ℕ) (kept : ℕ) (scratch' : List ℕ) (kept' : ℕ) →
        run ≡ cross_run_y row x1 x2 → x1 < 0x100000000 → x2 < 0x100000000 →
        turn ≡ cross_first_y pen.weight s arrow row x1 x2 →
        end ≡ cross_last_y pen.weight s row x1 x2 →
        Kept scratch kept (runs_within pen.window (pieces_runs pen (run ∷ []))) scratch' kept' →
        Inked pen ranges (turn ∷ []) a b →
        Inked pen ranges (end ∷ []) b c →
        Done (turns s arrow row x1 x2) a scratch kept c scratch' kept'
    turns_drawn run turn end a b c scratch kept scratch' kept' r l m t f k i j =
        let first : Done (run ∷ []) a scratch kept a scratch' kept' = run_drawn pen ranges run a scratch kept scratch' kept' (cross_run run row x1 x2 r l m) k in
        let more : Inked pen ranges (turn ∷ end ∷ []) a c = inked_then pen ranges (turn ∷ []) (end ∷ []) a b c i j in
        rw (r, t, f) at (drawn_then pen ranges (run ∷ []) (turn ∷ end ∷ []) _ _ _ first (only_inked pen ranges (turn ∷ end ∷ []) a c scratch' kept' more (kept_room (run ∷ []) _ _ first)))

    pub crossing_elsewhere :
        (has : Bool) (a : Drawing) → has ≡ in_window pen.window row → has ≡ false → a.kept ≤ run_room a.scratch →
        Drawn pen ranges (turns s arrow row x1 x2) a a
    crossing_elsewhere has a tested f room =
        untouched_pieces pen ranges (turns s arrow row x1 x2) a
        (λ y p q. turns_away (edge_of pen) row y (apart y p q) pen.weight s arrow x1 x2) room
      where
        apart : (y : ℕ) → pen.window.first ≤ y → y < pen.window.first + pen.window.rows → eqb row y ≡ false
        apart y p q =
            by_bool (eqb row y)
            (λ t. let w : in_window pen.window y ≡ true = within pen.window y p q in clash (rw (← eqb-true row y t) at w) (sym tested ∙ f))
            (λ t. t)

  -- A way that bends once.
  pub bent_drawn :
      (s arrow : Bool) (v : Bend) (trunk start tail : Piece) (a b c d e : Canvas) (scratch : List ℕ) (kept : ℕ) (scratch' : List ℕ) (kept' : ℕ) →
      trunk ≡ trunk_y s v →
      start ≡ own_start_y pen.weight v.strokes_start v.x1 v.y1 →
      arrow ≡ corner_arrow_y s v →
      tail ≡ tail_y s v.end_arrow v.x2 v.bend v.y2 →
      kept ≤ run_room scratch →
      Inked pen ranges (trunk ∷ []) a b →
      Inked pen ranges (start ∷ []) b c →
      Done (turns s arrow v.bend v.x1 v.x2) c scratch kept d scratch' kept' →
      Inked pen ranges (tail ∷ []) d e →
      Done (bent_y pen.weight s v) a scratch kept e scratch' kept'
  unfolding bent_y
  bent_drawn s arrow v trunk start tail a b c d e scratch kept scratch' kept' t o r l room i j k m =
      let begun : Done (trunk ∷ start ∷ []) a scratch kept c scratch kept = only_inked pen ranges (trunk ∷ start ∷ []) a c scratch kept (inked_then pen ranges (trunk ∷ []) (start ∷ []) a b c i j) room in
      let ended : Done (tail ∷ []) d scratch' kept' e scratch' kept' = only_inked pen ranges (tail ∷ []) d e scratch' kept' m (kept_room (turns s arrow v.bend v.x1 v.x2) _ _ k) in
      rw (t, o, r, l) at (drawn_then pen ranges (trunk ∷ start ∷ []) _ _ _ _ begun (drawn_then pen ranges (turns s arrow v.bend v.x1 v.x2) (tail ∷ []) _ _ _ k ended))

  pub corner_drawn :
      (e : Edge) (bend : ℕ) (s : Bool) (v : Bend) (a b : Drawing) →
      s ≡ sign_y e → v ≡ corner_bend e bend → pen.weight ≡ e.weight →
      Drawn pen ranges (bent_y pen.weight s v) a b →
      Drawn pen ranges (corner_y e bend) a b
  unfolding corner_y
  corner_drawn e bend s v a b is so w d = by_weight (λ u. Drawn pen ranges (bent_y u (sign_y e) (corner_bend e bend)) a b) pen.weight e.weight w (rw (is, so) at d)

  pub straight_drawn :
      (e : Edge) (leg : Leg) (start line : Piece) (a b c : Canvas) →
      start ≡ own_start_y e.weight (not leg.first) leg.x1 leg.y1 →
      line ≡ straight_line_y e leg →
      Inked pen ranges (start ∷ []) a b →
      Inked pen ranges (line ∷ []) b c →
      Inked pen ranges (straight_y e leg) a c
  unfolding straight_y
  straight_drawn e leg start line a b c s l i j = rw (s, l) at (inked_then pen ranges (start ∷ []) (line ∷ []) a b c i j)

  -- A leg of a MultiSegment: straight, with a corner below 0, and bent.

  pub straight_leg :
      (e : Edge) (offset : ℕ) (leg : Leg) (a b : Canvas) (scratch : List ℕ) (kept : ℕ) → leg.x1 ≡ leg.x2 →
      Inked pen ranges (straight_y e leg) a b → kept ≤ run_room scratch →
      Done (leg_y e offset leg) a scratch kept b scratch kept
  unfolding leg_y
  straight_leg e offset leg a b scratch kept h i room = rw (eq-eqb leg.x1 leg.x2 h) (only_inked pen ranges (straight_y e leg) a b scratch kept i room)

  module _ (e : Edge) (offset : ℕ) (leg : Leg) (corner : Option ℕ) (bends : leg.x1 ≡ leg.x2 → ⊥) (found : corner ≡ corner_row e offset leg) (a : Drawing) where
    pub below_leg : corner ≡ None → a.kept ≤ run_room a.scratch → Drawn pen ranges (leg_y e offset leg) a a
    unfolding leg_y crossing_y
    below_leg is room = rw (ne_eqb leg.x1 leg.x2 bends, ← found, is) (drawn_none pen ranges a room)

    pub bent_leg :
        (b : Drawing) (row : ℕ) (s : Bool) (v : Bend) →
        corner ≡ Some row → s ≡ sign_y e → v ≡ leg_bend e offset leg row → pen.weight ≡ e.weight →
        Drawn pen ranges (bent_y pen.weight s v) a b →
        Drawn pen ranges (leg_y e offset leg) a b
    unfolding leg_y crossing_y
    bent_leg b row s v there is so w d = rw (ne_eqb leg.x1 leg.x2 bends, ← found, there) (by_weight (λ u. Drawn pen ranges (bent_y u (sign_y e) (leg_bend e offset leg row)) a b) pen.weight e.weight w (rw (is, so) at d))

  -- A SideChannel.
  pub side_drawn :
      (e : Edge) (channel start end : ℕ) (s arrow : Bool) (x1 x2 y2 column first last : ℕ) (line tail : Piece)
      (a b c d f : Canvas) (scratch : List ℕ) (kept : ℕ) (scratch' : List ℕ) (kept' : ℕ) (scratch'' : List ℕ) (kept'' : ℕ) →
      s ≡ sign_y e → x1 ≡ e.from_x → x2 ≡ e.to_x → y2 ≡ e.to_y →
      column ≡ channel → first ≡ start → last ≡ end → arrow ≡ target_marker e →
      line ≡ channel_line_y column first last →
      tail ≡ tail_y s arrow x2 last y2 →
      pen.weight ≡ e.weight →
      Done (turns s false first x1 column) a scratch kept b scratch' kept' →
      Inked pen ranges (line ∷ []) b c →
      Done (turns s false last column x2) c scratch' kept' d scratch'' kept'' →
      Inked pen ranges (tail ∷ []) d f →
      Done (side_y e channel start end) a scratch kept f scratch'' kept''
  unfolding side_y
  side_drawn e channel start end s arrow x1 x2 y2 column first last line tail a b c d f scratch kept scratch' kept' scratch'' kept'' is p q r k g l m ln tl w i j n o =
      let mid : Done (line ∷ []) b scratch' kept' c scratch' kept' = only_inked pen ranges (line ∷ []) b c scratch' kept' j (kept_room _ _ _ i) in
      let ended : Done (tail ∷ []) d scratch'' kept'' f scratch'' kept'' = only_inked pen ranges (tail ∷ []) d f scratch'' kept'' o (kept_room _ _ _ n) in
      by_weight
      (λ u.
      Done (cross_run_y start e.from_x channel
      ∷ cross_first_y u (sign_y e) false start e.from_x channel
      ∷ cross_last_y u (sign_y e) start e.from_x channel
      ∷ channel_line_y channel start end
      ∷ cross_run_y end channel e.to_x
      ∷ cross_first_y u (sign_y e) false end channel e.to_x
      ∷ cross_last_y u (sign_y e) end channel e.to_x
      ∷ tail_y (sign_y e) (target_marker e) e.to_x end e.to_y
      ∷ []) a scratch kept f scratch'' kept'')
      pen.weight e.weight w
      (rw (ln, tl, is, m, p, q, r, k, g, l) at
      (drawn_then pen ranges _ _ _ _ _ i (drawn_then pen ranges _ _ _ _ _ mid (drawn_then pen ranges _ _ _ _ _ n ended))))
