-- The rows of an Orthogonal path, point by point and without its arrows, are the rows of its pieces.
use Rattle.std.specs.Prelude.{Option, Some, None}
use native.Mathlib.Omega.{arith}
use native.Mathlib.Numerals.{add-one}
use Prim.Native.Nat.{ℕ, suc, ◌+◌, ◌-◌, ◌<◌, ◌≤◌}
use mathlib.Core.Path.{◌≡◌, refl, sym, ◌∙◌, ap}
use mathlib.Core.Bool.{Bool, true, false, ◌&&◌}
use mathlib.Core.List.{List, [], ◌∷◌, map}
use lib.Dec.{eqb}
use lib.ListN.{length, drop}
use borrow.Author.Tests.{eq-eqb, ne_eqb}
use Rattle.ground.specs.Each.{numbers, each}
use Rattle.ground.proofs.Each.{by_bool, numbers_step}
use Rattle.rows.specs.declared.Rows.{Rows}
use Rattle.rows.specs.declared.Window.{Window}
use Rattle.rows.specs.Window.{join_rows}
use Rattle.rows.specs.Computed.{window_rows}
use Rattle.rows.proofs.Theorems.{join_assoc, join_none}
use Rattle.cell.specs.declared.Weight.{Weight}
use Rattle.image.specs.declared.Edge.{Edge}
use Rattle.image.specs.declared.Point.{Point}
use Rattle.flow.specs.declared.Piece.{Piece}
use Rattle.flow.specs.declared.Reach.{Reach}
use Rattle.flow.specs.Flow.{line_of}
use Rattle.flow.specs.Pieces.{piece_runs_in}
use Rattle.flow.specs.Reach.{piece_rows, vertical_rows, horizontal_rows, piece_reach, join_reach, reach_of}
use Rattle.orthogonal.specs.declared.PathLeg.{PathLeg}
use Rattle.orthogonal.specs.declared.EndMark.{EndMark}
use Rattle.orthogonal_reach.specs.declared.Passed.{Passed}
use Rattle.image.specs.Spans.{point_count, point_at}
use Rattle.orthogonal.specs.Points.{source, target, path_point, path_points, same_point, stops_after, stops, leg_count}
use Rattle.orthogonal.specs.Orthogonal.{column_line, row_line, leg_line, mark_or, bend_piece, leg_bend_piece, leg_pieces, path_leg, source_mark, target_mark, pieces_along, orthogonal_pieces}
use Rattle.orthogonal.specs.Walk.{points_left}
use Rattle.orthogonal_reach.specs.Passing.{bend_rows, line_rows, pass_stop, pass_point, pass_points, pass_none}
use Rattle.orthogonal.proofs.Laws.{between_point, last_point}
use Rattle.orthogonal.proofs.Walked.{part_head, part_tail}

-- rows, and no runs
abbrev only_rows : Option Rows → Reach
only_rows r = record { rows = r; runs = 0 }

-- The rows of a leg's two pieces are the same with any arrows.

module _ (window : Window) where
  -- a marker in a cell touches the row that what is drawn there touches
  marked :
      (mark : Option EndMark) (x y : ℕ) (p : Piece) →
      piece_reach window p ≡ only_rows (window_rows window y y) →
      piece_reach window (mark_or mark x y p) ≡ only_rows (window_rows window y y)
  unfolding mark_or piece_rows piece_runs_in piece_reach
  marked None x y p h = h
  marked (Some m) x y p h = by_bool (eqb m.x x && eqb m.y y) (λ t. rw t) (λ t. rw t h)

  -- the bend at a leg's start
  bend_reach :
      (w : Weight) (target source : Option EndMark) (leg : PathLeg) (first : Bool) (from : Point) →
      leg.first ≡ first →
      leg.from ≡ from →
      piece_reach window (leg_bend_piece w target source leg) ≡ only_rows (bend_rows window first from.y)
  unfolding leg_bend_piece bend_piece bend_rows piece_rows piece_runs_in piece_reach
  bend_reach w target source leg true from p q = rw p
  bend_reach w target source leg false from p q = rw (p, q) (marked target from.x from.y _ (marked source from.x from.y _ refl))

  -- its interior
  line_reach :
      (target source : Option EndMark) (leg : PathLeg) (from to : Point) →
      leg.from ≡ from →
      leg.to ≡ to →
      piece_reach window (leg_line target source leg) ≡ only_rows (line_rows window from to)
  unfolding leg_line column_line row_line line_of line_rows piece_rows piece_runs_in piece_reach
  line_reach target source leg from to p q =
      rw (p, q)
      (by_bool (eqb from.x to.x) (λ t. rw t)
      (λ t. by_bool (eqb from.y to.y) (λ u. rw (t, u)) (λ u. rw (t, u))))

  two_more :
      (p q : Piece) (rest : List Piece) (a b c : Option Rows) →
      piece_reach window p ≡ only_rows a →
      piece_reach window q ≡ only_rows b →
      reach_of window rest ≡ only_rows c →
      reach_of window (p ∷ q ∷ rest) ≡ only_rows (join_rows a (join_rows b c))
  unfolding reach_of join_reach
  two_more p q rest a b c e f g = rw (e, f, g)

  -- the rows of a leg's interior, along a column, along a row, and slanted

  module _ (from to : Point) where
    module _ (a : ℕ) (r : Option Rows) where
      pub rows_on_column : (to_y_lem : ℕ) → a ≡ from.y → to_y_lem ≡ to.y → from.x ≡ to.x → r ≡ vertical_rows window a to_y_lem → r ≡ line_rows window from to
      unfolding line_rows
      rows_on_column to_y_lem p q h e = rw (eq-eqb _ _ h, ← p, ← q) e

      pub rows_on_row :
          (from_x_lem to_x : ℕ) → a ≡ from.y → from_x_lem ≡ from.x → to_x ≡ to.x → (from.x ≡ to.x → ⊥) → from.y ≡ to.y →
          r ≡ horizontal_rows window a from_x_lem to_x → r ≡ line_rows window from to
      unfolding line_rows
      rows_on_row from_x_lem to_x p q s n h e = rw (ne_eqb _ _ n, eq-eqb _ _ h, ← p, ← q, ← s) e

    pub rows_slanted : (from.x ≡ to.x → ⊥) → (from.y ≡ to.y → ⊥) → None ≡ line_rows window from to
    unfolding line_rows
    rows_slanted n m = rw (ne_eqb _ _ n, ne_eqb _ _ m)

  -- the rows of the legs from a stop on, through the stops after it
  unfoldable rows_along : Bool → Point → List Point → Option Rows
  rows_along first a [] = None
  rows_along first a (b ∷ rest) =
      join_rows (bend_rows window first a.y) (join_rows (line_rows window a b) (rows_along false b rest))

  -- they are those of the pieces of these legs
  legs_reach :
      (w : Weight) (target source : Option EndMark) (path rest : List Point) (k : ℕ) (first : Bool) (a : Point) →
      eqb k 0 ≡ first →
      drop k path ≡ a ∷ rest →
      reach_of window (each (numbers k (length rest)) (λ j. leg_pieces w target source (path_leg path j)))
      ≡ only_rows (rows_along first a rest)
  unfolding reach_of each numbers rows_along leg_pieces path_leg
  legs_reach w target source path [] k first a z h = refl
  legs_reach w target source path (b ∷ rest) k first a z h =
      let t = part_tail path k a (b ∷ rest) h in
      let from = part_head path k a (b ∷ rest) h in
      let to = part_head path (k + 1) b rest t in
      two_more _ _ (each (numbers (suc k) (length rest)) (λ j. leg_pieces w target source (path_leg path j))) _ _ _
      (bend_reach w target source (path_leg path k) first a z from)
      (line_reach target source (path_leg path k) a b from to)
      (legs_reach w target source path rest (suc k) false b (ne_eqb (suc k) 0 (λ q. omega arith)) (rw add-one at t))

  -- a point that repeats the last stop, and one that ends a leg

  pub pass_same : (passed : Passed) (p : Point) → same_point passed.stop p ≡ true → pass_point window passed p ≡ passed
  unfolding pass_point
  pass_same passed p t = rw t

  pub pass_other : (passed : Passed) (p : Point) → same_point passed.stop p ≡ false → pass_point window passed p ≡ pass_stop window passed p
  unfolding pass_point
  pass_other passed p t = rw t

  -- the same of a test and of rows by name

  module _ (passed : Passed) (p stop : Point) (same : Bool) (at : stop ≡ passed.stop) (t : same ≡ same_point stop p) where
    pub pass_repeated : same ≡ true → passed ≡ pass_point window passed p
    pass_repeated h = sym (pass_same passed p (rw (← at, ← t) h))

    pub pass_leg :
        (y : ℕ) (bend bent line all : Option Rows) → same ≡ false → y ≡ stop.y →
        bend ≡ bend_rows window passed.first y → bent ≡ join_rows passed.rows bend →
        line ≡ line_rows window stop p → all ≡ join_rows bent line →
        ◌≡◌ {A = Passed} (record { stop = p; first = false; rows = all }) (pass_point window passed p)
    pass_leg y bend bent line all h q b j l e =
        rw (e, j, b, l, q, at) (sym (pass_other passed p (rw (← at, ← t) h)))

  -- they are those of the points, once the repeated are skipped
  passed_stops :
      (points : List Point) (passed : Passed) →
      (pass_points window passed points).rows
      ≡ join_rows passed.rows (rows_along passed.first passed.stop (stops_after passed.stop points))
  unfolding pass_points rows_along stops_after
  passed_stops [] passed = sym (join_none passed.rows)
  passed_stops (p ∷ points) passed =
      by_bool (same_point passed.stop p)
      (λ t. then (pass_same passed p t) (rw t (passed_stops points passed)))
      (λ t.
      let rest = rows_along false p (stops_after p points) in
      let bend = bend_rows window passed.first passed.stop.y in
      let line = line_rows window passed.stop p in
      then (pass_other passed p t)
      (rw t
      (passed_stops points (pass_stop window passed p)
      ∙ join_assoc (join_rows passed.rows bend) line rest
      ∙ join_assoc passed.rows bend (join_rows line rest))))
    where
      then : {q : Passed} {r : Option Rows} → pass_point window passed p ≡ q → (pass_points window q points).rows ≡ r → (pass_points window (pass_point window passed p) points).rows ≡ r
      then e h = ap (λ (x : Passed). (pass_points window x points).rows) e ∙ h

  -- all points passed, the rows are those of the path's pieces
  passed_reach :
      (e : Edge) (points : List ℕ) (r : Option Rows) →
      r ≡ (pass_points window (pass_none e) (path_points e points 1 (point_count points + 1))).rows →
      only_rows r ≡ reach_of window (orthogonal_pieces e points)
  unfolding pieces_along stops
  passed_reach e points r h =
      let path = stops e points in
      let rest = stops_after (source e) (path_points e points 1 (point_count points + 1)) in
      let n : leg_count path ≡ length rest = omega arith in
      ap only_rows (h ∙ passed_stops (path_points e points 1 (point_count points + 1)) (pass_none e))
      ∙ sym (legs_reach e.weight (target_mark e path) (source_mark e path) path rest 0 true (source e) refl refl)
      ∙ rw n

  -- A look along the points: with those from point k on it comes to all of them.
  pub record PassedTo (e : Edge) (points : List ℕ) (passed : Passed) (k : ℕ) : Type 0 where
    pub within : k ≤ point_count points
    pub all :
        pass_points window passed (path_points e points (k + 1) (points_left points (k + 1)))
        ≡ pass_points window (pass_none e) (path_points e points 1 (point_count points + 1))

  module _ (e : Edge) (points : List ℕ) where
    pub pass_begins : PassedTo e points (pass_none e) 0
    pass_begins =
        let n : points_left points 1 ≡ point_count points + 1 = omega arith in
        record { within = omega arith; all = rw n }

    module _ (passed : Passed) (k : ℕ) (m : PassedTo e points passed k) where
      next_point :
          k ≤ point_count points →
          pass_points window passed (path_points e points (k + 1) (points_left points (k + 1)))
          ≡ pass_points window (pass_point window passed (path_point e points (k + 1))) (path_points e points (k + 1 + 1) (points_left points (k + 1 + 1)))
      unfolding pass_points
      next_point h =
          ap (λ (l : List ℕ). pass_points window passed (map (path_point e points) l))
          (numbers_step (k + 1) (point_count points + 2) (omega arith))

      pub pass_turns :
          (point : Point) (next : Passed) →
          k < point_count points →
          point ≡ point_at points k →
          next ≡ pass_point window passed point →
          PassedTo e points next (k + 1)
      pass_turns point next h p q =
          record {
            within = omega arith;
            all = rw (q, p, ← between_point e points k h) (sym (next_point (omega arith)) ∙ m.all);
          }

      pub pass_ends :
          (end : Point) (last : Passed) →
          point_count points ≤ k →
          end ≡ target e →
          last ≡ pass_point window passed end →
          only_rows last.rows ≡ reach_of window (orthogonal_pieces e points)
      unfolding pass_points numbers
      pass_ends end last h t q =
          let w = m.within in
          let z : k ≡ point_count points = omega arith in
          let n : points_left points (point_count points + 1 + 1) ≡ 0 = omega arith in
          let all = rw (z, last_point e points, n) at (sym (next_point w) ∙ m.all) in
          passed_reach e points last.rows (ap (λ (x : Passed). x.rows) (q ∙ ap (pass_point window passed) t ∙ all))
