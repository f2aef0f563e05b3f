-- The points of a path, and what a leg of an Orthogonal path draws, by their cases.
use Rattle.std.specs.Prelude.{Option, Some, None}
use native.Mathlib.Omega.{arith}
use Prim.Native.Nat.{ℕ, ◌+◌, ◌-◌, ◌≤◌, ◌<◌}
use mathlib.Core.Path.{◌≡◌, sym, ◌∙◌}
use mathlib.Core.Bool.{Bool, true, false}
use mathlib.Core.List.{List}
use borrow.Author.Tests.{eq-eqb, ne_eqb, le-leb, lt-leb, lt-ltb, le-ltb}
use Rattle.image.specs.declared.Edge.{Edge}
use Rattle.image.specs.declared.Point.{Point}
use Rattle.cell.specs.declared.Dir.TheVariants.{Up, Down, Left, Right}
use Rattle.cell.specs.declared.Weight.{Weight}
use Rattle.flow.specs.declared.Piece.{Piece}
use Rattle.flow.specs.declared.Piece.TheVariants.{Nothing, Mark}
use Rattle.orthogonal.specs.declared.PathLeg.{PathLeg}
use Rattle.orthogonal.specs.declared.EndMark.{EndMark}
use Rattle.image.specs.Spans.{point_count, point_at}
use Rattle.orthogonal.specs.Points.{source, target, path_point}
use Rattle.orthogonal.specs.Orthogonal.{toward, straight, long, inside, mark_facing, end_mark, mark_or, column_line, row_line, leg_line, bend_piece, leg_bend_piece}

-- Point k of the path: the source, one of those between, the target.

module _ (e : Edge) (points : List ℕ) (k : ℕ) where
  pub path_source : k ≡ 0 → source e ≡ path_point e points k
  unfolding path_point
  path_source h = rw (eq-eqb _ _ h)

  pub path_between : 0 < k → k ≤ point_count points → point_at points (k - 1) ≡ path_point e points k
  unfolding path_point
  path_between h n = rw (ne_eqb k 0 (λ q. omega arith), le-leb _ _ n)

  pub path_target : point_count points < k → target e ≡ path_point e points k
  unfolding path_point
  path_target h = rw (ne_eqb k 0 (λ q. omega arith), lt-leb _ _ h)

-- Point k + 1 of the path is point k of those between, and after the last of these comes the target.

module _ (e : Edge) (points : List ℕ) where
  pub between_point : (k : ℕ) → k < point_count points → path_point e points (k + 1) ≡ point_at points k
  between_point k h =
      let z : k + 1 - 1 ≡ k = omega arith in
      sym (path_between e points (k + 1) (omega arith) (omega arith)) ∙ rw z

  pub last_point : path_point e points (point_count points + 1) ≡ target e
  last_point = sym (path_target e points (point_count points + 1) (omega arith))

-- Toward a cell to the left, to the right, above, and not above.

module _ (a t : Point) where
  pub toward_left : t.x < a.x → Left ≡ toward a t
  unfolding toward
  toward_left h = rw (lt-ltb _ _ h)

  pub toward_right : a.x < t.x → Right ≡ toward a t
  unfolding toward
  toward_right h = rw (le-ltb t.x a.x (omega arith), lt-ltb _ _ h)

  pub toward_up : a.x ≡ t.x → t.y < a.y → Up ≡ toward a t
  unfolding toward
  toward_up p h = rw (le-ltb t.x a.x (omega arith), le-ltb a.x t.x (omega arith), lt-ltb _ _ h)

  pub toward_down : a.x ≡ t.x → a.y ≤ t.y → Down ≡ toward a t
  unfolding toward
  toward_down p h = rw (le-ltb t.x a.x (omega arith), le-ltb a.x t.x (omega arith), le-ltb _ _ h)

-- The marker of one end: not wanted, on a slanted leg, inside a long leg, on the only leg, and at the bend.

module _ (wanted only : Bool) (at next : Point) where
  pub end_unwanted : wanted ≡ false → None ≡ end_mark wanted only at next
  unfolding end_mark
  end_unwanted p = rw p

  module _ (along : Bool) (p : wanted ≡ true) (s : along ≡ straight at next) where
    pub end_slanted : along ≡ false → None ≡ end_mark wanted only at next
    unfolding end_mark
    end_slanted q = rw (p, ← s, q)

    module _ (far : Bool) (q : along ≡ true) (t : far ≡ long at next) where
      pub end_inside : (cell : Point) (r : EndMark) → far ≡ true → cell ≡ inside at next → r ≡ mark_facing cell at → Some r ≡ end_mark wanted only at next
      unfolding end_mark
      end_inside cell r l i e = rw (p, ← s, q, ← t, l, ← i, e)

      pub end_only : far ≡ false → only ≡ true → None ≡ end_mark wanted only at next
      unfolding end_mark
      end_only l o = rw (p, ← s, q, ← t, l, o)

      pub end_bend : (r : EndMark) → far ≡ false → only ≡ false → r ≡ mark_facing next at → Some r ≡ end_mark wanted only at next
      unfolding end_mark
      end_bend r l o e = rw (p, ← s, q, ← t, l, o, e)

-- The marker in a cell, or else what is drawn there.

module _ (mark : Option EndMark) (x y : ℕ) (other : Piece) where
  pub mark_none : mark ≡ None → other ≡ mark_or mark x y other
  unfolding mark_or
  mark_none m = rw m

  module _ (here : EndMark) (m : mark ≡ Some here) where
    pub mark_here : here.x ≡ x → here.y ≡ y → Mark x y here.dir ≡ mark_or mark x y other
    unfolding mark_or
    mark_here p q = rw (m, eq-eqb _ _ p, eq-eqb _ _ q)

    pub mark_beside : (here.x ≡ x → ⊥) → other ≡ mark_or mark x y other
    unfolding mark_or
    mark_beside p = rw (m, ne_eqb _ _ p)

    pub mark_above : here.x ≡ x → (here.y ≡ y → ⊥) → other ≡ mark_or mark x y other
    unfolding mark_or
    mark_above p q = rw (m, eq-eqb _ _ p, ne_eqb _ _ q)

-- What a leg draws.

module _ (target source : Option EndMark) (leg : PathLeg) (r : Piece) where
  -- its interior, along a column, along a row, and slanted

  pub on_column : leg.from.x ≡ leg.to.x → r ≡ column_line target source leg.from leg.to → r ≡ leg_line target source leg
  unfolding leg_line
  on_column h e = rw (eq-eqb _ _ h) e

  pub on_row :
      (leg.from.x ≡ leg.to.x → ⊥) →
      leg.from.y ≡ leg.to.y →
      r ≡ row_line target source leg.from leg.to →
      r ≡ leg_line target source leg
  unfolding leg_line
  on_row n h e = rw (ne_eqb _ _ n, eq-eqb _ _ h) e

  pub on_neither :
      (leg.from.x ≡ leg.to.x → ⊥) →
      (leg.from.y ≡ leg.to.y → ⊥) →
      r ≡ Nothing →
      r ≡ leg_line target source leg
  unfolding leg_line
  on_neither n m e = rw (ne_eqb _ _ n, ne_eqb _ _ m) e

  -- the bend at its start, where it is not the first
  pub bend_after :
      (w : Weight) →
      leg.first ≡ false →
      r ≡ bend_piece w target source leg.from leg.before leg.to →
      r ≡ leg_bend_piece w target source leg
  unfolding leg_bend_piece
  bend_after w h e = rw h e
