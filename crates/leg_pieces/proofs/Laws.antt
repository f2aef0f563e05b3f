-- The pieces of a leg, of the numbers and parts by which the code makes them.
use Rattle.std.specs.Prelude.{Option}
use Prim.Native.Nat.{ℕ}
use mathlib.Core.Path.{◌≡◌}
use Rattle.cell.specs.declared.Arms.{Arms}
use Rattle.cell.specs.declared.Dir.{Dir}
use Rattle.cell.specs.declared.Weight.{Weight}
use Rattle.cell.specs.OneCell.{heavier_arms}
use Rattle.image.specs.declared.Point.{Point}
use Rattle.flow.specs.declared.Head.{Head}
use Rattle.flow.specs.declared.Line.{Line}
use Rattle.flow.specs.declared.Piece.{Piece}
use Rattle.flow.specs.declared.Piece.TheVariants.{Vertical, Horizontal, Stroke}
use Rattle.flow.specs.Flow.{line_of}
use Rattle.orthogonal.specs.declared.EndMark.{EndMark}
use Rattle.orthogonal.specs.Orthogonal.{toward, only_arm, bend_arms, mark_or, bend_piece, head_on_column, head_on_row, column_line, row_line}

-- the interior of a leg along a column, and along a row
module _ (target source : Option EndMark) (from to : Point) (lane a b : ℕ) (winner other : Option Head) (line : Line) where
  pub along_column :
      lane ≡ from.x → a ≡ from.y → b ≡ to.y → winner ≡ head_on_column target lane → other ≡ head_on_column source lane →
      line ≡ line_of lane a b winner other →
      Vertical line ≡ column_line target source from to
  unfolding column_line
  along_column l p q w o e = rw (e, w, o, l, p, q)

  pub along_row :
      lane ≡ from.y → a ≡ from.x → b ≡ to.x → winner ≡ head_on_row target lane → other ≡ head_on_row source lane →
      line ≡ line_of lane a b winner other →
      Horizontal line ≡ row_line target source from to
  unfolding row_line
  along_row l p q w o e = rw (e, w, o, l, p, q)

-- the arms toward both neighbours
pub both_arms :
    (w : Weight) (at before next : Point) (back on : Dir) (one other r : Arms) →
    back ≡ toward at before → on ≡ toward at next → one ≡ only_arm w back → other ≡ only_arm w on → r ≡ heavier_arms one other →
    r ≡ bend_arms w at before next
unfolding bend_arms
both_arms w at before next back on one other r p q s t e = rw (e, s, t, p, q)

-- the bend at a stop, under the source's arrow, under the target's
pub bend_of :
    (w : Weight) (target source : Option EndMark) (at before next : Point) (x y : ℕ) (arms : Arms) (under r : Piece) →
    x ≡ at.x → y ≡ at.y → arms ≡ bend_arms w at before next → under ≡ mark_or source x y (Stroke x y arms) → r ≡ mark_or target x y under →
    r ≡ bend_piece w target source at before next
unfolding bend_piece
bend_of w target source at before next x y arms under r p q a u e = rw (e, u, a, p, q)
