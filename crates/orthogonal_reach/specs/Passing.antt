-- For the proofs alone: how the code finds the rows of an Orthogonal path, point by point and without its arrows. (`passed-reach` of the proofs: they are the
-- rows of its pieces.)
use Rattle.std.specs.Prelude.{ℕ, Bool, true, false, cond, List, [], ◌∷◌, eqb, Option, None}
use Rattle.rows.specs.declared.Rows.{Rows}
use Rattle.rows.specs.declared.Window.{Window}
use Rattle.rows.specs.Window.{join_rows}
use Rattle.rows.specs.Computed.{window_rows}
use Rattle.image.specs.declared.Edge.{Edge}
use Rattle.image.specs.declared.Point.{Point}
use Rattle.flow.specs.Reach.{vertical_rows, horizontal_rows}
use Rattle.orthogonal_reach.specs.declared.Passed.{Passed}
use Rattle.orthogonal.specs.Points.{source, same_point}

-- the row of the bend at a leg's start, and the rows of its interior

unfoldable pub bend_rows : Window → Bool → ℕ → Option Rows
bend_rows window first y = cond first None (window_rows window y y)

unfoldable pub line_rows : Window → Point → Point → Option Rows
line_rows window from to =
    cond (eqb from.x to.x) (vertical_rows window from.y to.y)
    (cond (eqb from.y to.y) (horizontal_rows window from.y from.x to.x) None)

-- one point more, and many

abbrev pub pass_stop : Window → Passed → Point → Passed
pass_stop window passed point = record {
  stop = point;
  first = false;
  rows =
      join_rows (join_rows passed.rows (bend_rows window passed.first passed.stop.y))
      (line_rows window passed.stop point);
}

unfoldable pub pass_point : Window → Passed → Point → Passed
pass_point window passed point = cond (same_point passed.stop point) passed (pass_stop window passed point)

unfoldable pub pass_points : Window → Passed → List Point → Passed
pass_points window passed [] = passed
pass_points window passed (point ∷ rest) = pass_points window (pass_point window passed point) rest

-- before any point
abbrev pub pass_none : Edge → Passed
pass_none e = record { stop = source e; first = true; rows = None }
