-- For the proofs alone: the rows and runs of a way that bends, by its numbers: its arms and arrows do not matter for them. (`bent-reached`
-- and `side-reached` of the proofs: they are those of its pieces.)
use Rattle.std.specs.Prelude.{ℕ, Bool, not, cond, eqb, Option, None}
use Rattle.rows.specs.declared.Rows.{Rows}
use Rattle.rows.specs.declared.Window.{Window}
use Rattle.flow.specs.declared.Reach.{Reach}
use Rattle.flow.specs.Pieces.{piece_runs_in}
use Rattle.flow.specs.Reach.{row_if, vertical_rows, join_reach, with_rows}
use Rattle.y_flow.specs.YFlow.{cross_run_y}

-- a trunk
abbrev pub trunk_rows : Window → Bool → ℕ → ℕ → Option Rows
trunk_rows window trunk y1 bend = cond trunk (vertical_rows window y1 bend) None

-- a crossing: all of it is on one row
unfoldable pub crossing_reach : Window → ℕ → ℕ → ℕ → Reach
crossing_reach window row x1 x2 = record {
  rows = row_if window (not (eqb x1 x2)) row;
  runs = piece_runs_in window (cross_run_y row x1 x2);
}

-- with a trunk, a stroke at its start, a crossing and a tail
unfoldable pub bent_reach : Reach → Window → Bool → Bool → ℕ → ℕ → ℕ → ℕ → ℕ → Reach
bent_reach reach window trunk start bend x1 y1 x2 y2 =
    with_rows
    (join_reach (with_rows (with_rows reach (trunk_rows window trunk y1 bend)) (row_if window start y1)) (crossing_reach window bend x1 x2))
    (vertical_rows window bend y2)

-- with a crossing, a channel, a crossing and a tail
unfoldable pub channel_reach : Reach → Window → ℕ → ℕ → ℕ → ℕ → ℕ → ℕ → Reach
channel_reach reach window channel start end x1 x2 y2 =
    with_rows
    (join_reach
    (with_rows (join_reach reach (crossing_reach window start x1 channel)) (vertical_rows window start end))
    (crossing_reach window end channel x2))
    (vertical_rows window end y2)
