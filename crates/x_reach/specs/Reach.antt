-- For the proofs alone: the rows of a way that bends, by its numbers: its arms and arrows do not matter for them. (`bent-reached` and `side-reached` of the
-- proofs: they are those of its pieces.)
use Rattle.std.specs.Prelude.{ℕ, min, max, Bool, cond, eqb, Option, None}
use Rattle.rows.specs.declared.Rows.{Rows}
use Rattle.rows.specs.declared.Window.{Window}
use Rattle.rows.specs.Computed.{window_rows}
use Rattle.flow.specs.declared.Reach.{Reach}
use Rattle.flow.specs.Reach.{row_if, horizontal_rows, with_rows}

-- a trunk
abbrev pub trunk_rows : Window → Bool → ℕ → ℕ → ℕ → Option Rows
trunk_rows window trunk y1 x1 bend = cond trunk (horizontal_rows window y1 x1 bend) None

-- a crossing: from one of its rows to the other
unfoldable pub crossing_rows : Window → ℕ → ℕ → Option Rows
crossing_rows window y1 y2 = cond (eqb y1 y2) None (window_rows window (min y1 y2) (max y1 y2))

-- with a trunk, a stroke at its start, a crossing and a tail
unfoldable pub bent_reach : Reach → Window → Bool → Bool → ℕ → ℕ → ℕ → ℕ → ℕ → Reach
bent_reach reach window trunk start bend x1 y1 x2 y2 =
    with_rows
    (with_rows (with_rows (with_rows reach (trunk_rows window trunk y1 x1 bend)) (row_if window start y1)) (crossing_rows window y1 y2))
    (horizontal_rows window y2 bend x2)

-- with a trunk, a crossing, a channel, a crossing and a tail
unfoldable pub channel_reach : Reach → Window → ℕ → ℕ → ℕ → ℕ → ℕ → ℕ → ℕ → Reach
channel_reach reach window channel start end x1 y1 x2 y2 =
    with_rows
    (with_rows
    (with_rows (with_rows (with_rows reach (horizontal_rows window y1 x1 start)) (crossing_rows window y1 channel)) (horizontal_rows window channel start end))
    (crossing_rows window channel y2))
    (horizontal_rows window y2 end x2)
