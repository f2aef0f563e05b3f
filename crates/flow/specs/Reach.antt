-- For the proofs alone: how the code finds rows and runs. (`reach-rows` and `reach-runs` of the proofs: they are the rows that the pieces touch, and their
-- runs.)
use Rattle.std.specs.Prelude.{ℕ, ◌+◌, ◌-◌, min, max, Bool, cond, List, [], ◌∷◌, ltb, Option, None}
use Rattle.rows.specs.declared.Rows.{Rows}
use Rattle.rows.specs.declared.Window.{Window}
use Rattle.rows.specs.Window.{join_rows}
use Rattle.rows.specs.Computed.{window_rows}
use Rattle.flow.specs.declared.Piece.{Piece}
use Rattle.flow.specs.declared.Piece.TheVariants.{Nothing, Vertical, Horizontal, Run, Stroke, Mark}
use Rattle.flow.specs.declared.Reach.{Reach}
use Rattle.flow.specs.Pieces.{piece_runs_in}

-- a row, where it is touched
abbrev pub row_if : Window → Bool → ℕ → Option Rows
row_if window touched row = cond touched (window_rows window row row) None

-- strictly between two numbers lies at least one
abbrev pub has_inside : ℕ → ℕ → Bool
has_inside from to = ltb (min from to + 1) (max from to)

-- the rows of a line, whose arrows do not matter: those strictly between two rows, and its row where a column lies strictly between two

unfoldable pub vertical_rows : Window → ℕ → ℕ → Option Rows
vertical_rows window from to = window_rows window (min from to + 1) (max from to - 1)

unfoldable pub horizontal_rows : Window → ℕ → ℕ → ℕ → Option Rows
horizontal_rows window row from to = row_if window (has_inside from to) row

unfoldable pub piece_rows : Window → Piece → Option Rows
piece_rows window Nothing = None
piece_rows window (Vertical l) = vertical_rows window l.from l.to
piece_rows window (Horizontal l) = horizontal_rows window l.lane l.from l.to
piece_rows window (Run row first last) = window_rows window row row
piece_rows window (Stroke x y arms) = window_rows window y y
piece_rows window (Mark x y dir) = window_rows window y y

-- the rows and the runs of nothing, of a piece, of two together, with rows more, and of many pieces

abbrev pub no_reach : Reach
no_reach = record { rows = None; runs = 0 }

unfoldable pub piece_reach : Window → Piece → Reach
piece_reach window p = record { rows = piece_rows window p; runs = piece_runs_in window p }

unfoldable pub join_reach : Reach → Reach → Reach
join_reach a b = record { rows = join_rows a.rows b.rows; runs = a.runs + b.runs }

unfoldable pub with_rows : Reach → Option Rows → Reach
with_rows reach more = record { rows = join_rows reach.rows more; runs = reach.runs }

unfoldable pub reach_of : Window → List Piece → Reach
reach_of window [] = no_reach
reach_of window (p ∷ rest) = join_reach (piece_reach window p) (reach_of window rest)
