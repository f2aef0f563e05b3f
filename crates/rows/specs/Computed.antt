-- For the proofs alone: how the code finds rows of a window. (`window-rows` of the proofs: they are the first and the last of the rows from a to b that
-- the window has.)
use Rattle.std.specs.Prelude.{ℕ, ◌+◌, ◌-◌, min, max, Bool, true, cond, ◌&&◌, leb, ltb, Option, None, Some}
use Rattle.rows.specs.declared.Rows.{Rows}
use Rattle.rows.specs.declared.Window.{Window}
use Rattle.rows.specs.Window.{stretch}

-- from a row to just before another
abbrev pub rows_up_to : ℕ → ℕ → Option Rows
rows_up_to from end = cond (ltb from end) (stretch from (end - 1)) None

-- the rows from a to b that the window has
unfoldable pub window_rows : Window → ℕ → ℕ → Option Rows
window_rows w a b = rows_up_to (max a w.first) (min (b + 1) (w.first + w.rows))

-- all rows lie from low to high
abbrev pub rows_within : ℕ → ℕ → Option Rows → Bool
rows_within low high None = true
rows_within low high (Some r) = leb low r.first && leb r.last high
