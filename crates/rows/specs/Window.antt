-- A window of rows, and which of its rows a test holds on, from the first to the last.
use Rattle.std.specs.Prelude.{ℕ, zero, suc, ◌+◌, ◌≤◌, ◌<◌, min, max, ◌≡◌, Bool, true, false, cond, ◌&&◌, leb, ltb, Option, None, Some}
use Rattle.rows.specs.declared.Rows.{Rows}
use Rattle.rows.specs.declared.Window.{Window}

-- the sheet is the window of all its rows
abbrev pub sheet_window : ℕ → ℕ → Window
sheet_window width height = record { width = width; first = 0; rows = height }

-- a row of the window
unfoldable pub in_window : Window → ℕ → Bool
in_window w y = leb w.first y && ltb y (w.first + w.rows)

-- from a row to another
abbrev pub stretch : ℕ → ℕ → Option Rows
stretch first last = Some (record { first = first; last = last })

-- from the least row of both to the greatest
abbrev pub join_rows : Option Rows → Option Rows → Option Rows
join_rows None r = r
join_rows (Some r) None = Some r
join_rows (Some r) (Some s) = stretch (min r.first s.first) (max r.last s.last)

-- the first and the last, of so many rows from y on, on which a test holds
unfoldable pub rows_from : (ℕ → Bool) → ℕ → ℕ → Option Rows
rows_from test y zero = None
rows_from test y (suc left) = join_rows (cond (test y) (stretch y y) None) (rows_from test (suc y) left)

-- the first and the last row of a window on which a test holds, or none
unfoldable pub touched_rows : Window → (ℕ → Bool) → Option Rows
touched_rows w test = rows_from test w.first w.rows

-- The same in words: of so many rows from a top one on, these are the first and the last on which the test holds; none where it holds on none.
abbrev pub FirstAndLast : ℕ → ℕ → (ℕ → Bool) → Option Rows → Type 0
FirstAndLast top rows test None = (y : ℕ) → top ≤ y → y < top + rows → test y ≡ false
FirstAndLast top rows test (Some r) =
    (top ≤ r.first)
    × (r.first ≤ r.last)
    × (r.last < top + rows)
    × (test r.first ≡ true)
    × (test r.last ≡ true)
    × ((y : ℕ) → top ≤ y → y < top + rows → test y ≡ true → (r.first ≤ y) × (y ≤ r.last))
