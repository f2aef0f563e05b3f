-- The bands that are painted one after the other.
use Rattle.std.specs.Prelude.{ℕ, ◌*◌}
use Rattle.layout.specs.Layout.{max_width}

-- how many rows are painted at a time
abbrev pub band_rows : ℕ
band_rows = 64

-- cells of the widest band
abbrev pub band_cells : ℕ
band_cells = band_rows * max_width
